-- Facts on the built questions before one hold the verdicts that its checks look at, and none on a later question.
use Rattle.crn_check.proofs.Prelude.{◌≡◌, ◌<◌, inl, inr, ℕ, zero, suc, List, [], ◌∷◌, map, take, length, get_or, refl, sym, ap, subst, arith, AllByRecursion, IsIn, Verdict, built, Earlier, Question, Q1, number, HoldsOn, HoldsNoneFrom, HoldsNeeds, IsBuilt, needs, asked}

-- the questions of verdicts
abbrev asks : Earlier → List Question
asks es = map (λ (e : Question × Verdict). e.0) es

-- the number of the built question at a place, counted from 0
abbrev pub built_at : ℕ → ℕ
built_at k = number (get_or built k Q1)

held : (es : Earlier) (q : Question) → IsIn q (asks es) → HoldsOn es (number q)
held [] q h = absurd h
held (e ∷ es) q (inl is) = inl (ap number is)
held (e ∷ es) q (inr later) = inr (held es q later)

below : (es : Earlier) (n : ℕ) → AllByRecursion (λ q. number q < n) (asks es) → HoldsNoneFrom n es
below [] n h = tt
below (e ∷ es) n h = (h.0, below es n h.1)

-- the questions at whose verdicts the tests of a question look come before it
needs_before : (k : ℕ) → k < length built → AllByRecursion (λ q. IsIn q (take k built)) (needs (asked (built_at k)))
needs_before (suc (suc (suc zero))) lt = (inr (inl refl), tt)
needs_before (suc (suc (suc (suc (suc zero))))) lt = (inl refl, (inr (inr (inr (inr (inl refl)))), tt))
needs_before (suc (suc (suc (suc (suc (suc (suc (suc zero)))))))) lt = (inl refl, (inr (inr (inr (inl refl))), (inr (inr (inr (inr (inl refl)))), tt)))
needs_before (suc (suc (suc (suc (suc (suc (suc (suc (suc zero))))))))) lt = (inl refl, (inr (inl refl), (inr (inr (inr (inr (inr (inl refl))))), tt)))
needs_before (suc (suc (suc (suc (suc (suc (suc (suc (suc (suc zero)))))))))) lt = (inl refl, (inr (inl refl), (inr (inr (inr (inr (inr (inr (inl refl)))))), tt)))
needs_before (suc (suc (suc (suc (suc (suc (suc (suc (suc (suc (suc zero))))))))))) lt = (inl refl, (inr (inl refl), (inr (inr (inr (inl refl))), (inr (inr (inr (inr (inr (inr (inr (inr (inr (inr (inl refl)))))))))), tt))))
needs_before (suc (suc (suc (suc (suc (suc (suc (suc (suc (suc (suc (suc zero)))))))))))) lt = (inr (inl refl), (inr (inr (inr (inl refl))), (inr (inr (inr (inr (inr (inr (inr (inr (inr (inr (inr (inl refl))))))))))), tt)))
needs_before (suc (suc (suc (suc (suc (suc (suc (suc (suc (suc (suc (suc (suc (suc (suc k))))))))))))))) lt = let few : suc (suc (suc (suc (suc (suc (suc (suc (suc (suc (suc (suc (suc (suc (suc k)))))))))))))) < 15 = lt in absurd (omega (arith, few))
needs_before k lt = tt

all_held : (es : Earlier) (k : ℕ) (qs : List Question) → asks es ≡ take k built → AllByRecursion (λ q. IsIn q (take k built)) qs → AllByRecursion (λ q. HoldsOn es (number q)) qs
all_held es k [] before all = tt
all_held es k (q ∷ qs) before all = (held es q (subst (IsIn q) (sym before) all.0), all_held es k qs before all.1)

pub needs_held : (es : Earlier) (k : ℕ) → k < length built → asks es ≡ take k built → HoldsNeeds es (built_at k)
needs_held es k lt before = all_held es k (needs (asked (built_at k))) before (needs_before k lt)

pub none_from : (es : Earlier) (k : ℕ) → k < length built → asks es ≡ take k built → HoldsNoneFrom (built_at k) es
none_from es k lt before = below es (built_at k) (subst (AllByRecursion (λ q. number q < built_at k)) (sym before) (go k lt))
  where
    go : (k : ℕ) → k < length built → AllByRecursion (λ q. number q < built_at k) (take k built)
    go (suc (suc (suc (suc (suc (suc (suc (suc (suc (suc (suc (suc (suc (suc (suc k))))))))))))))) lt = let few : suc (suc (suc (suc (suc (suc (suc (suc (suc (suc (suc (suc (suc (suc (suc k)))))))))))))) < 15 = lt in absurd (omega (arith, few))
    go k lt = omega arith

-- ---- a built question by its number

asked_back : (q : Question) → asked (number q) ≡ q
asked_back Q1 = refl
asked_back q = refl

among : (n : ℕ) (qs : List Question) → IsIn n (map number qs) → number (asked n) ≡ n
among n [] i = absurd i
among n (q ∷ qs) (inl e) = subst (λ (m : ℕ). number (asked m) ≡ m) (sym e) (ap number (asked_back q))
among n (q ∷ qs) (inr i) = among n qs i

pub asked_number : (n : ℕ) → IsBuilt n → number (asked n) ≡ n
asked_number n i = among n built i

-- what holds of it holds of the number of its question
pub by_number : (P : ℕ → Type 0) (n : ℕ) → IsBuilt n → P n → P (number (asked n))
by_number P n i p = subst P (sym (asked_number n i)) p

pub by_question : (P : ℕ → Type 0) → ((q : Question) → P (number q)) → (n : ℕ) → IsBuilt n → P n
by_question P each n i = subst P (asked_number n i) (each (asked n))
