-- The questions that are answered, by their places among them.
use Rattle.crn_document.proofs.Prelude.{◌≡◌, ◌≤◌, ◌<◌, ◌-◌, ◌∙◌, ℕ, zero, suc, [], length, map, take, drop, refl, sym, subst, inl, inr, arith, slice_index_or, Verdict, built, Earlier, Question, Q1, number, HoldsNoneFrom, HoldsNeeds, IsBuilt, built_at, needs_held, none_from, before, IsAt, by_question}

-- the question at each place
pub at_place : (place : ℕ) → 1 ≤ place → place ≤ 15 → IsAt place (number (slice_index_or built (place - 1) Q1))
at_place zero low high = absurd (omega (arith, low))
at_place (suc zero) low high = record { answered = inl refl; earlier = refl; later = refl; with_it = refl }
at_place (suc (suc zero)) low high = record { answered = inr (inl refl); earlier = refl; later = refl; with_it = refl }
at_place (suc (suc (suc zero))) low high = record { answered = inr (inr (inl refl)); earlier = refl; later = refl; with_it = refl }
at_place (suc (suc (suc (suc zero)))) low high = record { answered = inr (inr (inr (inl refl))); earlier = refl; later = refl; with_it = refl }
at_place (suc (suc (suc (suc (suc zero))))) low high = record { answered = inr (inr (inr (inr (inl refl)))); earlier = refl; later = refl; with_it = refl }
at_place (suc (suc (suc (suc (suc (suc zero)))))) low high = record { answered = inr (inr (inr (inr (inr (inl refl))))); earlier = refl; later = refl; with_it = refl }
at_place (suc (suc (suc (suc (suc (suc (suc zero))))))) low high = record { answered = inr (inr (inr (inr (inr (inr (inl refl)))))); earlier = refl; later = refl; with_it = refl }
at_place (suc (suc (suc (suc (suc (suc (suc (suc zero)))))))) low high = record { answered = inr (inr (inr (inr (inr (inr (inr (inl refl))))))); earlier = refl; later = refl; with_it = refl }
at_place (suc (suc (suc (suc (suc (suc (suc (suc (suc zero))))))))) low high = record { answered = inr (inr (inr (inr (inr (inr (inr (inr (inl refl)))))))); earlier = refl; later = refl; with_it = refl }
at_place (suc (suc (suc (suc (suc (suc (suc (suc (suc (suc zero)))))))))) low high = record { answered = inr (inr (inr (inr (inr (inr (inr (inr (inr (inl refl))))))))); earlier = refl; later = refl; with_it = refl }
at_place (suc (suc (suc (suc (suc (suc (suc (suc (suc (suc (suc zero))))))))))) low high = record { answered = inr (inr (inr (inr (inr (inr (inr (inr (inr (inr (inl refl)))))))))); earlier = refl; later = refl; with_it = refl }
at_place (suc (suc (suc (suc (suc (suc (suc (suc (suc (suc (suc (suc zero)))))))))))) low high = record { answered = inr (inr (inr (inr (inr (inr (inr (inr (inr (inr (inr (inl refl))))))))))); earlier = refl; later = refl; with_it = refl }
at_place (suc (suc (suc (suc (suc (suc (suc (suc (suc (suc (suc (suc (suc zero))))))))))))) low high = record { answered = inr (inr (inr (inr (inr (inr (inr (inr (inr (inr (inr (inr (inl refl)))))))))))); earlier = refl; later = refl; with_it = refl }
at_place (suc (suc (suc (suc (suc (suc (suc (suc (suc (suc (suc (suc (suc (suc zero)))))))))))))) low high = record { answered = inr (inr (inr (inr (inr (inr (inr (inr (inr (inr (inr (inr (inr (inl refl))))))))))))); earlier = refl; later = refl; with_it = refl }
at_place (suc (suc (suc (suc (suc (suc (suc (suc (suc (suc (suc (suc (suc (suc (suc zero))))))))))))))) low high = record { answered = inr (inr (inr (inr (inr (inr (inr (inr (inr (inr (inr (inr (inr (inr (inl refl)))))))))))))); earlier = refl; later = refl; with_it = refl }
at_place (suc (suc (suc (suc (suc (suc (suc (suc (suc (suc (suc (suc (suc (suc (suc (suc n)))))))))))))))) low high = absurd (omega (arith, high))

-- none is left after the last
pub none_left : (place : ℕ) → place ≡ 16 → drop (place - 1) built ≡ []
none_left place e = subst (λ (k : ℕ). drop (k - 1) built ≡ []) (sym e) refl

pub all_taken : (place : ℕ) → place ≡ 16 → take (place - 1) built ≡ built
all_taken place e = subst (λ (k : ℕ). take (k - 1) built ≡ built) (sym e) refl

few : (k : ℕ) → k < 15 → k < length built
few k lt = lt

-- the place of a question, counted from 0
abbrev pub HasPlace : ℕ → Type 0
HasPlace n = (k : ℕ) × (k < length built) × (before n ≡ take k built) × (built_at k ≡ n)

place_of : (q : Question) → HasPlace (number q)
place_of Q1 = (0, few 0 (omega arith), refl, refl)
place_of q = (number q - 1, few (number q - 1) (omega arith), refl, refl)

pub place_of_built : (n : ℕ) → IsBuilt n → HasPlace n
place_of_built n i = by_question HasPlace place_of n i

-- the verdicts on the questions before one are those that its tests look at, and on none later
pub needs_at : (es : Earlier) (n : ℕ) → IsBuilt n → map (λ (e : Question × Verdict). e.0) es ≡ before n → HoldsNeeds es n
needs_at es n is before_it = let p = place_of_built n is in subst (λ (m : ℕ). HoldsNeeds es m) p.3 (needs_held es p.0 p.1 (before_it ∙ p.2))

pub none_later : (es : Earlier) (n : ℕ) → IsBuilt n → map (λ (e : Question × Verdict). e.0) es ≡ before n → HoldsNoneFrom n es
none_later es n is before_it = let p = place_of_built n is in subst (λ (m : ℕ). HoldsNoneFrom m es) p.3 (none_from es p.0 p.1 (before_it ∙ p.2))
