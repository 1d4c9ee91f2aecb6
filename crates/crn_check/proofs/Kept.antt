-- The verdicts that facts hold, by their questions.
use Rattle.crn_check.proofs.Prelude.{◌≡◌, ◌≢◌, inl, inr, ◌==◌, true, false, ℕ, suc, ◌+◌, ◌-◌, ◌<◌, ◌≤◌, List, [], ◌∷◌, ◌++◌, length, map, get_or, drop, refl, sym, ap, subst, ◌∙◌, arith, eq-eqb, ne_eqb, append-nil, drop_more, length-map, Verdict, Earlier, Question, Q15, questions, number, on, some_number, few_numbers, Fact, asked, HoldsOn, HoldsNoneFrom, AreInOrder}

number_at : (k : ℕ) → k < 15 → number (get_or questions k Q15) ≡ k + 1
number_at (suc (suc (suc (suc (suc (suc (suc (suc (suc (suc (suc (suc (suc (suc (suc k))))))))))))))) lt = absurd (omega arith)
number_at k lt = refl

pub number_asked : (n : ℕ) → 1 ≤ n → n ≤ 15 → number (asked n) ≡ n
number_asked n one few = number_at (n - 1) (omega arith) ∙ omega arith

-- the verdicts of facts with their questions
abbrev pub earlier_of : List Fact → Earlier
earlier_of facts = map (λ (f : Fact). (asked f.question, f.verdict)) facts

-- the numbers of the questions of facts
abbrev pub numbers_of : List Fact → List ℕ
numbers_of facts = map (λ (f : Fact). f.question) facts

pub order_few : (k : ℕ) (ns : List ℕ) → AreInOrder k ns → k + length ns ≤ 15
order_few k [] h = omega (arith, h)
order_few k (n ∷ ns) h = let few = order_few n ns h.1 in omega (arith, h.0, few)

-- the verdicts of facts are those of their questions
verdicts_in_order : (facts : List Fact) → map (λ (f : Fact). f.verdict) facts ≡ map (λ (e : Question × Verdict). e.1) (earlier_of facts)
verdicts_in_order [] = refl
verdicts_in_order (f ∷ fs) = ap (λ (vs : List Verdict). f.verdict ∷ vs) (verdicts_in_order fs)

-- they are given one after another, none at the beginning
pub none_given : (given : List Verdict) (items rest : List Fact) (earlier : Earlier) → given ≡ [] → rest ≡ items → earlier_of items ≡ earlier → AreInOrder 0 (numbers_of items)
    → (given ≡ []) × (earlier_of rest ≡ earlier) × (length rest ≤ 15)
none_given given items rest earlier none same all order =
    (none, ap (λ (fs : List Fact). earlier_of fs) same ∙ all, omega (arith, ap (λ (fs : List Fact). length fs) same, length-map items (λ (f : Fact). f.question), order_few 0 (numbers_of items) order))

-- and all at the end
pub all_given : (given : List Verdict) (items rest : List Fact) (earlier : Earlier) → given ≡ map (λ (f : Fact). f.verdict) items → earlier_of (items ++ rest) ≡ earlier → length rest ≡ 0 → given ≡ map (λ (e : Question × Verdict). e.1) earlier
all_given given items [] earlier is all none =
    is ∙ verdicts_in_order items ∙ ap (λ (es : Earlier). map (λ (e : Question × Verdict). e.1) es) (sym (ap (λ (fs : List Fact). earlier_of fs) (append-nil items)) ∙ all)
all_given given items (f ∷ rest) earlier is all none = absurd (omega (arith, none))

-- facts from a place on hold the verdict on a question, and it is that of all facts
pub record IsAhead (facts : List Fact) (earlier : Earlier) (n : ℕ) : Type 0 where
  pub last : ℕ
  pub order : AreInOrder last (numbers_of facts)
  pub holds : HoldsOn (earlier_of facts) n
  pub same : on (earlier_of facts) (asked n) ≡ on earlier (asked n)

pub all_ahead : (facts : List Fact) (n : ℕ) → AreInOrder 0 (numbers_of facts) → HoldsOn (earlier_of facts) n → IsAhead facts (earlier_of facts) n
all_ahead facts n order holds = record { last = 0; order = order; holds = holds; same = refl }

-- a question with a verdict has a number from 1 to 15
pub held_few : (earlier : Earlier) (n : ℕ) → HoldsOn earlier n → (1 ≤ n) × (n ≤ 15)
held_few [] n h = absurd h
held_few (e ∷ es) n (inl is) = (omega (arith, some_number e.0, is), omega (arith, few_numbers e.0, is))
held_few (e ∷ es) n (inr later) = held_few es n later

here : (f : Fact) (fs : List Fact) (earlier : Earlier) (n : ℕ) → IsAhead (f ∷ fs) earlier n → f.question ≡ n → f.verdict ≡ on earlier (asked n)
here f fs earlier n h is = sym found ∙ h.same
  where
    equal : (number (asked f.question) == number (asked n)) ≡ true
    equal = eq-eqb _ _ (ap (λ (x : ℕ). number (asked x)) is)

    found : on (earlier_of (f ∷ fs)) (asked n) ≡ f.verdict
    found = rw equal refl

later : (f : Fact) (fs : List Fact) (earlier : Earlier) (n : ℕ) → IsAhead (f ∷ fs) earlier n → f.question ≢ n → IsAhead fs earlier n
later f fs earlier n h other = record {
  last = f.question;
  order = h.order.1;
  holds = elim h.holds [ inl is ↦ absurd (other (sym (is ∙ its))) | inr rest ↦ rest ];
  same = sym skipped ∙ h.same;
}
  where
    few : f.question ≤ 15
    few = let all = order_few f.question (numbers_of fs) h.order.1 in omega arith

    its : number (asked f.question) ≡ f.question
    its = number_asked f.question (omega (arith, h.order.0)) (omega (arith, few))

    asks : number (asked n) ≡ n
    asks = let r = held_few (earlier_of (f ∷ fs)) n h.holds in number_asked n r.0 r.1

    differ : (number (asked f.question) == number (asked n)) ≡ false
    differ = ne_eqb _ _ (λ e. other (sym its ∙ e ∙ asks))

    skipped : on (earlier_of (f ∷ fs)) (asked n) ≡ on (earlier_of fs) (asked n)
    skipped = rw differ refl

pub ahead_here : (facts : List Fact) (i : ℕ) (f : Fact) (earlier : Earlier) (n : ℕ) → IsAhead (drop i facts) earlier n → i < length facts → f ≡ get_or facts i f → f.question ≡ n → f.verdict ≡ on earlier (asked n)
ahead_here facts i f earlier n h lt is = here f (drop (i + 1) facts) earlier n (subst (λ (fs : List Fact). IsAhead fs earlier n) (drop_more facts i f lt ∙ ap (λ (g : Fact). g ∷ drop (i + 1) facts) (sym is)) h)

pub ahead_later : (facts : List Fact) (i : ℕ) (f : Fact) (earlier : Earlier) (n : ℕ) → IsAhead (drop i facts) earlier n → i < length facts → f ≡ get_or facts i f → f.question ≢ n → IsAhead (drop (i + 1) facts) earlier n
ahead_later facts i f earlier n h lt is = later f (drop (i + 1) facts) earlier n (subst (λ (fs : List Fact). IsAhead fs earlier n) (drop_more facts i f lt ∙ ap (λ (g : Fact). g ∷ drop (i + 1) facts) (sym is)) h)

-- ---- a verdict on a later question

-- the first of facts in order has a question below n, if all have
below : (g : Fact) (gs : List Fact) (k n : ℕ) → AreInOrder k (numbers_of (g ∷ gs)) → HoldsNoneFrom n (earlier_of (g ∷ gs)) → g.question < n
below g gs k n h none =
    let all = order_few g.question (numbers_of gs) h.1 in
    let its : number (asked g.question) ≡ g.question = number_asked g.question (omega (arith, h.0)) (omega (arith, all)) in
    omega (arith, none.0, its)

pub order_push : (items : List Fact) (k n : ℕ) (f : Fact) → AreInOrder k (numbers_of items) → HoldsNoneFrom n (earlier_of items) → k < n → n ≤ 15 → f.question ≡ n → AreInOrder k (numbers_of (items ++ f ∷ []))
order_push [] k n f h none lt few is = (omega (arith, lt, is), omega (arith, few, is))
order_push (g ∷ gs) k n f h none lt few is = (h.0, order_push gs g.question n f h.1 none.1 (below g gs k n h none) few is)

-- facts in order on questions before n are fewer than n
pub few_before : (items : List Fact) (k n : ℕ) → AreInOrder k (numbers_of items) → HoldsNoneFrom n (earlier_of items) → k < n → k + length items < n
few_before [] k n h none lt = omega (arith, lt)
few_before (g ∷ gs) k n h none lt = let more = few_before gs g.question n h.1 none.1 (below g gs k n h none) in omega (arith, h.0, more)
