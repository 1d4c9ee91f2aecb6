-- The first reaction that joins two complexes of different labels decides weak reversibility.
use Rattle.crn_solve.proofs.Prelude.{◌≡◌, ℕ, ◌+◌, ◌-◌, ◌<◌, List, length, get_or, refl, sym, ap, subst, ◌∙◌, inl, inr, arith, ◌==◌, cases_Bool, eq-eqb, eqb-true, false≢true, Net, IsNetwork, place_of, Answer, Yes, NoReaction, Earlier, Q2, Q4, on, IsTrueOf, AreEven, IsFormed, strong, IsValid, valid_answers_are_true, IsDecidedAnswer, JoinsTwoLabels, IsFirstLeaving, plain}

-- a reaction whose complexes have equal labels does not join two of different labels
pub joins_one : (net : Net) (labels : List ℕ) (r y z : ℕ) → y ≡ (get_or net.reactions r (0, 0)).0 → z ≡ (get_or net.reactions r (0, 0)).1 → get_or labels y 0 ≡ get_or labels z 0 → JoinsTwoLabels net labels (r + 1) → ⊥
joins_one net labels r y z from to same j =
    let at : get_or net.reactions r (0, 0) ≡ (j.0, j.1) = ap (λ (k : ℕ). get_or net.reactions k (0, 0)) (omega arith) ∙ j.2.1.1 in
    let left : y ≡ j.0 = from ∙ ap (λ (p : ℕ × ℕ). p.0) at in
    let right : z ≡ j.1 = to ∙ ap (λ (p : ℕ × ℕ). p.1) at in
    j.3 (ap (λ (k : ℕ). get_or labels k 0) (sym left) ∙ same ∙ ap (λ (k : ℕ). get_or labels k 0) right)

-- a reaction whose complexes have different labels does
pub joins_two : (net : Net) (labels : List ℕ) (r y z : ℕ) → r < length net.reactions → y ≡ (get_or net.reactions r (0, 0)).0 → z ≡ (get_or net.reactions r (0, 0)).1 → (get_or labels y 0 ≡ get_or labels z 0 → ⊥) → JoinsTwoLabels net labels (r + 1)
joins_two net labels r y z lt from to other =
    let at : get_or net.reactions (r + 1 - 1) (0, 0) ≡ (y, z) = ap (λ (k : ℕ). get_or net.reactions k (0, 0)) (omega arith) ∙ sym (ap (λ (k : ℕ). (k, z)) from ∙ ap (λ (k : ℕ). ((get_or net.reactions r (0, 0)).0, k)) to) in
    (y, z, (omega arith, (omega (arith, lt), at)), other)

-- labels are even if no reaction joins two complexes of different labels
pub even_if_none : (net : Net) (labels : List ℕ) → ((r y z : ℕ) → r < length net.reactions → get_or net.reactions r (0, 0) ≡ (y, z) → (get_or labels y 0 ≡ get_or labels z 0 → ⊥) → ⊥) → AreEven net labels
even_if_none net labels none y z i =
    let k = place_of (y, z) net.reactions i in
    by_cases (get_or labels y 0) (get_or labels z 0) (none k.0 y z k.1 k.2)
  where
    by_cases : (a b : ℕ) → ((a ≡ b → ⊥) → ⊥) → a ≡ b
    by_cases a b h = elim (cases_Bool (a == b)) [
      | inl hit ↦ eqb-true a b hit
      | inr miss ↦ absurd (h (λ e. false≢true (sym miss ∙ eq-eqb a b e)))
    ]

-- ---- the two answers

pub weak_yes : (net : Net) (labels : List ℕ) (earlier : Earlier) → IsNetwork net → strong earlier ≡ labels → IsTrueOf net Q2 (on earlier Q2) → AreEven net labels → IsDecidedAnswer net earlier Q4 (plain Yes)
weak_yes net labels earlier n same known even =
    let answer : Answer = plain Yes in
    let formed : IsFormed net earlier Q4 answer = (record { head = tt; rows = tt; trees = tt }, (refl, refl)) in
    let valid : IsValid net earlier Q4 answer = (subst (AreEven net) (sym same) even, tt) in
    record { formed = formed; valid = valid; true_of = valid_answers_are_true Q4 net earlier answer n (known, tt) tt formed valid; decided = λ o. o }

pub weak_no : (net : Net) (labels : List ℕ) (r : ℕ) (earlier : Earlier) → IsNetwork net → strong earlier ≡ labels → IsTrueOf net Q2 (on earlier Q2) → IsFirstLeaving net labels r → IsDecidedAnswer net earlier Q4 (plain (NoReaction r))
weak_no net labels r earlier n same known h =
    let answer : Answer = plain (NoReaction r) in
    let formed : IsFormed net earlier Q4 answer = (record { head = (h.from, tt); rows = tt; trees = tt }, (refl, refl)) in
    let valid : IsValid net earlier Q4 answer = (subst (λ (ls : List ℕ). JoinsTwoLabels net ls r) (sym same) h.leaves, tt) in
    record { formed = formed; valid = valid; true_of = valid_answers_are_true Q4 net earlier answer n (known, tt) tt formed valid; decided = λ o. o }
