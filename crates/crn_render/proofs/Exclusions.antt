-- Verdicts on one question that exclude each other.
use Rattle.crn_render.proofs.Prelude.{◌≡◌, ◌-◌, ℕ, List, sym, ◌∙◌, ap, refl, arith, ints, Bool, true, false, IsTrue, ◌↔◌, ℤ, sum, Net, IsZero, AreProportional, IsReversible, StaysStrong, ReactsTo, IsDeficiencyOne, HasOtherSum, HasConfluenceLine, HasNoConfluence, reaction_in, IsReactionNumber, HasNoReverse, LeavesStrongClass, IsPlane}
use Rattle.crn_render.proofs.OneNumbers.{total_one, classes_one}

-- ---- reversibility

-- a reaction by its number
is_reaction : (net : Net) (r y z : ℕ) → IsReactionNumber net r y z → ReactsTo net.reactions y z
is_reaction net r y z p = reaction_in net.reactions (r - 1) (y, z) p.1.0 p.1.1

pub reverse_or_not : (net : Net) (r : ℕ) → IsReversible net.reactions → HasNoReverse net r → ⊥
reverse_or_not net r p q = q.3 (p q.0 q.1 (is_reaction net r q.0 q.1 q.2))

pub stays_or_not : (net : Net) (r : ℕ) → StaysStrong net.reactions → LeavesStrongClass net r → ⊥
stays_or_not net r p q = q.3 (p q.0 q.1 (is_reaction net r q.0 q.1 q.2))

-- ---- the deficiency theorems

-- two tests of one fact give one answer
pub tests_one : {P : Type 0} (a b : Bool) → IsTrue a ↔ P → IsTrue b ↔ P → a ≡ b
tests_one true true p q = refl
tests_one true false p q = sym (q.1 (p.0 refl))
tests_one false true p q = p.1 (q.0 refl)
tests_one false false p q = refl

pub sum_is_other : (net : Net) (x : ℕ) → IsDeficiencyOne net → HasOtherSum net x → ⊥
sum_is_other net x p q =
    let total : p.total ≡ q.total = total_one net p.total q.total p.classes q.classes p.deficiencies q.deficiencies in
    let classes : p.classes ≡ q.classes = classes_one net p.total q.total p.classes q.classes p.deficiencies q.deficiencies in
    q.other (sym q.is ∙ ap sum (sym classes) ∙ p.additive ∙ total)

pub sums_one : (net : Net) (x y : ℕ) → HasOtherSum net x → HasOtherSum net y → x ≡ y
sums_one net x y p q = sym p.is ∙ ap sum (classes_one net p.total q.total p.classes q.classes p.deficiencies q.deficiencies) ∙ q.is

-- ---- the confluence space

pub line_is_not_zero : (net : Net) → HasConfluenceLine net → HasNoConfluence net → ⊥
line_is_not_zero net p q = p.some.2.1 (q p.some.0 p.some.1 p.some.2.0)

-- zero is proportional to every list
zero_proportional : (g h : List ℤ) → IsZero g → AreProportional g h
zero_proportional g h z i k = rw (z i, z k) (omega (arith, ints))

pub plane_is_not_zero : (net : Net) (g h : List ℤ) → HasNoConfluence net → IsPlane net g h → ⊥
plane_is_not_zero net g h p q = q.apart (zero_proportional g h (p g q.one))
