-- What the check of an answer says: all its tests hold, or the first that fails.
-- Source: this project's own.
-- Shapes: questions and parts count from 1; part 0 is the head.
use Rattle.std.specs.Prelude.{◌≡◌, ◌⊎◌, ◌==◌, if◌then◌else◌, ℕ, List, [], ◌∷◌, map, Result, Ok, Err}
use Rattle.std.specs.List.{AllByRecursion}
use Rattle.crn_vec.specs.Lists.{IsIn}
use Rattle.crn_vec.specs.Network.{Net}
use Rattle.crn_vec.specs.Signals.{Shape}
use Rattle.crn_vec.specs.NetSignals.{IsShapeOf}
use Rattle.crn_cert.specs.declared.answer.Proof.{Proof}
use Rattle.crn_cert.specs.declared.answer.Proof.TheVariants.{One, Two}
use Rattle.crn_cert.specs.declared.answer.Verdict.{Verdict}
use Rattle.crn_cert.specs.declared.answer.Verdict.TheVariants.{Yes, No, YesSignal}
use Rattle.crn_cert.specs.Built.{built}
use Rattle.crn_cert.specs.Questions.{Earlier, Question, Q1, Q2, Q4, Q5, Q6, Q7, Q9, Q10, Q11, Q12, Q13, number}
use Rattle.crn_cert.specs.Tests.{Test, AllHold, FailsFirst}
use Rattle.crn_cert.specs.Valid.{OfVector}
use Rattle.crn_check.specs.declared.fault.CheckFault.{CheckFault}
use Rattle.crn_check.specs.Facts.{asked, HoldsOn}

-- the question of this number is answered
abbrev pub IsBuilt : ℕ → Type 0
IsBuilt n = IsIn n (map number built)

-- the questions at whose verdicts the form or the tests of an answer look
abbrev pub needs : Question → List Question
needs Q4 = Q2 ∷ []
needs Q6 = Q1 ∷ Q5 ∷ []
needs Q9 = Q1 ∷ Q4 ∷ Q5 ∷ []
needs Q10 = Q1 ∷ Q2 ∷ Q6 ∷ []
needs Q11 = Q1 ∷ Q2 ∷ Q7 ∷ []
needs Q12 = Q1 ∷ Q2 ∷ Q4 ∷ Q11 ∷ []
needs Q13 = Q2 ∷ Q4 ∷ Q12 ∷ []
needs q = []

-- a tree shows an answer to the question of this number: a no to question 13, a yes to the others
abbrev pub AsksForTree : ℕ → Type 0
AsksForTree n = (n ≡ 13) ⊎ ((n ≡ 14) ⊎ (n ≡ 15))

-- the place, counted from 1, of the form of a head below which trees follow
abbrev pub tree_place : ℕ → ℕ
tree_place n = if n == 13 then 2 else 1

-- the verdict that trees show
abbrev pub shown_by_tree : Question → Verdict
shown_by_tree Q13 = No
shown_by_tree q = Yes

-- there is a verdict on each question at whose verdict an answer to this one looks
abbrev pub HoldsNeeds : Earlier → ℕ → Type 0
HoldsNeeds earlier n = AllByRecursion (λ q. HoldsOn earlier (number q)) (needs (asked n))

-- the proof holds no tree
abbrev pub HoldsNoTree : Proof → Type 0
HoldsNoTree (One tree) = ⊥
HoldsNoTree (Two tree second) = ⊥
HoldsNoTree other = Unit {0}

-- the verdict is no signal
abbrev pub HoldsNoSignal : Verdict → Type 0
HoldsNoSignal (YesSignal turn shelves mu level weights) = ⊥
HoldsNoSignal other = Unit {0}

-- the verdict is a signal, and the shape is that of the vector of question 12 with its turn
abbrev pub IsShapeFor : Net → Earlier → Verdict → Shape → Type 0
IsShapeFor net earlier (YesSignal turn shelves mu level weights) shape =
    OfVector earlier turn (λ g. IsShapeOf net g shape)
IsShapeFor net earlier other shape = ⊥

-- all tests hold, or the fault names the first that fails
abbrev pub Judges : List Test → Result Unit CheckFault → Type 0
Judges tests (Ok done) = AllHold tests
Judges tests (Err fault) = FailsFirst tests fault.part fault.code
