-- For the contracts of private functions alone. What the answers to questions 11 and 12 give to question 13.
-- Source: this project's own.
use Rattle.std.specs.List.{AllByRecursion}
use Rattle.crn_vec.specs.Network.{Net}
use Rattle.crn_cert.specs.Ranges.{IsNarrow}
use Rattle.crn_cert.specs.declared.answer.Proof.{Proof}
use Rattle.crn_cert.specs.declared.answer.Proof.TheVariants.{Sides}
use Rattle.crn_cert.specs.declared.answer.Verdict.{Verdict}
use Rattle.crn_cert.specs.declared.answer.Verdict.TheVariants.{YesVec}
use Rattle.crn_shape.specs.Sides.{AreSides}

-- if question 12 gives a vector, its entries are numbers of a certificate, and the proof of question
-- 11 holds the sides of the linked pairs within terminal classes
abbrev pub GiveSides : Net → Verdict → Proof → Type 0
GiveSides net (YesVec vector) (Sides sides) = AreSides net sides
    × AllByRecursion IsNarrow vector.list
GiveSides net (YesVec vector) proof = ⊥
GiveSides net verdict proof = Unit {0}
