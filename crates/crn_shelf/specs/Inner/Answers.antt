-- For the contracts of private functions alone.
-- The answers that the ends of the searches, or their stops, give.
-- Source: this project's own.
use Rattle.std.specs.Prelude.{◌≡◌, ℕ, ℤ, pos, negsuc, List, map, take}
use Rattle.crn_vec.specs.declared.signs.Sign.{Sign}
use Rattle.crn_vec.specs.declared.signs.Sign.TheVariants.{Zero, Plus, Minus}
use Rattle.crn_vec.specs.Kept.{KeptInts}
use Rattle.crn_vec.specs.Vectors.{entry}
use Rattle.crn_cert.specs.declared.answer.Gap.TheVariants.{Wide}
use Rattle.crn_cert.specs.declared.answer.Verdict.TheVariants.{YesSignal, No, Unknown}
use Rattle.crn_cert.specs.declared.answer.Proof.TheVariants.{One, Two}
use Rattle.crn_cert.specs.declared.answer.Answer.{Answer}
use Rattle.crn_cert.specs.Answers.{plain}
use Rattle.crn_cert.specs.Trees.{Plan}
use Rattle.crn_sign.specs.declared.fault.SearchStop.{SearchStop}
use Rattle.crn_sign.specs.declared.fault.SearchStop.TheVariants.{WideA, WideB, NoMemory}

-- a shelf as a number: 1 is upper, 0 middle, -1 lower
abbrev pub shelf_number : Sign → ℤ
shelf_number Zero = pos 0
shelf_number Plus = pos 1
shelf_number Minus = negsuc 0

-- yes with the options and the solutions of a full feasible prefix
pub record IsFoundAnswer (turn : ℤ) (count species : ℕ) (q : List Sign) (a b : List ℤ)
    (answer : Answer) : Type 0 where
  pub shelves : KeptInts
  pub mu : KeptInts
  pub weights : KeptInts
  pub is : answer ≡ plain (YesSignal turn shelves mu (entry a species) weights)
  pub shelves_are : shelves.list ≡ map shelf_number (take count q)
  pub mu_is : mu.list ≡ take species a
  pub weights_are : weights.list ≡ b

-- no, with the tree for the vector alone
abbrev pub one_answer : Plan → Answer
one_answer tree = record { verdict = No; proof = One tree }

-- no, with the trees for the vector and its negative
abbrev pub two_answer : Plan → Plan → Answer
two_answer tree second = record { verdict = No; proof = Two tree second }

-- open by the wide vector that stopped the search
abbrev pub IsStopAnswer : SearchStop → Answer → Type 0
IsStopAnswer (WideA index basis) answer = answer ≡ plain (Unknown (Wide 5 0 index basis))
IsStopAnswer (WideB index basis is_first) answer = answer ≡ plain (Unknown (Wide 2 0 index basis))
IsStopAnswer NoMemory answer = ⊥
