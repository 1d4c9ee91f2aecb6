-- For the contracts of private functions alone.
-- Lines up to a verdict, as they are read.
-- Source: this project's own. Shapes: lines count from 1; words count from 0.
use Rattle.std.specs.Prelude.{◌≡◌, ◌≢◌, ◌<◌, ◌⊎◌, ◌^◌, ℕ, ℤ, List, Result, unsigned_abs}
use Rattle.std.specs.List.{AllByRecursion}
use Rattle.crn_vec.specs.Network.{Net}
use Rattle.crn_cert.specs.Questions.{Earlier}
use Rattle.crn_io.specs.Device.{SourceSeen}
use Rattle.crn_check.specs.Facts.{HoldsOn}
use Rattle.crn_ctext.specs.Course.{Course}
use Rattle.crn_ctext.specs.Meaning.{number}
use Rattle.crn_reading.specs.Steps.{StepIs}
use Rattle.crn_reading.specs.declared.reading.Reading.{Reading}
use Rattle.crn_reading.specs.declared.fault.CheckStop.{CheckStop}
use Rattle.crn_robust.specs.declared.robust.Robust.{Robust}
use Rattle.crn_robust.specs.declared.robust.Robust.TheVariants.{Yes, Number, None, Rests}
use Rattle.crn_robust.specs.Robust.{IsCase}
use Rattle.crn_robust_text.specs.Document.{IsCaseBy}

-- verdicts are held on the questions that robustness rests on: linkage classes, strong classes and the rank
pub record HoldsBlocks (earlier : Earlier) : Type 0 where
  pub linkage : HoldsOn earlier 1
  pub strong : HoldsOn earlier 2
  pub rank : HoldsOn earlier 5

-- the course gives the number of the line that is due next, and the verdict that is answered
abbrev pub ReadsVerdict : Course (ℕ × Robust) → Result Robust CheckStop → Reading → Reading
    → SourceSeen → SourceSeen → Type 0
ReadsVerdict course result old new before now =
    StepIs course (λ robust y. y ≡ (new.line, robust)) result old new before now

-- the number at a place of a line says that the confluence space is a line
abbrev pub SaysOne : List ℤ → Type 0
SaysOne numbers = number numbers 0 ≡ 1

-- what the line of a verdict says, by the place of its word and its numbers
abbrev pub CaseSaid : (place : ℕ) → List ℤ → Robust → Type 0
CaseSaid place read robust =
    ((place ≡ 1) × (robust ≡ Yes (number read 0) (number read 1) (number read 2)))
    ⊎ (((place ≡ 2) × (robust ≡ Number (number read 0))) ⊎ ((place ≡ 3) × (robust ≡ None)))

-- the blocks decide the rank, and by them this case holds and no other
pub record Decides (net : Net) (earlier : Earlier) (robust : Robust) : Type 0 where
  pub closed : robust ≢ Rests
  pub holds : IsCaseBy net earlier robust
  pub one : (other : Robust) → other ≢ Rests → IsCaseBy net earlier other → other ≡ robust

-- a verdict that does not rest on the rank is the case that holds of the network
abbrev pub IsTrueVerdict : Net → Robust → Type 0
IsTrueVerdict net robust = (robust ≡ Rests → ⊥) → IsCase net robust

-- small numbers
abbrev pub AreSmall : List ℤ → Type 0
AreSmall numbers = AllByRecursion (λ z. unsigned_abs z < 2 ^ 32) numbers
