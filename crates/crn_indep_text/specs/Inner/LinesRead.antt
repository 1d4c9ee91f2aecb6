-- For the contracts of private functions alone.
-- The lines of a document on the finest independent decomposition, as they are read.
-- Source: this project's own. Shapes: lines count from 1; words count from 0.
use Rattle.std.specs.Prelude.{◌≡◌, ◌<◌, ◌^◌, ◌++◌, ℕ, ℤ, nat_abs, List, [], ◌∷◌, slice_index_or, Result}
use Rattle.std.specs.List.{AllByRecursion}
use Rattle.crn_vec.specs.Network.{Net}
use Rattle.crn_vec.specs.Kept.{KeptNums}
use Rattle.crn_io.specs.Device.{SourceSeen}
use Rattle.crn_cert.specs.Ranges.{AreFree, AreFreeRows}
use Rattle.crn_cert.specs.declared.answer.RankProof.{RankProof}
use Rattle.crn_ctext.specs.Records.{Record, Form}
use Rattle.crn_ctext.specs.Kinds.{record_form}
use Rattle.crn_ctext.specs.Course.{Course, Give, ◌>>=◌}
use Rattle.crn_ctext.specs.Documents.{IsOneOf}
use Rattle.crn_ctext.specs.Parts.{asks_part}
use Rattle.crn_ctext.specs.PartLines.{field_of}
use Rattle.crn_ctext.specs.declared.part.Field.{Field as Run}
use Rattle.crn_reading.specs.Steps.{CanRead, StepIs}
use Rattle.crn_reading.specs.declared.reading.Reading.{Reading}
use Rattle.crn_reading.specs.declared.fault.CheckStop.{CheckStop}
use Rattle.crn_cert.specs.Parts.{IsRankProof}
use Rattle.crn_indep_check.specs.Finest.{all_reactions}
use Rattle.crn_indep_text.specs.Document.{words, naturals, asks_rows, asks_proof, asks_shown, split_seen, Seen}
use Rattle.crn_indep_text.specs.declared.seen.PartsSeen.{PartsSeen}

-- the line of the word at this place with the numbers of a run
abbrev pub run_forms : (word : ℕ) → Run → List Form
run_forms word run =
    record_form (slice_index_or words word []) (field_of run ∷ []) ∷ []

-- the record is of one of these forms, and these are its numbers
pub record IsRowSaid (forms : List Form) (read : List ℤ) (r : Record) : Type 0 where
  pub form : IsOneOf forms r
  pub numbers : read ≡ r.numbers

-- a line of these forms was read, and its numbers are kept
abbrev pub ReadsRow : List Form → Result (Unit {0}) CheckStop → Reading → Reading → SourceSeen
    → SourceSeen → Type 0
ReadsRow forms result old new before now =
    StepIs (asks_part words old.line forms) (λ _ r. IsRowSaid forms new.numbers.list r)
    result old new before now

-- the list holds the natural numbers of a record of one of these forms, and no more memory
pub record AreOfRow (forms : List Form) (made : KeptNums) (r : Record) : Type 0 where
  pub form : IsOneOf forms r
  pub list : made.list ≡ naturals r
  pub spare : made.spare ≡ 0

-- a line of these forms was read, and its numbers are answered
abbrev pub ReadsNums : List Form → Result KeptNums CheckStop → Reading → Reading → SourceSeen
    → SourceSeen → Type 0
ReadsNums forms result old new before now =
    StepIs (asks_part words old.line forms) (λ made r. AreOfRow forms made r)
    result old new before now

-- all numbers are natural and have their place in a list of them
abbrev pub AreSmall : List ℤ → Type 0
AreSmall zs = AllByRecursion (λ z. nat_abs z < 2 ^ 32) zs

-- the course gives the number of the line that is due next, and what is answered
abbrev pub ReadsSeen : Course (ℕ × Seen) → Result PartsSeen CheckStop → Reading → Reading
    → SourceSeen → SourceSeen → Type 0
ReadsSeen course result old new before now = StepIs course
    (λ seen y. y ≡ (new.line, record { undecided = seen.undecided; ranks = seen.ranks.list }))
    result old new before now

-- a line of these forms was read, and its numbers are added to these rows
abbrev pub AddsRow : List Form → (width : ℕ) → (before after : List (List ℤ))
    → Result (Unit {0}) CheckStop → Reading → Reading → SourceSeen → SourceSeen → Type 0
AddsRow forms width before after result old new seen now =
    StepIs (asks_part words old.line forms)
    (λ _ r. (after ≡ before ++ r.numbers ∷ []) × AreFree width r.numbers) result old new seen now

-- so many lines of these forms were read, and their numbers are added to these rows
abbrev pub ReadsRows : List Form → (width count : ℕ) → (before after : List (List ℤ))
    → Result (Unit {0}) CheckStop → Reading → Reading → SourceSeen → SourceSeen → Type 0
ReadsRows forms width count before after result old new seen now =
    StepIs (asks_rows old.line forms count)
    (λ _ rows. (after ≡ before ++ rows) × AreFreeRows count width rows) result old new seen now

-- the lines of a rank proof were read, and it is answered
abbrev pub ReadsProof : Net → (rank : ℕ) → Result RankProof CheckStop → Reading → Reading
    → SourceSeen → SourceSeen → Type 0
ReadsProof net rank result old new before now = StepIs (asks_proof net old.line rank)
    (λ proof given. (given ≡ proof) × IsRankProof net (all_reactions net) rank proof)
    result old new before now

-- the tests of a decomposition, whose rank is at line `head`, were made, and this is what is seen
abbrev pub JudgesLines : Net → (head : ℕ) → RankProof → (label up depth : List ℕ)
    → Result PartsSeen CheckStop → Type 0
JudgesLines net head proof label up depth result = (at : Reading) (seen : SourceSeen) → CanRead at
    → ReadsSeen (asks_shown net head proof label up depth
    >>= (λ x. Give (at.line, split_seen proof label))) result at at seen seen
