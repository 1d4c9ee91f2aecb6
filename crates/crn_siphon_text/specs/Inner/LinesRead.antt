-- For the contracts of private functions alone.
-- Lines up to an outcome, as they are read.
-- Source: this project's own. Shapes: lines count from 1.
use Rattle.std.specs.Prelude.{◌≡◌, ℕ, Result}
use Rattle.crn_io.specs.Device.{SourceSeen}
use Rattle.crn_ctext.specs.Course.{Course}
use Rattle.crn_reading.specs.Steps.{StepIs}
use Rattle.crn_reading.specs.declared.reading.Reading.{Reading}
use Rattle.crn_reading.specs.declared.fault.CheckStop.{CheckStop}
use Rattle.crn_siphon_check.specs.declared.answer.Outcome.{Outcome}

-- the course gives the number of the line that is due next, and the outcome that is answered
abbrev pub ReadsOutcome : Course (ℕ × Outcome) → Result Outcome CheckStop → Reading → Reading
    → SourceSeen → SourceSeen → Type 0
ReadsOutcome course result old new before now =
    StepIs course (λ outcome y. y ≡ (new.line, outcome)) result old new before now
