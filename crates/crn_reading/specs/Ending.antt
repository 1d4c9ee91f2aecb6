-- The end of a document, and what the step to it did.
-- Source: this project's own format. Shapes: lines of a document count from 1.
use Rattle.std.specs.Prelude.{◌≡◌, ℕ, Result, Ok, Err}
use Rattle.crn_io.specs.Device.{SourceSeen}
use Rattle.crn_io.specs.Next.{KeptLines}
use Rattle.crn_io.specs.Pull.{HasNoneLeft}
use Rattle.crn_ctext.specs.Course.{Course, Give, ◌>>=◌, ends}
use Rattle.crn_ctext.specs.Steps.{StepEnds}
use Rattle.crn_reading.specs.declared.reading.Reading.{Reading}
use Rattle.crn_reading.specs.declared.fault.CheckStop.{CheckStop}
use Rattle.crn_reading.specs.Steps.{StopIs}

-- nothing is left, and this was read
abbrev pub ends_with : {A : Type 0} → A → Course A
ends_with read = ends >>= (λ x. Give read)

-- The course gives this and ends where the source does, or the answer says why not. What is kept of
-- the lines is not looked at after that.
abbrev pub EndStepIs : {A T : Type 0} → Course A → A → Result T CheckStop → Reading → SourceSeen
    → SourceSeen → Type 0
EndStepIs course y (Ok t) old before now =
    ((m : ℕ) × (kept : KeptLines)
    × StepEnds course y old.line m old.lines kept before.left now.left)
    × HasNoneLeft now.left × (now.faults ≡ before.faults)
EndStepIs course y (Err stop) old before now = StopIs course stop old before now

-- the same, if the answer says what the course gives
abbrev pub LastIs : {A T : Type 0} → Course A → (T → A → Type 0) → Result T CheckStop → Reading
    → SourceSeen → SourceSeen → Type 0
LastIs {A} {T} course Says (Ok t) old before now =
    (y : A) × Says t y × EndStepIs {T = T} course y (Ok t) old before now
LastIs course Says (Err stop) old before now = StopIs course stop old before now
