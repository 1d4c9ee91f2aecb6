-- Lines and a test of them, as a step of a document's course.
use Rattle.crn_reading.proofs.Prelude.{◌≡◌, ℕ, inl, refl, Ok, SourceSeen, Place, Course, Gives, FailsFirst, find, ◌>>=◌, StepGives, CanRead, StepIs, StopIs, Reading, Fault, fault_number}
use Rattle.crn_reading.specs.declared.fault.CheckStop.TheVariants as stop
use Rattle.crn_reading.proofs.Steps.{stop_after, step_then_is, stops_here, tests_give, tests_fail}

-- the value that passes is found
pub found_here : {A : Type 0} (n : ℕ) (fault : Fault) (P : A → Type 0) (x : A) → P x → (at : Place) → Gives (find n fault A P) at x at
unfolding Gives
found_here n fault P x holds at = (x, holds, (refl, refl))

-- no value passes
pub none_here : {A : Type 0} (n : ℕ) (fault : Fault) (P : A → Type 0) → ((x : A) → P x → ⊥) → (at : Place) → FailsFirst (find n fault A P) at n (fault_number fault)
unfolding FailsFirst
none_here n fault P fails at = inl (refl, refl, fails)

-- lines, and a value that passes their test
pub lines_found : {A B T : Type 0} (c : Course B) (n : ℕ) (fault : Fault) (P : B → A → Type 0) (y : B) (x : A) (t : T) (Says : T → A → Type 0) (old mid : Reading) (before now : SourceSeen)
    → StepGives c y old.line mid.line old.lines mid.lines before.left now.left → now.faults ≡ before.faults → P y x → Says t x
    → StepIs (c >>= (λ (l : B). find n fault A (P l))) Says (Ok t) old mid before now
lines_found c n fault P y x t Says old mid before now given same holds says =
    step_then_is c (λ l. find n fault _ (P l)) y Says (Ok t) old mid mid before now now given same
    (x, says, tests_give _ x mid.line mid.lines now.left (found_here n fault (P y) x holds), refl)

-- lines that no value passes
pub lines_refused : {A B : Type 0} (c : Course B) (n : ℕ) (fault : Fault) (P : B → A → Type 0) (y : B) (old mid : Reading) (before now : SourceSeen)
    → StepGives c y old.line mid.line old.lines mid.lines before.left now.left → now.faults ≡ before.faults → CanRead mid → ((x : A) → P y x → ⊥)
    → StopIs (c >>= (λ (l : B). find n fault A (P l))) (stop.Rejected (fault_number fault) n) old before now
lines_refused c n fault P y old mid before now given same can fails =
    stop_after c (λ l. find n fault _ (P l)) y (stop.Rejected (fault_number fault) n) old mid before now now given same
    (tests_fail _ mid.line n (fault_number fault) mid now.left can (none_here n fault (P y) fails), refl)

-- memory that runs out after a step
pub memory_after : {A B : Type 0} (c : Course B) (f : B → Course A) (y : B) (old mid : Reading) (before now : SourceSeen)
    → StepGives c y old.line mid.line old.lines mid.lines before.left now.left → now.faults ≡ before.faults → CanRead mid
    → StopIs (c >>= f) stop.NoMemory old before now
memory_after c f y old mid before now given same can =
    stop_after c f y stop.NoMemory old mid before now now given same (stops_here mid now.left can, refl)
