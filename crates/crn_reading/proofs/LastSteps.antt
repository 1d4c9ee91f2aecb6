-- Steps up to the end of a document.
use Rattle.crn_reading.proofs.Prelude.{◌≡◌, ◌∙◌, sym, subst, ap, Result, Ok, Err, SourceSeen, Course, ◌>>=◌, StepGives, Reading, CheckStop, EndStepIs, LastIs, StopIs}
use Rattle.crn_reading.proofs.Endings.{step_then_ends}
use Rattle.crn_reading.proofs.Steps.{stop_after}
use Rattle.crn_reading.proofs.Texts.{ends_all, stops_all}

-- an answer at the exit of a call that stopped
pub last_exits : {A T : Type 0} (c : Course A) (Says : T → A → Type 0) (r : Result T CheckStop) (e : CheckStop) (old : Reading) (before now : SourceSeen)
    → (x : CheckStop) × (r ≡ Err x) × (x ≡ e) → StopIs c e old before now → LastIs c Says r old before now
last_exits c Says r e old before now x p =
    subst (λ (q : Result _ CheckStop). LastIs c Says q old before now) (sym (x.1 ∙ ap (λ (s : CheckStop). Err s) x.2)) p

-- a step, and what follows it to the end
pub last_then : {A B T : Type 0} (c : Course A) (f : A → Course B) (x : A) (Says : T → B → Type 0) (result : Result T CheckStop) (old mid : Reading) (before between now : SourceSeen)
    → StepGives c x old.line mid.line old.lines mid.lines before.left between.left → between.faults ≡ before.faults → LastIs (f x) Says result mid between now → LastIs (c >>= f) Says result old before now
last_then {A} {B} {T} c f x Says (Ok t) old mid before between now p same q =
    (q.0, q.1, step_then_ends {T = T} c f x q.0 (Ok t) old mid before between now p same q.2)
last_then c f x Says (Err e) old mid before between now p same q = stop_after c f x e old mid before between now p same q

-- the same course in other brackets
pub last_all : {A B C T : Type 0} (m : Course A) (k : A → Course B) (f : B → Course C) (Says : T → C → Type 0) (result : Result T CheckStop) (old : Reading) (before now : SourceSeen)
    → LastIs ((m >>= k) >>= f) Says result old before now → LastIs (m >>= (λ x. k x >>= f)) Says result old before now
last_all {A} {B} {C} {T} m k f Says (Ok t) old before now p = (p.0, p.1, ends_all {T = T} m k f p.0 (Ok t) old before now p.2)
last_all m k f Says (Err e) old before now p = stops_all m k f e old before now p

-- what a course gives and the answer says
pub last_is : {A T : Type 0} (c : Course A) (y : A) (Says : T → A → Type 0) (result : Result T CheckStop) (old : Reading) (before now : SourceSeen)
    → ((t : T) → Says t y) → EndStepIs c y result old before now → LastIs c Says result old before now
last_is c y Says (Ok t) old before now says p = (y, says t, p)
last_is c y Says (Err e) old before now says p = p
