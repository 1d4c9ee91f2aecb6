-- What one call for a line, and steps one after another, do by the course of a document.
use Rattle.crn_reading.proofs.Prelude.{◌≡◌, ◌≤◌, ◌<◌, ◌+◌, ◌++◌, ℕ, Bool, List, [], length, Option, refl, sym, ap, subst, ◌∙◌, arith, Ok, Err, Result, append-nil, length-append, Next, Line, Last, End, LineTooLong, DocumentTooLong, Failed, MAX_DOCUMENT, MAX_AHEAD, SourceSeen, Rose, Place, early, KeptLines, NextGives, place, code_of, Course, Give, due, Gives, FailsFirst, ◌>>=◌, Consumes-none, Consumes-then, StepGives, StepFails, IsNoLine, line_is_missing, gives_counts, step_then, step_fails_then, step_fails_before, step_awaits_then, step_awaits_before, Reading, CheckStop, CanRead, StepStops, StopIs, StepIs}
use Rattle.crn_reading.specs.declared.fault.CheckStop.TheVariants as stop

-- the count of faults is as before at an answer that is no line and no fault
pub no_line_keeps_count : (answer : Next) (old new : KeptLines) (before now : SourceSeen) → IsNoLine answer → NextGives answer old new before now → now.faults ≡ before.faults
no_line_keeps_count Last old new before now none g = g.3
no_line_keeps_count End old new before now none g = g.3
no_line_keeps_count LineTooLong old new before now none g = g.3
no_line_keeps_count DocumentTooLong old new before now none g = g.3
no_line_keeps_count answer old new before now none g = absurd none

pub no_line : (answer : Next) (node : Bool) (n code : ℕ) (old new : KeptLines) (before now : SourceSeen) → IsNoLine answer → old.taken < MAX_DOCUMENT → NextGives answer old new before now → code ≡ code_of (early node) answer
    → StepFails (due node) n old before.left now.left n code × (now.faults ≡ before.faults)
no_line answer node n code old new before now none lt g is =
    (subst (λ (k : ℕ). StepFails (due node) n old before.left now.left n k) (sym is) (line_is_missing answer node n old new before now none lt g), no_line_keeps_count answer old new before now none g)

-- ---- tests, which take nothing off the source

-- what a course of tests gives everywhere, it gives where the reading is
pub tests_give : {A : Type 0} (c : Course A) (y : A) (n : ℕ) (lines : KeptLines) (left : Option (List ℕ)) → ((at : Place) → Gives c at y at) → StepGives c y n n lines lines left left
tests_give c y n lines left g = record { pulled = []; off = Consumes-none left; gives = λ rest. g (place n lines rest) }

none_pulled : (lines : KeptLines) → lines.taken < MAX_DOCUMENT → length lines.ahead < MAX_AHEAD → lines.taken + length (lines.ahead ++ []) ≤ MAX_DOCUMENT + MAX_AHEAD
none_pulled lines taken ahead = let same : length (lines.ahead ++ []) ≡ length lines.ahead = ap length (append-nil lines.ahead) in omega (arith, same, taken, ahead)

-- what is ahead has fewer bytes than one pull
none_far : (lines : KeptLines) (begun last : List ℕ) → length lines.ahead < MAX_AHEAD → lines.ahead ++ [] ≡ begun ++ last → MAX_AHEAD ≤ length last → ⊥
none_far lines begun last ahead e far = omega (arith, ap length (sym (append-nil lines.ahead) ∙ e), length-append begun last, ahead, far)

-- and where a test fails everywhere, it fails there
pub tests_fail : {A : Type 0} (c : Course A) (n line code : ℕ) (at : Reading) (left : Option (List ℕ)) → CanRead at → ((place : Place) → FailsFirst c place line code) → StepFails c n at.lines left left line code
tests_fail c n line code at left can f = record { pulled = []; off = Consumes-none left; bound = none_pulled at.lines can.taken can.ahead; fails = λ rest h. f (place n at.lines rest); awaits = λ begun last e far. absurd (none_far at.lines begun last can.ahead e far) }

pub stops_here : (at : Reading) (left : Option (List ℕ)) → CanRead at → StepStops at.lines left left
stops_here at left can = record { pulled = []; off = Consumes-none left; bound = none_pulled at.lines can.taken can.ahead }

-- ---- one step after another

-- what is pulled after a step is counted from where the step began
pub stops_then : {A : Type 0} (c : Course A) (x : A) (n m : ℕ) (old mid : KeptLines) (left between after : Option (List ℕ)) → StepGives c x n m old mid left between → StepStops mid between after → StepStops old left after
stops_then c x n m old mid left between after p q = record {
  pulled = p.pulled ++ q.pulled;
  off = Consumes-then left between after p.pulled q.pulled p.off q.off;
  bound = let counts : old.taken + length (old.ahead ++ (p.pulled ++ q.pulled)) ≡ mid.taken + length (mid.ahead ++ q.pulled) = gives_counts c (place n old (p.pulled ++ q.pulled)) (place m mid q.pulled) x (let g = p.gives in g q.pulled) in omega (arith, counts, q.bound);
}

-- a step, and what stops what follows it
pub stop_after : {A B : Type 0} (c : Course A) (f : A → Course B) (x : A) (e : CheckStop) (old mid : Reading) (before between now : SourceSeen)
    → StepGives c x old.line mid.line old.lines mid.lines before.left between.left → between.faults ≡ before.faults → StopIs (f x) e mid between now → StopIs (c >>= f) e old before now
stop_after c f x (stop.Rejected code line) old mid before between now p same q =
    (step_fails_then c f x old.line mid.line line code old.lines mid.lines before.left between.left now.left p q.0, q.1 ∙ same)
stop_after c f x stop.Failed old mid before between now p same q =
    (step_awaits_then c f x old.line mid.line old.lines mid.lines before.left between.left now.left p q.0, subst (λ (k : ℕ). Rose k now.faults) same q.1, subst (λ (k : ℕ). k ≤ now.faults) same q.2)
stop_after c f x stop.NoMemory old mid before between now p same q =
    (stops_then c x old.line mid.line old.lines mid.lines before.left between.left now.left p q.0, q.1 ∙ same)

-- a step and what follows it
pub step_then_is : {A B T : Type 0} (c : Course A) (f : A → Course B) (x : A) (Says : T → B → Type 0) (result : Result T CheckStop) (old mid new : Reading) (before between now : SourceSeen)
    → StepGives c x old.line mid.line old.lines mid.lines before.left between.left → between.faults ≡ before.faults → StepIs (f x) Says result mid new between now → StepIs (c >>= f) Says result old new before now
step_then_is c f x Says (Ok t) old mid new before between now p same q =
    (q.0, q.1, step_then c f x q.0 old.line mid.line new.line old.lines mid.lines new.lines before.left between.left now.left p q.2, q.3 ∙ same)
step_then_is c f x Says (Err e) old mid new before between now p same q = stop_after c f x e old mid before between now p same q

-- what stops a step stops all
pub stop_first : {A B : Type 0} (c : Course A) (f : A → Course B) (e : CheckStop) (old : Reading) (before now : SourceSeen) → StopIs c e old before now → StopIs (c >>= f) e old before now
stop_first c f (stop.Rejected code line) old before now p = (step_fails_before c f old.line line code old.lines before.left now.left p.0, p.1)
stop_first c f stop.Failed old before now p = (step_awaits_before c f old.line old.lines before.left now.left p.0, p.1, p.2)
stop_first c f stop.NoMemory old before now p = p

-- an answer at the exit of a call that stopped
pub step_exits : {A T : Type 0} (c : Course A) (Says : T → A → Type 0) (r : Result T CheckStop) (e : CheckStop) (old new : Reading) (before now : SourceSeen)
    → (x : CheckStop) × (r ≡ Err x) × (x ≡ e) → StopIs c e old before now → StepIs c Says r old new before now
step_exits c Says r e old new before now x p =
    subst (λ (q : Result _ CheckStop). StepIs c Says q old new before now) (sym (x.1 ∙ ap (λ (s : CheckStop). Err s) x.2)) p

-- a step that gives something, and nothing after it
pub step_gives : {A T : Type 0} (y : A) (Says : T → A → Type 0) (t : T) (at : Reading) (seen : SourceSeen) → Says t y → StepIs (Give y) Says (Ok t) at at seen seen
unfolding Gives
step_gives y Says t at seen says = (y, says, tests_give (Give y) y at.line at.lines seen.left (λ place. (refl, refl)), refl)

-- if memory runs out after a step
pub memory_stops : {A : Type 0} (c : Course A) (x : A) (old mid : Reading) (before now : SourceSeen) → StepGives c x old.line mid.line old.lines mid.lines before.left now.left → now.faults ≡ before.faults → CanRead mid
    → StepStops old.lines before.left now.left × (now.faults ≡ before.faults)
memory_stops c x old mid before now p same can = (stops_then c x old.line mid.line old.lines mid.lines before.left now.left now.left p (stops_here mid now.left can), same)

-- what a step gives, with a function applied to it
pub step_map : {A B T : Type 0} (c : Course A) (h : A → B) (Says : T → A → Type 0) (More : T → B → Type 0) (result : Result T CheckStop) (old new : Reading) (before now : SourceSeen)
    → ((t : T) (y : A) → Says t y → More t (h y)) → StepIs c Says result old new before now → StepIs (c >>= (λ y. Give (h y))) More result old new before now
unfolding Gives
step_map c h Says More (Ok t) old new before now k p =
    (h p.0, k t p.0 p.1, step_then c (λ y. Give (h y)) p.0 (h p.0) old.line new.line new.line old.lines new.lines new.lines before.left now.left now.left p.2 (tests_give (Give (h p.0)) (h p.0) new.line new.lines now.left (λ place. (refl, refl))), p.3)
step_map c h Says More (Err e) old new before now k p = stop_first c (λ y. Give (h y)) e old before now p

-- what a step gives, said in other words
pub step_says : {A T : Type 0} (c : Course A) (Says More : T → A → Type 0) (result : Result T CheckStop) (old new : Reading) (before now : SourceSeen)
    → ((t : T) (y : A) → Says t y → More t y) → StepIs c Says result old new before now → StepIs c More result old new before now
step_says c Says More (Ok t) old new before now k p = (p.0, k t p.0 p.1, p.2, p.3)
step_says c Says More (Err e) old new before now k p = p
