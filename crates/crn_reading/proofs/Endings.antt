-- A call for a line after the last line of a document, and the step to the end.
use Rattle.crn_reading.proofs.Prelude.{◌≡◌, ◌<◌, ◌++◌, ◌∙◌, ℕ, true, List, [], Option, Some, None, refl, sym, subst, ap, append_assoc, inl, Result, Ok, Err, Next, Line, Last, End, LineTooLong, DocumentTooLong, Failed, MAX_DOCUMENT, SourceSeen, Place, IsBegun, BreaksLine, HasMore, HasNoneLeft, KeptLines, NextIs, NextGives, place, code_of, EndIs, end_is, asked_begun, Course, Give, ◌>>=◌, Gives, FailsFirst, ends, Awaits, IsRest, StepGives, StepFails, StepAwaits, StepEnds, cut, step_ends_then, Reading, CheckStop, EndStepIs, ends_with, StopIs}
use Rattle.crn_reading.proofs.Steps.{stop_after, stop_first}

-- ---- nothing is left

none_rest : (after : Option (List ℕ)) (rest : List ℕ) → HasNoneLeft after → IsRest after rest → rest ≡ []
none_rest None rest none is = is
none_rest (Some left) rest none is = sym is ∙ none

-- the lines of a reader that is at the end
abbrev kept_at_end : KeptLines → KeptLines
kept_at_end old = record { ahead = []; taken = old.taken; line = []; goes_on = true }

same_place : (n : ℕ) (old : KeptLines) (pulled rest : List ℕ) → old.ahead ++ pulled ≡ [] → place n old (pulled ++ rest) ≡ place n (kept_at_end old) rest
same_place n old pulled rest none = ap (λ (t : List ℕ). record { line = n; before = old.taken; left = t }) (sym (append_assoc old.ahead pulled rest) ∙ ap (λ (t : List ℕ). t ++ rest) none)

gives_end : (at after : Place) → (HasMore at → ⊥) → at ≡ after → Gives ends at tt after
unfolding Gives
gives_end at after none same = (none, (refl, same))

-- if nothing is left, the course ends
pub nothing_left : (n : ℕ) (old new : KeptLines) (before now : SourceSeen) → old.taken < MAX_DOCUMENT → NextGives End old new before now
    → ((m : ℕ) × (kept : KeptLines) × StepEnds ends tt n m old kept before.left now.left) × HasNoneLeft now.left × (now.faults ≡ before.faults)
nothing_left n old new before now lt g = (
  (
    n,
    kept_at_end old,
    record {
      pulled = g.0;
      off = g.1;
      bound = g.4;
      gives = λ rest r. gives_end (place n old (g.0 ++ rest)) (place n (kept_at_end old) rest)
          (end_is End n old new (g.0 ++ rest) rest (old.ahead ++ g.0) lt (sym (append_assoc old.ahead g.0 rest)) (g.2.0, none_rest now.left rest g.2.1 r))
          (same_place n old g.0 rest g.2.0);
    },
  ),
  g.2.1,
  g.3,
)

-- ---- something is left

-- an answer that the end is not here, but for a fault of the source
abbrev pub IsNoEnd : Next → Type 0
IsNoEnd End = ⊥
IsNoEnd Failed = ⊥
IsNoEnd answer = Unit {0}

-- what an answer says of what is left is said of the bytes that follow
shown : (answer : Next) (taken : ℕ) (bytes : List ℕ) (after : Option (List ℕ)) (new : KeptLines) (rest : List ℕ) → IsNoEnd answer → IsRest after rest → NextIs answer taken bytes after new → NextIs answer taken bytes (Some rest) new
shown Line taken bytes after new rest none r q = q
shown LineTooLong taken bytes after new rest none r q = q
shown DocumentTooLong taken bytes after new rest none r q = q
shown Last taken bytes after new rest none r q = (q.0, q.1, q.2, q.3, q.4, none_rest after rest q.5 r)
shown answer taken bytes after new rest none r q = absurd none

breaks : (answer : Next) (at : Place) → IsNoEnd answer → EndIs answer at → BreaksLine at 28 (HasMore at) (code_of 28 answer)
breaks Line at none d = d
breaks Last at none d = d
breaks LineTooLong at none d = d
breaks DocumentTooLong at none d = d
breaks answer at none d = absurd none

same_count : (answer : Next) (old new : KeptLines) (before now : SourceSeen) → IsNoEnd answer → NextGives answer old new before now → now.faults ≡ before.faults
same_count Line old new before now none g = g.3
same_count Last old new before now none g = g.3
same_count LineTooLong old new before now none g = g.3
same_count DocumentTooLong old new before now none g = g.3
same_count answer old new before now none g = absurd none

fails_end : (n : ℕ) (old : KeptLines) (bytes : List ℕ) (code : ℕ) → BreaksLine (place n old bytes) 28 (HasMore (place n old bytes)) code → FailsFirst ends (place n old bytes) n code
unfolding FailsFirst
fails_end n old bytes code p = inl (refl, p)

end_awaited : (at : Place) → IsBegun at.before at.left → Awaits ends at
unfolding Awaits
end_awaited at p = inl p

-- if the source failed, the course awaits what is left
pub rest_is_awaited : (n : ℕ) (old new : KeptLines) (before now : SourceSeen) → NextGives Failed old new before now → StepAwaits ends n old before.left now.left
rest_is_awaited n old new before now g = record { pulled = g.0; off = g.1; bound = g.4; awaits = end_awaited (place n old g.0) g.2 }

-- if something is left, the course fails first here
pub something_left : (answer : Next) (n : ℕ) (old new : KeptLines) (before now : SourceSeen) → IsNoEnd answer → old.taken < MAX_DOCUMENT → NextGives answer old new before now
    → StepFails ends n old before.left now.left n (code_of 28 answer) × (now.faults ≡ before.faults)
something_left answer n old new before now none lt g = (
  record {
    pulled = g.0;
    off = g.1;
    bound = g.4;
    fails = λ rest r. fails_end n old (g.0 ++ rest) (code_of 28 answer) (breaks answer (place n old (g.0 ++ rest)) none
        (end_is answer n old new (g.0 ++ rest) rest (old.ahead ++ g.0) lt (sym (append_assoc old.ahead g.0 rest)) (shown answer old.taken (old.ahead ++ g.0) now.left new rest none r g.2)));
    awaits = λ begun last e far. end_awaited (cut (place n old g.0) begun) (asked_begun old.taken (old.ahead ++ g.0) begun last g.5 e far);
  },
  same_count answer old new before now none g,
)

-- ---- what was read

gives_read : {A : Type 0} (read : A) (at after : Place) → Gives ends at tt after → Gives (ends_with read) at read after
unfolding Gives
gives_read read at after g = (g.0, (refl, g.1.1))

-- nothing is left, and this was read
pub read_to_the_end : {A T : Type 0} (read : A) (result : Result T CheckStop) (old : Reading) (before now : SourceSeen) → EndStepIs ends tt result old before now → EndStepIs (ends_with read) read result old before now
read_to_the_end read (Ok t) old before now p =
    let e = p.0.2 in
    ((p.0.0, p.0.1, record { pulled = e.pulled; off = e.off; bound = e.bound; gives = λ rest r. gives_read read (place old.line old.lines (e.pulled ++ rest)) (place p.0.0 p.0.1 rest) (let g = e.gives in g rest r) }), p.1, p.2)
read_to_the_end read (Err e) old before now p = stop_first ends (λ x. Give read) e old before now p

-- ---- a step, and then the end

-- a step and what follows it up to the end
pub step_then_ends : {A B T : Type 0} (c : Course A) (f : A → Course B) (x : A) (y : B) (result : Result T CheckStop) (old mid : Reading) (before between now : SourceSeen)
    → StepGives c x old.line mid.line old.lines mid.lines before.left between.left → between.faults ≡ before.faults → EndStepIs (f x) y result mid between now → EndStepIs (c >>= f) y result old before now
step_then_ends c f x y (Ok t) old mid before between now p same q =
    ((q.0.0, q.0.1, step_ends_then c f x y old.line mid.line q.0.0 old.lines mid.lines q.0.1 before.left between.left now.left p q.0.2), q.1, q.2 ∙ same)
step_then_ends c f x y (Err e) old mid before between now p same q = stop_after c f x e old mid before between now p same q

-- an answer at the exit of a call that stopped
pub end_exits : {A T : Type 0} (c : Course A) (y : A) (r : Result T CheckStop) (e : CheckStop) (old : Reading) (before now : SourceSeen)
    → (x : CheckStop) × (r ≡ Err x) × (x ≡ e) → StopIs c e old before now → EndStepIs c y r old before now
end_exits c y r e old before now x p = subst (λ (q : Result _ CheckStop). EndStepIs c y q old before now) (sym (x.1 ∙ ap (λ (s : CheckStop). Err s) x.2)) p
