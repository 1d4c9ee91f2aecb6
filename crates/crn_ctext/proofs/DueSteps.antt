-- A call for the next line is a step of the course at which a line is due.
use Rattle.crn_ctext.proofs.Prelude.{◌≡◌, ◌<◌, ◌+◌, ◌++◌, ℕ, Bool, List, [], refl, sym, subst, append_assoc, inl, Next, Last, Failed, MAX_DOCUMENT, SourceSeen, Place, IsBegun, IsLineAt, BreaksLine, LacksLine, early, KeptLines, NextIs, NextGives, place, code_of, DueIs, due_is, asked_begun, due, Gives, FailsFirst, Awaits, IsRest, StepGives, StepFails, StepAwaits, cut}
use Rattle.std.proofs.Common.{Option, Some, None}
use Rattle.crn_io.specs.declared.next.Next.TheVariants.{Line, End, LineTooLong, DocumentTooLong}

-- the bytes that were ahead, those that came off, and what follows
abbrev AllAhead : List ℕ → List ℕ → List ℕ → Type 0
AllAhead ahead pulled rest = ahead ++ (pulled ++ rest) ≡ (ahead ++ pulled) ++ rest

all_ahead : (ahead pulled rest : List ℕ) → AllAhead ahead pulled rest
all_ahead ahead pulled rest = sym (append_assoc ahead pulled rest)

gives_line : (node : Bool) (n : ℕ) (old new : KeptLines) (bytes rest : List ℕ) → IsLineAt (place n old bytes) new.line (place (n + 1) new rest) → Gives (due node) (place n old bytes) new.line (place (n + 1) new rest)
unfolding Gives
gives_line node n old new bytes rest p = (new.line, place (n + 1) new rest, p, (refl, refl))

fails_line : (node : Bool) (n : ℕ) (old : KeptLines) (bytes : List ℕ) (code : ℕ) → BreaksLine (place n old bytes) (early node) (LacksLine (place n old bytes)) code → FailsFirst (due node) (place n old bytes) n code
unfolding FailsFirst
fails_line node n old bytes code p = inl (refl, p)

line_awaited : (node : Bool) (at : Place) → IsBegun at.before at.left → Awaits (due node) at
unfolding Awaits
line_awaited node at p = inl p

-- a line that came is the one that is due
pub line_is_due : (node : Bool) (n : ℕ) (old new : KeptLines) (before now : SourceSeen) → old.taken < MAX_DOCUMENT → NextGives Line old new before now → StepGives (due node) new.line n (n + 1) old new before.left now.left
line_is_due node n old new before now lt g = record {
  pulled = g.0;
  off = g.1;
  gives = λ rest. gives_line node n old new (g.0 ++ rest) rest (due_is Line node n old new (g.0 ++ rest) rest (old.ahead ++ g.0) lt (all_ahead old.ahead g.0 rest) g.2);
}

-- an answer that is no line, but for a fault of the source
abbrev pub IsNoLine : Next → Type 0
IsNoLine Line = ⊥
IsNoLine Failed = ⊥
IsNoLine answer = Unit {0}

-- what an answer says of what is left, it says of no bytes if the source does not show them
shown : (answer : Next) (taken : ℕ) (bytes : List ℕ) (after : Option (List ℕ)) (new : KeptLines) (rest : List ℕ) → IsRest after rest → NextIs answer taken bytes after new → NextIs answer taken bytes (Some rest) new
shown Last taken bytes None new rest r q = (q.0, q.1, q.2, q.3, q.4, r)
shown Last taken bytes (Some left) new rest r q = (q.0, q.1, q.2, q.3, q.4, subst (λ (t : List ℕ). t ≡ []) r q.5)
shown End taken bytes None new rest r q = (q.0, r)
shown End taken bytes (Some left) new rest r q = (q.0, subst (λ (t : List ℕ). t ≡ []) r q.1)
shown answer taken bytes after new rest r q = q

breaks : (answer : Next) (node : Bool) (n : ℕ) (old new : KeptLines) (bytes rest : List ℕ) → IsNoLine answer → DueIs answer node (place n old bytes) (place (n + 1) new rest) new.line
    → BreaksLine (place n old bytes) (early node) (LacksLine (place n old bytes)) (code_of (early node) answer)
breaks Last node n old new bytes rest none d = d
breaks End node n old new bytes rest none d = d
breaks LineTooLong node n old new bytes rest none d = d
breaks DocumentTooLong node n old new bytes rest none d = d
breaks answer node n old new bytes rest none d = absurd none

-- if none came, the course fails first here
pub line_is_missing : (answer : Next) (node : Bool) (n : ℕ) (old new : KeptLines) (before now : SourceSeen) → IsNoLine answer → old.taken < MAX_DOCUMENT → NextGives answer old new before now
    → StepFails (due node) n old before.left now.left n (code_of (early node) answer)
line_is_missing answer node n old new before now none lt g = record {
  pulled = g.0;
  off = g.1;
  bound = g.4;
  fails = λ rest r. fails_line node n old (g.0 ++ rest) (code_of (early node) answer) (breaks answer node n old new (g.0 ++ rest) rest none
      (due_is answer node n old new (g.0 ++ rest) rest (old.ahead ++ g.0) lt (all_ahead old.ahead g.0 rest) (shown answer old.taken (old.ahead ++ g.0) now.left new rest r g.2)));
  awaits = λ begun last e long. line_awaited node (cut (place n old g.0) begun) (asked_begun old.taken (old.ahead ++ g.0) begun last g.5 e long);
}

-- if the source failed, the line is awaited
pub line_is_awaited : (node : Bool) (n : ℕ) (old new : KeptLines) (before now : SourceSeen) → NextGives Failed old new before now → StepAwaits (due node) n old before.left now.left
line_is_awaited node n old new before now g = record { pulled = g.0; off = g.1; bound = g.4; awaits = line_awaited node (place n old g.0) g.2 }
