-- A document of a part, as it is read from its title to its end.
use Rattle.crn_reading.proofs.Prelude.{◌≡◌, ℕ, [], sym, subst, inl, arith, Result, Net, SourceSeen, beginning, begun_none, ◌>>=◌, IsSettled, Part, part_opening, part_ending, part_course, Awaits, StepGives, LastIs, IsNew, StopIs, ReadingGives, IsAnsweredBy, Reading, CheckStop, after_lines, after_opening}
use Rattle.crn_reading.proofs.Steps.{stop_first}
use Rattle.crn_reading.proofs.LastSteps.{last_then}
use Rattle.crn_reading.proofs.Whole.{text_read, text_answered}

pub head_stop : {Read : Type 0} (p : Part Read) (e : CheckStop) (old : Reading) (before now : SourceSeen) → StopIs (part_opening p.name) e old before now → StopIs (part_course p) e old before now
head_stop p e old before now s = stop_first (part_opening p.name) (after_opening p) e old before now s

pub answer_stops : {Read : Type 0} (p : Part Read) (net : Net) (e : CheckStop) (mid : Reading) (between now : SourceSeen) → StopIs (p.lines net mid.line) e mid between now → StopIs (p.lines net mid.line >>= after_lines p net) e mid between now
answer_stops p net e mid between now s = stop_first (p.lines net mid.line) (after_lines p net) e mid between now s

-- the network was read, and then what follows it to the end
pub head_then : {Read T : Type 0} (p : Part Read) (Says : T → Net × Read → Type 0) (net : Net) (opened : Net × ℕ) (result : Result T CheckStop) (old mid : Reading) (before between now : SourceSeen) → opened ≡ (net, mid.line)
    → StepGives (part_opening p.name) opened old.line mid.line old.lines mid.lines before.left between.left → between.faults ≡ before.faults → LastIs (p.lines net mid.line >>= after_lines p net) Says result mid between now → LastIs (part_course p) Says result old before now
head_then p Says net opened result old mid before between now is s same t =
    last_then (part_opening p.name) (after_opening p) opened Says result old mid before between now s same
    (subst (λ (o : Net × ℕ). LastIs (after_opening p o) Says result mid between now) (sym is) t)

-- and the answer
pub answer_then : {Read T : Type 0} (p : Part Read) (Says : T → Net × Read → Type 0) (net : Net) (read : Read) (y : ℕ × Read) (result : Result T CheckStop) (old mid : Reading) (before between now : SourceSeen) → y ≡ (mid.line, read)
    → StepGives (p.lines net old.line) y old.line mid.line old.lines mid.lines before.left between.left → between.faults ≡ before.faults → LastIs (part_ending p.words mid.line (net, read)) Says result mid between now
    → LastIs (p.lines net old.line >>= after_lines p net) Says result old before now
answer_then {Read} p Says net read y result old mid before between now is s same t =
    last_then (p.lines net old.line) (after_lines p net) y Says result old mid before between now s same
    (subst (λ (x : ℕ × Read). LastIs (after_lines p net x) Says result mid between now) (sym is) t)

-- ---- a whole text

first_awaited : {Read : Type 0} (p : Part Read) → Awaits (part_course p) (beginning [])
unfolding Awaits
first_awaited p = inl (begun_none 0 (omega arith))

pub document_gives : {Read T : Type 0} (p : Part Read) (Says : T → Net × Read → Type 0) (result : Result T CheckStop) (at : Reading) (before now : SourceSeen) → IsNew at → LastIs (part_course p) Says result at before now → ReadingGives (part_course p) Says result before now
document_gives p Says result at before now new d = text_read (part_course p) Says result at before now new (first_awaited p) d

-- each text is answered by what it is
pub document_answered : {Read T : Type 0} (p : Part Read) (Says : T → Net × Read → Type 0) (result : Result T CheckStop) (before now : SourceSeen) → IsSettled p.IsOwn (part_course p) → ReadingGives (part_course p) Says result before now
    → IsAnsweredBy (part_course p) Says result before now
document_answered p Says result before now settled d = text_answered p.IsOwn (part_course p) Says settled result before now d
