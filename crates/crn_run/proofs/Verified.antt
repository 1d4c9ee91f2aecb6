-- From what was read of a document of a part to a whole run.
use Rattle.crn_run.proofs.Prelude.{◌≡◌, ℕ, List, Err, refl, sym, ap, subst, inl, Net, IsNetwork, SourceSeen, IsPartRead, PullsAwaited, ReadingGives, ReadsAll, CheckStop, IsVerdictOf, Subject, course_of, subject_of, Devices, RunGives, rejected_line, IsCommand, DocumentStopGives, HasNamedCode, LineGives, Check, Verify, PartName, Status, Done, Rejected}
use Rattle.crn_reading.specs.declared.fault.CheckStop.TheVariants as document
use Rattle.crn_run.proofs.Checked.{left_of}
use Rattle.crn_run.proofs.PartFacts.{facts, fault_named}
use Rattle.crn_run.proofs.Runs.{memory_ends, output_ends, read_out}
use Rattle.crn_run.proofs.WordsSaid.{one_command}

-- formed answers of the part whose tests hold are true or open
abbrev pub AreTrue : Subject → Type 0
AreTrue s = (net : Net) (answer : s.Answer) → IsNetwork net → s.meant.IsFormed net answer → s.meant.IsValid net answer → s.IsTrueOf net answer

verdict_of : (part : PartName) (text : List ℕ) (net : Net) (read : (subject_of part).Read) → AreTrue (subject_of part) → IsPartRead (subject_of part).part text net read
    → IsVerdictOf (subject_of part) text ((subject_of part).verdict net read)
verdict_of part text net read truth is =
    let f = facts part in
    let judged = f.judged in
    let (answer, document, same) = judged.read text net read is in
    let network = document.network in
    let formed = document.formed in
    let valid = document.valid in
    record { net = net; answer = answer; document = document; true_of = truth net answer network formed valid; written = ap ((subject_of part).verdict net) same }

-- a document was read to its end, and the line of what it says was written
pub verdict_ends : (part : PartName) (status : Status) (words : List (List ℕ)) (Says : Net × (subject_of part).Read → Type 0) (out : List ℕ) (old new : Devices) → AreTrue (subject_of part) → IsCommand words (Verify part)
    → ReadsAll (course_of (subject_of part)) Says old.source new.source → ((given : Net × (subject_of part).Read) → Says given → out ≡ (subject_of part).verdict given.0 given.1)
    → LineGives Done status out old.sink new.sink → RunGives status words old new
verdict_ends part status words Says out old new truth said g says line = output_ends (Verify part) Done status words g.text out old new (record {
  said = said;
  read = read_out old.source.left new.source.left g.read.pulled g.read.consumed g.none;
  within = inl (Verify part, said, (g.read.pulled, g.read.bound, g.read.consumed));
  source = g.read.faults;
  left = left_of old.source.left g.read.pulled g.text g.read.is;
  says = subst (IsVerdictOf (subject_of part) g.text) (sym (says g.given g.says)) (verdict_of part g.text g.given.0 g.given.1 truth (g.after, g.gives));
}) line

-- why reading stopped has a name
pub stop_named : {T : Type 0} (part : PartName) (stop : CheckStop) (Says : T → Net × (subject_of part).Read → Type 0) (old new : SourceSeen) → ReadingGives (course_of (subject_of part)) Says (Err stop) old new → HasNamedCode stop
stop_named part (document.Rejected code line) Says old new g = fault_named part g.text line code g.fault
stop_named part document.Failed Says old new g = tt
stop_named part document.NoMemory Says old new g = tt

-- the words say one part
one_part : (words : List (List ℕ)) (part other : PartName) → IsCommand words (Verify part) → IsCommand words (Verify other) → part ≡ other
one_part words part other p q = let e = one_command words (Verify part) (Verify other) p q in cc

-- no document was read
pub verify_stop_ends : {T : Type 0} (part : PartName) (stop : CheckStop) (status : Status) (words : List (List ℕ)) (Says : T → Net × (subject_of part).Read → Type 0) (old new : Devices) → IsCommand words (Verify part)
    → ReadingGives (course_of (subject_of part)) Says (Err stop) old.source new.source → DocumentStopGives stop status old.sink new.sink → RunGives status words old new
verify_stop_ends part (document.Rejected code line) status words Says old new said g (line_short, code_short, writes) = output_ends (Verify part) Rejected status words g.text (rejected_line code line) old new (record {
  said = said;
  read = (g.read.pulled, g.near, g.read.consumed);
  within = inl (Verify part, said, (g.read.pulled, g.read.bound, g.read.consumed));
  source = g.read.faults;
  left = left_of old.source.left g.read.pulled g.text g.read.is;
  says = record { line = line; code = code; short = (line_short, code_short); fault = g.fault; written = refl };
}) writes
verify_stop_ends part document.Failed status words Says old new said g (is, same) = subst (λ (s : Status). RunGives s words old new) (sym is) (record {
  command = (Verify part, said);
  within = inl (Verify part, said, g.0);
  source = g.2;
  later = g.3;
  undecided = λ check. absurd (let e = one_command words (Verify part) Check said check in cc);
  awaited = λ other verify. subst (λ (p : PartName). PullsAwaited (course_of (subject_of p)) old.source new.source) (one_part words part other said verify) g.1;
  sink = same;
})
verify_stop_ends part document.NoMemory status words Says old new said g none = memory_ends status words old new (inl (Verify part, said, g.0)) g.1 none
