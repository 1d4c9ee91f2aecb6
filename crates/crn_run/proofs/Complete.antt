-- What follows from how a run ends: completeness, one text that may be written, devices without a fault.
use Rattle.crn_run.proofs.Prelude.{◌≡◌, ◌⊎◌, ℕ, ◌≤◌, List, length, Option, Some, None, refl, sym, ap, ap₂, subst, ◌∙◌, inl, inr, arith, IfSome, HasNoRoom, beginning, Net, TextCode, one_fault, no_fault, course, Record, IsGood, meaning, versions, none_own, gives_or_fails, first_is_one, good_documents_are_read, good_one, built, usage_line, render, verdicts_of, IsFaultyOf, IsGoodOf, Devices, HasOpen, refused_line, rejected_line, WasLeft, IsRefusalOf, IsRejectionOf, IsCheckOf, verdicts_in, IsOutput, IsAllowed, IsReadForOutput, OrRejected, ReadsNetwork, RunGives, Shows, EndsWritten, IsSpelled, IsFaulty, IsFaultyDocument, IsComplete, IsQuiet, IsCommand, SayACommand, Command, Check, Sample, Verify, PartName, Status, Done, OpenLeft, Refused, Rejected, Usage, ReadFault, WriteFault, NoMemory}
use Rattle.crn_ctext.proofs.CallerLemmas.{settled}
use Rattle.crn_run.proofs.PartFacts.{good_or_faulty_of, one_of_verdicts, rejection_faulty, verdict_good}
use Rattle.crn_run.proofs.Statuses.{IsAnswered, left_answered, refused_or_says, rejected_or, says_answered, says_spelled}
use Rattle.crn_run.proofs.WordsSaid.{one_command}

-- ---- one text

pub one_usage : (words : List (List ℕ)) (text out other : List ℕ) → (SayACommand words → ⊥) → IsAllowed words text out → IsAllowed words text other → out ≡ other
one_usage words text out other none p q = only words text out none p ∙ sym (only words text other none q)
  where
    only : (words : List (List ℕ)) (text out : List ℕ) → (SayACommand words → ⊥) → IsAllowed words text out → out ≡ usage_line
    only words text out none (inl a) = absurd (none (a.0, a.2))
    only words text out none (inr a) = a.1

pub one_refusal : (text out other : List ℕ) → IsRefusalOf text out → IsRefusalOf text other → out ≡ other
one_refusal text out other p q =
    let same = one_fault text p.line q.line p.code q.code p.fault q.fault in
    p.written ∙ ap₂ (λ (line : ℕ) (code : TextCode). refused_line code line) same.0 same.1 ∙ sym q.written

pub one_rejection : (text out other : List ℕ) → IsRejectionOf text out → IsRejectionOf text other → out ≡ other
one_rejection text out other p q =
    let same = first_is_one none_own (course meaning versions built) settled (beginning text) p.line q.line p.code q.code p.fault q.fault in
    p.written ∙ ap₂ (λ (line : ℕ) (code : ℕ). rejected_line code line) same.0 same.1 ∙ sym q.written

-- ---- what an output says of the text

-- a good document has no fault
good_or_faulty : (text : List ℕ) → IsGood text → IsFaultyDocument text → ⊥
good_or_faulty text good (line, code, fault) =
    let read = good_documents_are_read text good in
    gives_or_fails none_own (course meaning versions built) settled (beginning text) read.1.0 read.0 line code read.1.1 fault

-- a good document has one report
one_check : (text out other : List ℕ) → IsCheckOf text out → IsCheckOf text other → out ≡ other
one_check text out other p q =
    let same = good_one text p.good q.good in
    p.written ∙ ap₂ (λ (net : Net) (answers : List (List Record)). render built net (verdicts_in net answers)) same.0 same.1 ∙ sym q.written

-- what the words write that say this command
said_output : (words : List (List ℕ)) (command : Command) (text out : List ℕ) → IsCommand words command → IsAllowed words text out → (status : Status) × IsOutput command status text out
said_output words command text out said (inl (other, status, another, says)) = (status, subst (λ (c : Command). IsOutput c status text out) (one_command words other command another said) says)
said_output words command text out said (inr (none, is)) = absurd (none (command, said))

-- what `check` writes for a document
abbrev Checks : (text out : List ℕ) → Type 0
Checks text out = IsCheckOf text out ⊎ IsRejectionOf text out

-- one of two things, without its status
either_of : {Good Bad : Type 0} (status : Status) → OrRejected status Good Bad → Good ⊎ Bad
either_of status g = elim (rejected_or status _ _ g) [
  | inl done ↦ inl done.1
  | inr rejected ↦ inr rejected.1
]

checks : (words : List (List ℕ)) (text out : List ℕ) → IsCommand words Check → IsAllowed words text out → Checks text out
checks words text out said p = let g = said_output words Check text out said p in either_of g.0 g.1

one_of_checks : (text out other : List ℕ) → Checks text out → Checks text other → out ≡ other
one_of_checks text out other (inl p) (inl q) = one_check text out other p q
one_of_checks text out other (inl p) (inr q) = absurd (good_or_faulty text p.good (q.line, q.code, q.fault))
one_of_checks text out other (inr p) (inl q) = absurd (good_or_faulty text q.good (p.line, p.code, p.fault))
one_of_checks text out other (inr p) (inr q) = one_rejection text out other p q

pub one_checked : (words : List (List ℕ)) (text out other : List ℕ) → IsCommand words Check → IsAllowed words text out → IsAllowed words text other → out ≡ other
one_checked words text out other said p q = one_of_checks text out other (checks words text out said p) (checks words text other said q)

-- so it is for `verify`
pub one_verified : (words : List (List ℕ)) (part : PartName) (text out other : List ℕ) → IsCommand words (Verify part) → IsAllowed words text out → IsAllowed words text other → out ≡ other
one_verified words part text out other said p q =
    let g = said_output words (Verify part) text out said p in
    let h = said_output words (Verify part) text other said q in
    one_of_verdicts part text out other (either_of g.0 g.1) (either_of h.0 h.1)

-- a text that spells a network has no fault
spelled_or_faulty : (text : List ℕ) → IsSpelled text → IsFaulty text → ⊥
spelled_or_faulty text (net, spells) (line, code, fault) = no_fault text net line code spells fault

answered_or_not : (status : Status) → IsAnswered status → (status ≡ Done) ⊎ (status ≡ OpenLeft) ⊎ (status ≡ NoMemory)
answered_or_not status (inl is) = inl is
answered_or_not status (inr is) = inr (inl is)

-- what a command that reads a network text writes for one that spells a network, or has a fault
network_output : (command : Command) (status : Status) (text out : List ℕ) → ReadsNetwork command → IsOutput command status text out → (IsAnswered status × IsSpelled text) ⊎ ((status ≡ Refused) × IsFaulty text)
network_output command status text out reads g = elim (refused_or_says command status text out reads g) [
  | inl refused ↦ inr (let r = refused.1 in (refused.0, (r.line, r.code, r.fault)))
  | inr says ↦ inl (says_answered command status text out says, says_spelled command status text out says)
]

-- ---- completeness

-- the text that is shown is the one that was left
shown_is : (left : Option (List ℕ)) (shown text : List ℕ) → left ≡ Some shown → IfSome left (λ t. t ≡ text) → shown ≡ text
shown_is None shown text e p = absurd cc
shown_is (Some t) shown text e p = let h : t ≡ shown = cc in sym h ∙ p

shows : (P : List ℕ → Type 0) (old : Devices) (text shown : List ℕ) → old.source.left ≡ Some shown → WasLeft old text → P shown → P text
shows P old text shown e left p = subst P (shown_is old.source.left shown text e left) p

written_complete : (status : Status) (words : List (List ℕ)) (old new : Devices) → EndsWritten status words old new → IsComplete status words old new
written_complete status words old new g = record {
  spelled = λ quiet (command, reads, said, shown). elim (network_output command status g.text g.out reads (written command said)) [
    | inl spelled ↦ answered_or_not status spelled.0
    | inr faulty ↦ absurd (spelled_or_faulty g.text (left IsSpelled shown) faulty.1)
  ];
  refused = λ quiet (command, reads, said, shown). elim (network_output command status g.text g.out reads (written command said)) [
    | inl spelled ↦ absurd (spelled_or_faulty g.text spelled.1 (left IsFaulty shown))
    | inr faulty ↦ inl faulty.0
  ];
  accepted = λ quiet (said, shown). elim (rejected_or status _ _ (written Check said)) [
    | inl done ↦ inl done.0
    | inr rejected ↦ absurd (let r = rejected.1 in good_or_faulty g.text (left IsGood shown) (r.line, r.code, r.fault))
  ];
  rejected = λ quiet (said, shown). elim (rejected_or status _ _ (written Check said)) [
    | inl done ↦ absurd (let r = done.1 in good_or_faulty g.text r.good (left IsFaultyDocument shown))
    | inr rejected ↦ inl rejected.0
  ];
  verified = λ quiet (part, said, shown). elim (rejected_or status _ _ (written (Verify part) said)) [
    | inl done ↦ inl done.0
    | inr rejected ↦ absurd (good_or_faulty_of part g.text (left (IsGoodOf part) shown) (rejection_faulty part g.text g.out rejected.1))
  ];
  unverified = λ quiet (part, said, shown). elim (rejected_or status _ _ (written (Verify part) said)) [
    | inl done ↦ absurd (good_or_faulty_of part g.text (verdict_good part g.text g.out done.1) (left (IsFaultyOf part) shown))
    | inr rejected ↦ inl rejected.0
  ];
  sampled = λ quiet (number, budget, said). (let says = written (Sample number budget) said in answered_or_not status (left_answered (HasOpen (verdicts_of says.0)) status says.1));
  usage = λ quiet none. absurd (none (g.command, g.said));
}
  where
    -- what was written is what the words ask for
    written : (command : Command) → IsCommand words command → IsOutput command status g.text g.out
    written command said = subst (λ (c : Command). IsOutput c status g.text g.out) (one_command words g.command command g.said said) g.says

    -- the text that is shown is the one that was left
    left : (P : List ℕ → Type 0) → Shows P old → P g.text
    left P (shown, e, p) = shows P old g.text shown e g.left p

pub run_complete : (status : Status) (words : List (List ℕ)) (old new : Devices) → RunGives status words old new → IsComplete status words old new
run_complete Done words old new g = written_complete Done words old new g
run_complete OpenLeft words old new g = written_complete OpenLeft words old new g
run_complete Refused words old new g = written_complete Refused words old new g
run_complete Rejected words old new g = written_complete Rejected words old new g
run_complete Usage words old new g = record {
  spelled = λ quiet (command, reads, said, shown). absurd (g.command (command, said));
  refused = λ quiet (command, reads, said, shown). absurd (g.command (command, said));
  accepted = λ quiet (said, shown). absurd (g.command (Check, said));
  rejected = λ quiet (said, shown). absurd (g.command (Check, said));
  verified = λ quiet (part, said, shown). absurd (g.command (Verify part, said));
  unverified = λ quiet (part, said, shown). absurd (g.command (Verify part, said));
  sampled = λ quiet (number, budget, said). absurd (g.command (Sample number budget, said));
  usage = λ quiet none. inl refl;
}
run_complete ReadFault words old new g = record {
  spelled = λ quiet ask. absurd (quiet.source g.source);
  refused = λ quiet ask. absurd (quiet.source g.source);
  accepted = λ quiet ask. absurd (quiet.source g.source);
  rejected = λ quiet ask. absurd (quiet.source g.source);
  verified = λ quiet ask. absurd (quiet.source g.source);
  unverified = λ quiet ask. absurd (quiet.source g.source);
  sampled = λ quiet ask. absurd (quiet.source g.source);
  usage = λ quiet none. absurd (quiet.source g.source);
}
run_complete WriteFault words old new g = record {
  spelled = λ quiet ask. absurd (quiet.sink g.sink.rose);
  refused = λ quiet ask. absurd (quiet.sink g.sink.rose);
  accepted = λ quiet ask. absurd (quiet.sink g.sink.rose);
  rejected = λ quiet ask. absurd (quiet.sink g.sink.rose);
  verified = λ quiet ask. absurd (quiet.sink g.sink.rose);
  unverified = λ quiet ask. absurd (quiet.sink g.sink.rose);
  sampled = λ quiet ask. absurd (quiet.sink g.sink.rose);
  usage = λ quiet none. absurd (quiet.sink g.sink.rose);
}
run_complete NoMemory words old new g = record {
  spelled = λ quiet ask. inr (inr refl);
  refused = λ quiet ask. inr refl;
  accepted = λ quiet ask. inr refl;
  rejected = λ quiet ask. inr refl;
  verified = λ quiet ask. inr refl;
  unverified = λ quiet ask. inr refl;
  sampled = λ quiet ask. inr (inr refl);
  usage = λ quiet none. inr refl;
}

-- ---- devices without a fault

room_for : (room : Option ℕ) (len n : ℕ) → room ≡ Some n → len ≤ n → HasNoRoom room len → ⊥
room_for None len n e le p = absurd cc
room_for (Some r) len n e le p = let h : r ≡ n = cc in absurd (omega arith)

allowed : (words : List (List ℕ)) (old new : Devices) (text out : List ℕ) → IsReadForOutput words old new text out → IsAllowed words text out
allowed words old new text out (inl (command, status, said, read, says)) = inl (command, status, said, says)
allowed words old new text out (inr (none, same, is)) = inr (none, is)

pub quiet_run : (status : Status) (words : List (List ℕ)) (old new : Devices) (text : List ℕ) → RunGives status words old new → IsQuiet words old new text
    → (status ≡ ReadFault → ⊥) × (status ≡ WriteFault → ⊥) × (new.sink.faults ≡ old.sink.faults)
quiet_run Done words old new text g q = (λ e. absurd cc, λ e. absurd cc, g.sink.quiet)
quiet_run OpenLeft words old new text g q = (λ e. absurd cc, λ e. absurd cc, g.sink.quiet)
quiet_run Refused words old new text g q = (λ e. absurd cc, λ e. absurd cc, g.sink.quiet)
quiet_run Rejected words old new text g q = (λ e. absurd cc, λ e. absurd cc, g.sink.quiet)
quiet_run Usage words old new text g q = (λ e. absurd cc, λ e. absurd cc, g.sink.quiet)
quiet_run ReadFault words old new text g q = absurd (let r = g.source in let n = q.source in omega arith)
quiet_run WriteFault words old new text g q =
    let here : IsAllowed words text g.out = subst (λ (t : List ℕ). IsAllowed words t g.out) (sym (shown_is old.source.left text g.text q.left g.left)) (allowed words old new g.text g.out g.allowed) in
    absurd (room_for old.sink.room (length g.out) q.room q.shows (q.fits g.out here) g.sink.no_room)
quiet_run NoMemory words old new text g q = (λ e. absurd cc, λ e. absurd cc, ap (λ s. s.faults) g.sink)
