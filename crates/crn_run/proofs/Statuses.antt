-- What a command writes, by the status that a run of it ends with.
use Rattle.crn_run.proofs.Prelude.{◌≡◌, ◌⊎◌, ℕ, List, refl, sym, subst, inl, inr, Answer, verdicts_of, IsLeftBy, IsProofOf, IsVerdictOf, IsPartRejectionOf, subject_of, AreLeftBy, HasOpen, IsCertificateOf, IsCheckOf, IsOutput, IsRefusalOf, IsRejectionOf, IsReportOf, IsSpelled, OrRefused, OrRejected, ReadsNetwork, Command, Report, Certify, Check, Sample, Prove, Verify, Status, Done, OpenLeft, Refused, Rejected, Usage, ReadFault, WriteFault, NoMemory}

-- ---- statuses of answers

-- the status of a run that wrote answers
abbrev pub IsAnswered : Status → Type 0
IsAnswered status = (status ≡ Done) ⊎ (status ≡ OpenLeft)

-- what holds for each way in which such a run ends
pub by_left : (Open : Type 0) (P : Status → Type 0) (status : Status) → IsLeftBy Open status → (IsLeftBy Open Done → P Done) → (IsLeftBy Open OpenLeft → P OpenLeft) → P status
by_left Open P Done left done opened = done left
by_left Open P OpenLeft left done opened = opened left
by_left Open P Refused left done opened = absurd left
by_left Open P Rejected left done opened = absurd left
by_left Open P Usage left done opened = absurd left
by_left Open P ReadFault left done opened = absurd left
by_left Open P WriteFault left done opened = absurd left
by_left Open P NoMemory left done opened = absurd left

pub left_answered : (Open : Type 0) (status : Status) → IsLeftBy Open status → IsAnswered status
left_answered Open status left = by_left Open IsAnswered status left (λ l. inl refl) (λ l. inr refl)

-- the same by something else that is open just then
pub left_as : (Open Other : Type 0) (status : Status) → (Open → Other) → (Other → Open) → IsLeftBy Open status → IsLeftBy Other status
left_as Open Other status there back left = by_left Open (λ s. IsLeftBy Other s) status left (λ closed. λ o. closed (back o)) there

-- ---- what is written

pub refused_or : (status : Status) (text out : List ℕ) (Said : Type 0) → OrRefused status text out Said → ((status ≡ Refused) × IsRefusalOf text out) ⊎ Said
refused_or Done text out Said g = inr g
refused_or OpenLeft text out Said g = inr g
refused_or Refused text out Said g = inl (refl, g)
refused_or Rejected text out Said g = inr g
refused_or Usage text out Said g = inr g
refused_or ReadFault text out Said g = inr g
refused_or WriteFault text out Said g = inr g
refused_or NoMemory text out Said g = inr g

pub rejected_or : (status : Status) (Good Bad : Type 0) → OrRejected status Good Bad → ((status ≡ Done) × Good) ⊎ ((status ≡ Rejected) × Bad)
rejected_or Done Good Bad g = inl (refl, g)
rejected_or OpenLeft Good Bad g = absurd g
rejected_or Refused Good Bad g = absurd g
rejected_or Rejected Good Bad g = inr (refl, g)
rejected_or Usage Good Bad g = absurd g
rejected_or ReadFault Good Bad g = absurd g
rejected_or WriteFault Good Bad g = absurd g
rejected_or NoMemory Good Bad g = absurd g

-- what a command writes for a text that spells a network
abbrev pub Says : Command → Status → (text out : List ℕ) → Type 0
Says (Report n) status text out = (answers : List Answer) × AreLeftBy status answers × IsReportOf n text out answers
Says (Certify n) status text out = (answers : List Answer) × AreLeftBy status answers × IsCertificateOf n text out answers
Says (Prove part n) status text out = IsProofOf (subject_of part) n status text out
Says command status text out = ⊥

pub refused_or_says : (command : Command) (status : Status) (text out : List ℕ) → ReadsNetwork command → IsOutput command status text out → ((status ≡ Refused) × IsRefusalOf text out) ⊎ Says command status text out
refused_or_says (Report n) status text out reads g = refused_or status text out _ g
refused_or_says (Certify n) status text out reads g = refused_or status text out _ g
refused_or_says Check status text out reads g = absurd reads
refused_or_says (Sample k n) status text out reads g = absurd reads
refused_or_says (Prove part n) status text out reads g = refused_or status text out _ g
refused_or_says (Verify part) status text out reads g = absurd reads

pub says_answered : (command : Command) (status : Status) (text out : List ℕ) → Says command status text out → IsAnswered status
says_answered (Report n) status text out g = left_answered (HasOpen (verdicts_of g.0)) status g.1
says_answered (Certify n) status text out g = left_answered (HasOpen (verdicts_of g.0)) status g.1
says_answered Check status text out g = absurd g
says_answered (Sample k n) status text out g = absurd g
says_answered (Prove part n) status text out g = left_answered ((subject_of part).IsOpen ((subject_of part).meant.says g.answer)) status g.left
says_answered (Verify part) status text out g = absurd g

pub says_spelled : (command : Command) (status : Status) (text out : List ℕ) → Says command status text out → IsSpelled text
says_spelled (Report n) status text out g = (g.2.net, g.2.says.spells)
says_spelled (Certify n) status text out g = (g.2.net, g.2.says.spells)
says_spelled Check status text out g = absurd g
says_spelled (Sample k n) status text out g = absurd g
says_spelled (Prove part n) status text out g = (g.net, g.spells)
says_spelled (Verify part) status text out g = absurd g

-- ---- statuses with which something is written

-- no command writes a text with these statuses
abbrev pub IsWritten : Status → Type 0
IsWritten Usage = ⊥
IsWritten ReadFault = ⊥
IsWritten WriteFault = ⊥
IsWritten NoMemory = ⊥
IsWritten status = Unit {0}

answered_is_written : (status : Status) → IsAnswered status → IsWritten status
answered_is_written status (inl is) = subst IsWritten (sym is) tt
answered_is_written status (inr is) = subst IsWritten (sym is) tt

text_is_written : (command : Command) (status : Status) (text out : List ℕ) → ReadsNetwork command → IsOutput command status text out → IsWritten status
text_is_written command status text out reads g = elim (refused_or_says command status text out reads g) [
  | inl refused ↦ subst IsWritten (sym refused.0) tt
  | inr says ↦ answered_is_written status (says_answered command status text out says)
]

document_is_written : (status : Status) (Good Bad : Type 0) → OrRejected status Good Bad → IsWritten status
document_is_written status Good Bad g = elim (rejected_or status Good Bad g) [
  | inl done ↦ subst IsWritten (sym done.0) tt
  | inr rejected ↦ subst IsWritten (sym rejected.0) tt
]

pub output_is_written : (command : Command) (status : Status) (text out : List ℕ) → IsOutput command status text out → IsWritten status
output_is_written (Report n) status text out g = text_is_written (Report n) status text out tt g
output_is_written (Certify n) status text out g = text_is_written (Certify n) status text out tt g
output_is_written Check status text out g = document_is_written status (IsCheckOf text out) (IsRejectionOf text out) g
output_is_written (Sample k n) status text out g = answered_is_written status (left_answered (HasOpen (verdicts_of g.0)) status g.1)
output_is_written (Prove part n) status text out g = text_is_written (Prove part n) status text out tt g
output_is_written (Verify part) status text out g = document_is_written status (IsVerdictOf (subject_of part) text out) (IsPartRejectionOf (subject_of part) text out) g
