-- What may be written is shorter than a document may be.
use Rattle.crn_run.proofs.Prelude.{ℕ, ◌+◌, ◌<◌, ◌≤◌, ◌==◌, inl, inr, List, [], ◌∷◌, length, sym, subst, arith, onto_first, cases_Bool, MAX_DOCUMENT, Fault, lines, TextCode, built, Answer, Verdict, answers_formed, records_answered, usage_line, Has32Bits, render, fault_lines_are_short, reports_are_short, summaries_are_short, IsAllowed, IsCertificateOf, IsCheckOf, IsOutput, IsRefusalOf, IsRejectionOf, IsReportOf, IsSummaryOf, IsCommand, Command, Report, Certify, Check, Sample, Prove, Verify, PartName, IsVerdictOf, IsPartRejectionOf, subject_of, Status}
use Rattle.crn_ctext.specs.Judged.{records_of}
use Rattle.crn_run.proofs.PartFacts.{facts}
use Rattle.crn_run.proofs.Statuses.{refused_or, rejected_or}

-- ---- lines of faults

onto_most : (x : ℕ) (ls : List (List ℕ)) → 1 ≤ length ls → length (onto_first x ls) ≤ length ls
onto_most x [] some = absurd (omega (arith, some))
onto_most x (l ∷ ls) some = omega arith

-- a text has at least one line, and at most one more than bytes
record AreCounted (text : List ℕ) : Type 0 where
  some : 1 ≤ length (lines text)
  few : length (lines text) ≤ length text + 1

onto_some : (x : ℕ) (ls : List (List ℕ)) → 1 ≤ length (onto_first x ls)
onto_some x [] = omega arith
onto_some x (l ∷ ls) = omega arith

counted : (text : List ℕ) → AreCounted text
counted [] = record { some = omega arith; few = omega arith }
counted (x ∷ xs) =
    let c = counted xs in
    let some = c.some in
    let few = c.few in
    elim (cases_Bool (x == 10)) as (λ _. AreCounted (x ∷ xs)) [
      | inl hit ↦ record { some = rw hit (omega arith); few = rw hit (omega (arith, few)) }
      | inr miss ↦ record { some = rw miss (onto_some x (lines xs)); few = rw miss (omega (arith, onto_most x (lines xs) some, few)) }
    ]

-- the line of a fault is within the limit of a text
fault_line_short : (text : List ℕ) (line : ℕ) (code : TextCode) → Fault text line code → Has32Bits line
fault_line_short text line code (inl f) = let whole = f.whole in omega (arith, whole)
fault_line_short text line code (inr (inl f)) =
    let c = counted text in
    let few = c.few in
    let at = f.counted in
    let there = f.there in
    let short = f.short in
    omega (arith, few, at, there, short)
fault_line_short text line code (inr (inr f)) = let whole = f.whole in omega (arith, whole)

refusal_short : (text out : List ℕ) → IsRefusalOf text out → length out < MAX_DOCUMENT
refusal_short text out r = subst (λ (t : List ℕ). length t < MAX_DOCUMENT) (sym r.written) (fault_lines_are_short.refused r.code r.line (fault_line_short text r.line r.code r.fault))

rejection_short : (text out : List ℕ) → IsRejectionOf text out → length out < MAX_DOCUMENT
rejection_short text out r = subst (λ (t : List ℕ). length t < MAX_DOCUMENT) (sym r.written) (fault_lines_are_short.rejected r.code r.line r.short.1 r.short.0)

usage_short : length usage_line < MAX_DOCUMENT
unfolding usage_line
usage_short = omega arith

-- ---- reports, documents and summaries

report_short : (budget : ℕ) (text out : List ℕ) (answers : List Answer) → IsReportOf budget text out answers → length out < MAX_DOCUMENT
report_short budget text out answers r = subst (λ (t : List ℕ). length t < MAX_DOCUMENT) (sym r.written) (reports_are_short r.net answers r.says.spells.network r.says.formed)

certificate_short : (budget : ℕ) (text out : List ℕ) (answers : List Answer) → IsCertificateOf budget text out answers → length out < MAX_DOCUMENT
certificate_short budget text out answers r = r.good.short

summary_short : (number budget : ℕ) (out : List ℕ) (answers : List Answer) → Has32Bits number → IsSummaryOf number budget out answers → length out < MAX_DOCUMENT
summary_short number budget out answers lt r =
    let certified = r.certified in
    let says = certified.says in
    subst (λ (t : List ℕ). length t < MAX_DOCUMENT) (sym r.written) (summaries_are_short number certified.net answers lt says.spells.network says.formed)

check_short : (text out : List ℕ) → IsCheckOf text out → length out < MAX_DOCUMENT
check_short text out r =
    let good = r.good in
    let given = records_answered good.net (records_of good.net good.answers) (answers_formed good.net good.answers good.formed) in
    let here = reports_are_short good.net given.0 good.network given.1 in
    subst (λ (t : List ℕ). length t < MAX_DOCUMENT) (sym r.written) (subst (λ (vs : List Verdict). length (render built good.net vs) < MAX_DOCUMENT) (sym given.3) here)

verdict_short : (part : PartName) (text out : List ℕ) → IsVerdictOf (subject_of part) text out → length out < MAX_DOCUMENT
verdict_short part text out r =
    let s = subject_of part in
    subst (λ (t : List ℕ). length t < MAX_DOCUMENT) (sym r.written) ((facts part).short r.net r.answer r.document.network r.document.formed)

part_rejection_short : (part : PartName) (text out : List ℕ) → IsPartRejectionOf (subject_of part) text out → length out < MAX_DOCUMENT
part_rejection_short part text out r = subst (λ (t : List ℕ). length t < MAX_DOCUMENT) (sym r.written) (fault_lines_are_short.rejected r.code r.line r.short.1 r.short.0)

-- the number of a sample has 32 bits
abbrev HasShortNumber : Command → Type 0
HasShortNumber (Sample number budget) = Has32Bits number
HasShortNumber command = Unit {0}

said_short : (words : List (List ℕ)) (command : Command) → IsCommand words command → HasShortNumber command
said_short words (Report budget) said = tt
said_short words (Certify budget) said = tt
said_short words Check said = tt
said_short words (Prove part budget) said = tt
said_short words (Verify part) said = tt
said_short words (Sample number budget) (program, rest, is, means) = let n = means.1 in let most = n.most in omega (arith, most)

output_short : (command : Command) (status : Status) (text out : List ℕ) → HasShortNumber command → IsOutput command status text out → length out < MAX_DOCUMENT
output_short (Report budget) status text out h g = elim (refused_or status text out _ g) [
  | inl refused ↦ refusal_short text out refused.1
  | inr says ↦ report_short budget text out says.0 says.2
]
output_short (Certify budget) status text out h g = elim (refused_or status text out _ g) [
  | inl refused ↦ refusal_short text out refused.1
  | inr says ↦ certificate_short budget text out says.0 says.2
]
output_short Check status text out h g = elim (rejected_or status _ _ g) [
  | inl done ↦ check_short text out done.1
  | inr rejected ↦ rejection_short text out rejected.1
]
output_short (Sample number budget) status text out h g = summary_short number budget out g.0 h g.2
output_short (Prove part budget) status text out h g = elim (refused_or status text out _ g) [
  | inl refused ↦ refusal_short text out refused.1
  | inr says ↦ says.document.short
]
output_short (Verify part) status text out h g = elim (rejected_or status _ _ g) [
  | inl done ↦ verdict_short part text out done.1
  | inr rejected ↦ part_rejection_short part text out rejected.1
]

pub allowed_short : (words : List (List ℕ)) (text out : List ℕ) → IsAllowed words text out → length out < MAX_DOCUMENT
allowed_short words text out (inl (command, status, said, says)) = output_short command status text out (said_short words command said) says
allowed_short words text out (inr (none, is)) = subst (λ (t : List ℕ). length t < MAX_DOCUMENT) (sym is) usage_short
