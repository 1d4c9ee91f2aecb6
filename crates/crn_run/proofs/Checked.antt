-- What is written for a document that is accepted, whose verdicts are formed.
use Rattle.crn_run.proofs.Prelude.{◌≡◌, ℕ, List, [], Option, Some, None, refl, sym, subst, ◌∙◌, inl, Err, IfSome, Net, Verdict, built, AreFormedVerdicts, Record, AreFormedOf, IsGood, IsReadOf, ReadDocumentsAreGood, AreSound, FormedRecordsAreOfAnswers, records_of, records_formed, Has32Bits, render, Accepts, CheckGives, Rejects, IsTextOf, Accepted, Devices, IsCheckOf, RunGives, rejected_line, verdicts_in, IsCommand, LineGives, Check, Verify, Status, Done, ReadFault, Rejected}
use Rattle.crn_reading.specs.declared.fault.CheckStop.TheVariants.{Failed}
use Rattle.crn_run.proofs.WordsSaid.{one_command}
use Rattle.crn_run.proofs.Runs.{output_ends, read_out}
use Rattle.crn_run.proofs.Outputs.{answers_formed}

-- ---- an accepted document

checked_of : (text : List ℕ) (net : Net) (blocks : List (List Record)) (good : IsGood text) → good.net ≡ net → verdicts_in net (records_of good.net good.answers) ≡ verdicts_in net blocks → AreSound net built (verdicts_in net blocks) → IsCheckOf text (render built net (verdicts_in net blocks))
checked_of text net blocks good net_is says sound =
    let records = records_of good.net good.answers in
    let here : AreSound good.net built (verdicts_in good.net records) =
    subst (λ (n : Net). AreSound n built (verdicts_in n records)) (sym net_is) (subst (λ (vs : List Verdict). AreSound net built vs) (sym says) sound) in
    let own : IsCheckOf text (render built good.net (verdicts_in good.net records)) = record { good = good; sound = here; written = refl } in
    subst (λ (vs : List Verdict). IsCheckOf text (render built net vs)) says
    (subst (λ (n : Net). IsCheckOf text (render built n (verdicts_in n records))) net_is own)

pub checked : ReadDocumentsAreGood → (text : List ℕ) (net : Net) (blocks : List (List Record)) (vs : List Verdict) → IsReadOf text (record { net = net; blocks = blocks }) → vs ≡ verdicts_in net blocks
    → AreSound net built vs → IsCheckOf text (render built net vs)
checked same text net blocks vs is said sound =
    let (good, net_is, prefixes, says) = same text (record { net = net; blocks = blocks }) is in
    subst (λ (ws : List Verdict). IsCheckOf text (render built net ws)) (sym said)
    (checked_of text net blocks good net_is says (subst (λ (ws : List Verdict). AreSound net built ws) said sound))

-- ---- runs

pub left_of : (left : Option (List ℕ)) (pulled text : List ℕ) → IsTextOf left pulled text → IfSome left (λ l. l ≡ text)
left_of None pulled text is = tt
left_of (Some l) pulled text is = sym is

pub accept_ends : ReadDocumentsAreGood → (status : Status) (words : List (List ℕ)) (a : Accepted) (old new : Devices) → IsCommand words Check → Accepts a old.source new.source
    → LineGives Done status (render built a.net a.verdicts) old.sink new.sink → RunGives status words old new
accept_ends same status words a old new said g line = output_ends Check Done status words g.text (render built a.net a.verdicts) old new (record {
  said = said;
  read = read_out old.source.left new.source.left g.read.pulled g.read.consumed g.none;
  within = inl (Check, said, (g.read.pulled, g.read.bound, g.read.consumed));
  source = g.read.faults;
  left = left_of old.source.left g.read.pulled g.text g.read.is;
  says = checked same g.text a.net g.blocks a.verdicts g.gives g.verdicts g.sound;
}) line

pub reject_ends : (status : Status) (words : List (List ℕ)) (code line : ℕ) (old new : Devices) → Has32Bits line → Has32Bits code → IsCommand words Check → Rejects code line old.source new.source
    → LineGives Rejected status (rejected_line code line) old.sink new.sink → RunGives status words old new
reject_ends status words code line old new line_short code_short said g writes = output_ends Check Rejected status words g.text (rejected_line code line) old new (record {
  said = said;
  read = (g.read.pulled, g.near, g.read.consumed);
  within = inl (Check, said, (g.read.pulled, g.read.bound, g.read.consumed));
  source = g.read.faults;
  left = left_of old.source.left g.read.pulled g.text g.read.is;
  says = record { line = line; code = code; short = (line_short, code_short); fault = g.fault; written = refl };
}) writes

-- the source failed while the fault was open
pub failed_ends : (words : List (List ℕ)) (old new : Devices) → IsCommand words Check → CheckGives (Err Failed) old.source new.source → new.sink ≡ old.sink → RunGives ReadFault words old new
failed_ends words old new said g same =
    record { command = (Check, said); within = inl (Check, said, g.0); source = g.2; later = g.3; undecided = λ check. g.1; awaited = λ part verify. absurd (let e = one_command words Check (Verify part) said verify in cc); sink = same }

-- ---- what is read is formed

-- the verdicts that are read are those of formed records
pub read_formed : ReadDocumentsAreGood → (text : List ℕ) (net : Net) (blocks : List (List Record)) → IsReadOf text (record { net = net; blocks = blocks })
    → (answers : List (List Record)) × AreFormedOf net answers × (verdicts_in net answers ≡ verdicts_in net blocks)
read_formed same text net blocks is =
    let (good, net_is, prefixes, says) = same text (record { net = net; blocks = blocks }) is in
    let records = records_of good.net good.answers in
    (records, subst (λ (n : Net). AreFormedOf n records) net_is (records_formed good.net good.answers good.formed), says)

-- the verdicts of an accepted document are formed
pub accepted_formed : FormedRecordsAreOfAnswers → (net : Net) (blocks : List (List Record)) (vs : List Verdict)
    → (answers : List (List Record)) × AreFormedOf net answers × (verdicts_in net answers ≡ verdicts_in net blocks) → vs ≡ verdicts_in net blocks → AreFormedVerdicts net [] built vs
accepted_formed given net blocks vs (records, formed, says) said =
    let (answers, are, same, saying) = given net records formed in
    subst (λ (ws : List Verdict). AreFormedVerdicts net [] built ws) (sym (said ∙ sym says ∙ saying)) (answers_formed net [] built answers are)
