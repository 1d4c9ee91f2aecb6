-- A whole document, from its first line to its end, and what is said of its text.
use Rattle.crn_document.proofs.Prelude.{◌≡◌, ◌+◌, ◌∙◌, ℕ, List, [], sym, subst, ap, inl, inr, arith, Result, Ok, Err, SourceSeen, beginning, Net, built, Verdict, Course, find, ◌>>=◌, ReadOf, IsNetworkOf, asks_lines, none_own, IsReadOf, AreSound, Awaits, StepGives, awaited_open, read_true, settled, CheckGives, IsAnswered, IsAccepted, AnswersWith, IsAnsweredBy, ReadingGives, Accepted, Reading, CheckStop, IsNew, IsWhole, rest_course, whole_course, LastIs, count_course, network_course, title_course, last_all, last_then, text_answered, text_read, begun_none, BadNetwork}
use Rattle.crn_reading.specs.declared.fault.CheckStop.TheVariants as stop

-- ---- the parts of a document

-- what follows the network
abbrev pub after_network : (version count : ℕ) → Net → Course ReadOf
after_network version count net = rest_course version (3 + count) net

-- what follows the number of its lines
abbrev pub after_count : (version count : ℕ) → Course ReadOf
after_count version count = asks_lines count >>= (λ lines. find (2 + count) BadNetwork Net (IsNetworkOf lines) >>= (λ net. after_network version count net))

-- what follows the title
abbrev pub after_title : (version : ℕ) → Course ReadOf
after_title version = count_course >>= (λ count. after_count version count)

-- what follows a title that was read
pub title_then : (version : ℕ) (result : Result Accepted CheckStop) (old mid : Reading) (before between now : SourceSeen)
    → StepGives title_course version old.line mid.line old.lines mid.lines before.left between.left → between.faults ≡ before.faults
    → LastIs (after_title version) IsWhole result mid between now → LastIs whole_course IsWhole result old before now
title_then version result old mid before between now p same q = last_then title_course after_title version IsWhole result old mid before between now p same q

-- what follows a number of lines that was read
pub count_then : (version count : ℕ) (result : Result Accepted CheckStop) (old mid : Reading) (before between now : SourceSeen)
    → StepGives count_course count old.line mid.line old.lines mid.lines before.left between.left → between.faults ≡ before.faults
    → LastIs (after_count version count) IsWhole result mid between now → LastIs (after_title version) IsWhole result old before now
count_then version count result old mid before between now p same q = last_then count_course (after_count version) count IsWhole result old mid before between now p same q

-- the lines of the network and their test, and what follows
pub network_all : (version count : ℕ) (result : Result Accepted CheckStop) (old : Reading) (before now : SourceSeen)
    → LastIs (network_course count >>= after_network version count) IsWhole result old before now → LastIs (after_count version count) IsWhole result old before now
network_all version count result old before now p =
    last_all (asks_lines count) (λ lines. find (2 + count) BadNetwork Net (IsNetworkOf lines)) (after_network version count) IsWhole result old before now p

-- what follows a network that was read
pub network_then : (version count : ℕ) (net : Net) (result : Result Accepted CheckStop) (old mid : Reading) (before between now : SourceSeen)
    → StepGives (network_course count) net old.line mid.line old.lines mid.lines before.left between.left → between.faults ≡ before.faults
    → LastIs (after_network version count net) IsWhole result mid between now → LastIs (after_count version count) IsWhole result old before now
network_then version count net result old mid before between now p same q =
    network_all version count result old before now (last_then (network_course count) (after_network version count) net IsWhole result old mid before between now p same q)

-- the parts after the network that was read, by what the reading counts
pub body_at : (P : Course ReadOf → Type 0) (version v count k line : ℕ) (net n : Net) → v ≡ version → count ≡ k → line ≡ 3 + k → net ≡ n
    → P (rest_course v line n) → P (after_network version count net)
body_at P version v count k line net n same number here is p =
    subst (λ (x : Net). P (rest_course version (3 + count) x)) (sym is)
    (subst (λ (l : ℕ). P (rest_course version l n)) (here ∙ ap (λ (j : ℕ). 3 + j) (sym number))
    (subst (λ (w : ℕ). P (rest_course w line n)) same p))

-- ---- the text

-- the first line is due
first_awaited : Awaits whole_course (beginning [])
unfolding Awaits
first_awaited = inl (begun_none 0 (omega arith))

-- what reading it by its course does is what checking it does
checked : (result : Result Accepted CheckStop) (before now : SourceSeen) → ReadingGives whole_course IsWhole result before now → CheckGives result before now
checked (Ok accepted) before now r =
    let said = r.says in
    let read : ReadOf = record { net = accepted.net; blocks = said.0 } in
    let gives : IsReadOf r.text read = subst (λ (x : ReadOf). IsReadOf r.text x) said.1 (r.after, r.gives) in
    record {
      text = r.text;
      read = r.read;
      none = r.none;
      blocks = said.0;
      gives = gives;
      verdicts = said.2;
      sound = subst (λ (vs : List Verdict). AreSound accepted.net built vs) (sym said.2) (let s = read_true r.text read gives in s.1);
    }
checked (Err (stop.Rejected code line)) before now r = let w = r.near in record { text = r.text; read = r.read; fault = r.fault; near = (w.0, w.1, w.2, awaited_open w.0 w.3, w.4) }
checked (Err stop.Failed) before now r = let w = r.1 in (r.0, (w.0, w.1, awaited_open w.0 w.2), r.2, r.3)
checked (Err stop.NoMemory) before now r = r

-- what a whole document answers
pub document_gives : (result : Result Accepted CheckStop) (at : Reading) (before now : SourceSeen) → IsNew at → LastIs whole_course IsWhole result at before now → CheckGives result before now
document_gives result at before now new p = checked result before now (text_read whole_course IsWhole result at before now new first_awaited p)

accepted_of : (result : Result Accepted CheckStop) (read : ReadOf) → AnswersWith IsWhole result read → IsAccepted result read
accepted_of (Ok accepted) read w = sym (ap (λ (x : ReadOf). x.net) w.1)
accepted_of (Err e) read w = absurd w

-- each document is answered by what it is
pub document_answered : (result : Result Accepted CheckStop) (at : Reading) (before now : SourceSeen) → IsNew at → LastIs whole_course IsWhole result at before now → IsAnswered result before now
document_answered result at before now new p =
    let a : IsAnsweredBy whole_course IsWhole result before now = text_answered none_own whole_course IsWhole settled result before now (text_read whole_course IsWhole result at before now new first_awaited p) in
    let good = a.good in
    let fault = a.fault in
    record {
      good = λ text read is quiet g. elim (good text read g.0 is quiet g.1) [ inl w ↦ inl (accepted_of result read w) | inr memory ↦ inr memory ];
      fault = fault;
    }
