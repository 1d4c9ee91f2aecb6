-- The documents of a part's formed and valid answers are those that its course reads to their end.
use Rattle.crn_ctext.proofs.Prelude.{◌≡◌, ◌≤◌, ◌<◌, ◌+◌, ◌++◌, ℕ, List, [], ◌∷◌, length, map, refl, sym, ap, ap₂, subst, ◌∙◌, inl, inr, append_assoc, arith, codes, AllByRecursion, AllZip, append-nil, length-append, length-map, Net, IsNetwork, MAX_REACTIONS, canonical, complex_text, MAX_DOCUMENT, beginning, Record, Says, record_text, end_form, Course, Give, ◌>>=◌, find, ends, IsWrittenBy, IsSettled, asks_lines, network_line, ended, IsNetworkOf, one_word, record_lines, Part, Meant, part_title, part_opening, part_ending, part_course, part_document, asks_part, IsPartDocument, IsPartRead, AreJudged, BadNetwork, IsIn}
use Rattle.crn_ctext.proofs.Written.{IsShortLine, gives_what_is_written, written_is_given, is_none}
use Rattle.crn_ctext.proofs.Image.{HasNoEnd, written_then, written_cuts, no_end_then, part_record_is_written, written_is_part_record, part_no_end}
use Rattle.crn_ctext.proofs.Courses.{each_is_judged, gives_or_fails, first_is_one, fails_with_a_code}
use Rattle.crn_ctext.proofs.StepsThen.{gives_counts}
use Rattle.crn_ctext.proofs.NetworkLines.{lines_are_reactions}
use Rattle.crn_ctext.proofs.FormWords.{words_yes}
use Rattle.crn_ctext.proofs.ShortAnswers.{AllPlain, plain_are_short}
use Rattle.crn_ctext.proofs.ShortLines.{text_lines_are_short}
use Rattle.crn_ctext.proofs.BlocksRead.{lines_back, end_line}
use Rattle.crn_ctext.proofs.DocumentsRead.{IsEnded, ended_then, ended_leaves_none, given_below, no_ends, prefix_of, texts_are}
use Rattle.crn_ctext.proofs.DocumentsShort.{ended_short, lines_weigh, plain_weight, same_for}
use Rattle.crn_ctext.proofs.DocumentsWritten.{network_lines, canonical_ended, ended_append, taken_no_end, lines_taken}

-- ---- what a part's crate shows of it

-- its lines end nowhere before the last one, and give an answer if and only if they are those of one
pub record IsAnswered {Answer Read : Type 0} (p : Part Read) (m : Meant Answer Read) : Type 0 where
  pub back : (net : Net) (n : ℕ) (ls : List (List ℕ)) (y : ℕ × Read) → IsNetwork net → IsWrittenBy (p.lines net n) ls y
      → (answer : Answer) × m.IsFormed net answer × m.IsValid net answer × AllZip Says ls (m.records answer) × (y.1 ≡ m.says answer)
  pub on : (net : Net) (n : ℕ) (answer : Answer) → IsNetwork net → m.IsFormed net answer → m.IsValid net answer
      → (k : ℕ) × IsWrittenBy (p.lines net n) (map record_text (m.records answer)) (k, m.says answer)
  pub plain : (net : Net) (answer : Answer) → IsNetwork net → m.IsFormed net answer → AllPlain (m.records answer)
  pub goes_on : (net : Net) (n : ℕ) → HasNoEnd (p.lines net n)
  pub title : IsShortLine (part_title p.name)
  pub end_known : IsIn (codes "end") p.words

-- ---- the opening

opening_no_end : (name : List ℕ) → HasNoEnd (part_opening name)
unfolding HasNoEnd
opening_no_end name = λ first x second count. no_end_then (asks_lines count) (λ lines. find (2 + count) BadNetwork Net (IsNetworkOf lines) >>= (λ net. Give (net, 3 + count))) (taken_no_end count) (λ lines net. tt)

-- the lines of an opening
abbrev opening_lines : List ℕ → List (List ℕ) → List (List ℕ)
opening_lines name lines = part_title name ∷ network_line (length lines) ∷ lines

abbrev OpensWith : List ℕ → List (List ℕ) → Net × ℕ → Type 0
OpensWith name ls x = (lines : List (List ℕ)) × (ls ≡ opening_lines name lines) × IsNetworkOf lines x.0

opening_back : (name : List ℕ) (ls : List (List ℕ)) (x : Net × ℕ) → IsWrittenBy (part_opening name) ls x → OpensWith name ls x
unfolding IsWrittenBy
opening_back name [] x p = absurd p
opening_back name (first ∷ []) x p = absurd p.2
opening_back name (first ∷ second ∷ ls) x p =
    let count = p.2.0 in
    let a = written_cuts (asks_lines count) (λ lines. find (2 + count) BadNetwork Net (IsNetworkOf lines) >>= (λ net. Give (net, 3 + count))) ls x p.2.2 in
    let b = lines_back count a.1 a.0 a.4 in
    let found = a.5 in
    let none : a.2 ≡ [] = found.2.1 in
    let all : ls ≡ a.0 = a.3 ∙ ap (λ (t : List (List ℕ)). a.1 ++ t) none ∙ append-nil a.1 ∙ b.0 in
    let here : second ≡ network_line (length a.0) = p.2.1.2 ∙ ap network_line (sym b.1) in
    (a.0, ap₂ (λ (f : List ℕ) (t : List (List ℕ)). f ∷ t) p.1 (ap₂ (λ (f : List ℕ) (t : List (List ℕ)). f ∷ t) here all), subst (λ (n : Net). IsNetworkOf a.0 n) (ap (λ (q : Net × ℕ). q.0) found.2.0) found.1)

opening_written : (name : List ℕ) (net : Net) → IsNetwork net → IsWrittenBy (part_opening name) (opening_lines name (network_lines net)) (net, 3 + length net.reactions)
unfolding IsWrittenBy
opening_written name net n = (tt, refl, (count, (some, (let p = n.partial in p.reactions_limit), ap network_line whole), lines))
  where
    count : ℕ
    count = length net.reactions

    some : 1 ≤ count
    some = n.some

    whole : length (network_lines net) ≡ count
    whole = length-map net.reactions (λ (r : ℕ × ℕ). complex_text net r.0 ++ codes " -> " ++ complex_text net r.1)

    after : List (List ℕ) → Course (Net × ℕ)
    after lines = find (2 + count) BadNetwork Net (IsNetworkOf lines) >>= (λ net. Give (net, 3 + count))

    lines : IsWrittenBy (asks_lines count >>= after) (network_lines net) (net, 3 + count)
    lines = subst (λ (ls : List (List ℕ)). IsWrittenBy (asks_lines count >>= after) ls (net, 3 + count)) (append-nil (network_lines net))
        (written_then (asks_lines count) after (network_lines net) [] (network_lines net) (net, 3 + count) (taken_no_end count)
        (subst (λ (k : ℕ). IsWrittenBy (asks_lines k) (network_lines net) (network_lines net)) whole (lines_taken (network_lines net))) (net, (n, canonical_ended net), (refl, refl)))

-- ---- the last line

ending_back : {A : Type 0} (words : List (List ℕ)) (n : ℕ) (read y : A) (ls : List (List ℕ)) → IsWrittenBy (part_ending words n read) ls y → (ls ≡ codes "end" ∷ []) × (read ≡ y)
unfolding IsWrittenBy
ending_back words n read y ls p =
    let a = written_cuts (asks_part words n (end_form ∷ [])) (λ last. ends >>= (λ x. Give read)) ls y p in
    let r = written_is_part_record words n (end_form ∷ []) a.1 a.0 a.4 in
    let says : r.0 ≡ codes "end" = end_line r.0 a.0 r.2 r.3.0 r.3.1 r.3.2 in
    (a.3 ∙ ap (λ (t : List (List ℕ)). t ++ a.2) r.1 ∙ ap (λ (t : List (List ℕ)). r.0 ∷ t) a.5.0 ∙ ap (λ (x : List ℕ). x ∷ []) says, a.5.1.0)

ending_written : {A : Type 0} (words : List (List ℕ)) (n : ℕ) (read : A) → IsIn (codes "end") words → IsWrittenBy (part_ending words n read) (codes "end" ∷ []) read
unfolding IsWrittenBy
ending_written words n read known =
    written_then (asks_part words n (end_form ∷ [])) (λ last. ends >>= (λ x. Give read)) (record_text (one_word (codes "end") []) ∷ []) [] (one_word (codes "end") []) read (part_no_end words n (end_form ∷ []))
    (part_record_is_written words n (end_form ∷ []) end_form (one_word (codes "end") []) (inl refl) (words_yes (codes "end" ∷ []) refl) known (refl, refl) tt)
    (refl, (refl, refl))

-- ---- a document

abbrev part_lines : List ℕ → Net → List Record → List (List ℕ)
part_lines name net rs = opening_lines name (network_lines net) ++ (map record_text rs ++ codes "end" ∷ [])

document_ended : (name : List ℕ) (net : Net) (rs : List Record) → part_document name net rs ≡ ended (part_lines name net rs)
document_ended name net rs =
    let head = ended (part_title name ∷ network_line (length net.reactions) ∷ []) in
    let said = ended (map record_text rs) in
    let last = ended (codes "end" ∷ []) in
    let whole : length (network_lines net) ≡ length net.reactions = length-map net.reactions (λ (r : ℕ × ℕ). complex_text net r.0 ++ codes " -> " ++ complex_text net r.1) in
    ap (λ (t : List ℕ). ((head ++ t) ++ said) ++ last) (canonical_ended net)
    ∙ append_assoc (head ++ ended (network_lines net)) said last ∙ append_assoc head (ended (network_lines net)) (said ++ last)
    ∙ ap (λ (t : List ℕ). head ++ (ended (network_lines net) ++ t)) (sym (ended_append (map record_text rs) (codes "end" ∷ [])))
    ∙ ap (λ (t : List ℕ). head ++ t) (sym (ended_append (network_lines net) (map record_text rs ++ codes "end" ∷ [])))
    ∙ sym (ended_append (part_title name ∷ network_line (length net.reactions) ∷ []) (network_lines net ++ (map record_text rs ++ codes "end" ∷ [])))
    ∙ ap (λ (k : ℕ). ended (part_title name ∷ network_line k ∷ (network_lines net ++ (map record_text rs ++ codes "end" ∷ [])))) (sym whole)

-- a document of so many records is short
pub part_document_short : (name : List ℕ) (net : Net) (rs : List Record) → IsShortLine (part_title name) → IsNetwork net → AllPlain rs → length rs ≤ 400000 → length (part_document name net rs) < MAX_DOCUMENT
part_document_short name net rs title is plain few =
    let head = opening_lines name (network_lines net) in
    let said = map record_text rs in
    let tail = said ++ codes "end" ∷ [] in
    let others = text_lines_are_short 1 net rs (omega arith) is plain in
    let lines : AllByRecursion IsShortLine (network_lines net) = prefix_of IsShortLine (network_lines net) tail others.1.1 in
    let many : length (network_lines net) ≡ length net.reactions = length-map net.reactions (λ (r : ℕ × ℕ). complex_text net r.0 ++ codes " -> " ++ complex_text net r.1) in
    let second : IsShortLine (network_line (length (network_lines net))) = subst (λ (k : ℕ). IsShortLine (network_line k)) (sym many) others.1.0 in
    let opened = ended_short head (title, (second, lines)) in
    let weighed = lines_weigh [] rs rs plain (same_for rs) in
    let some : length net.reactions ≤ MAX_REACTIONS = (let p = is.partial in p.reactions_limit) in
    let whole : length (part_document name net rs) ≡ length (ended head ++ ended tail) = ap length (document_ended name net rs ∙ ended_append head tail) in
    let last : length (ended tail) ≡ length (ended said ++ ended (codes "end" ∷ [])) = ap length (ended_append said (codes "end" ∷ [])) in
    let four : length (ended (codes "end" ∷ [])) ≡ 4 = refl in
    omega (arith, whole, length-append (ended head) (ended tail), last, length-append (ended said) (ended (codes "end" ∷ [])), four, opened, many, some, weighed, plain_weight rs plain, few)

-- what follows the opening, and what follows the part's lines
abbrev pub after_lines : {Read : Type 0} → Part Read → Net → ℕ × Read → Course (Net × Read)
after_lines p net after = part_ending p.words after.0 (net, after.1)

abbrev pub after_opening : {Read : Type 0} → Part Read → Net × ℕ → Course (Net × Read)
after_opening p opened = (let each = p.lines in each opened.0 opened.1) >>= after_lines p opened.0

at_end : {A : Type 0} (read : A) → IsEnded (ends >>= (λ x. Give read))
unfolding IsEnded
at_end read = inl tt

ending_ended : {A : Type 0} (words : List (List ℕ)) (n : ℕ) (read : A) → IsEnded (part_ending words n read)
ending_ended words n read = ended_then (asks_part words n (end_form ∷ [])) (λ last. ends >>= (λ x. Give read)) (λ last. at_end read)

course_ended : {Read : Type 0} (p : Part Read) → IsEnded (part_course p)
course_ended p = ended_then (part_opening p.name) (after_opening p) (λ opened. ended_then (let each = p.lines in each opened.0 opened.1) (after_lines p opened.0) (λ after. ending_ended p.words after.0 (opened.0, after.1)))

-- what is read to its end is the document of an answer
pub read_is_document : {Answer Read : Type 0} (p : Part Read) (m : Meant Answer Read) → IsAnswered p m → (bytes : List ℕ) (net : Net) (read : Read) → IsPartRead p bytes net read
    → (answer : Answer) × IsPartDocument p m net answer bytes × (read ≡ m.says answer)
read_is_document {Answer} {Read} p m h bytes net read (after, g) =
    let w = gives_what_is_written (part_course p) (beginning bytes) after (net, read) g in
    let a = written_cuts (part_opening p.name) (after_opening p) w.0 (net, read) w.1 in
    let b = written_cuts (let each = p.lines in each a.0.0 a.0.1) (after_lines p a.0.0) a.2 (net, read) a.5 in
    let o = opening_back p.name a.1 a.0 a.4 in
    let e = ending_back p.words b.0.0 (a.0.0, b.0.1) (net, read) b.2 b.5 in
    let same_net : a.0.0 ≡ net = ap (λ (q : Net × Read). q.0) e.1 in
    let same_read : b.0.1 ≡ read = ap (λ (q : Net × Read). q.1) e.1 in
    let is : IsNetworkOf o.0 net = subst (IsNetworkOf o.0) same_net o.2 in
    let found = (let back = h.back in back a.0.0 a.0.1 b.1 b.0 o.2.0 b.4) in
    let formed = subst (λ (n : Net). m.IsFormed n found.0) same_net found.1 in
    let plain = (let all = h.plain in all net found.0 is.0 formed) in
    let texts : b.1 ≡ map record_text (m.records found.0) = texts_are b.1 (m.records found.0) (plain_are_short (m.records found.0) plain) found.3 in
    let tail = b.1 ++ codes "end" ∷ [] in
    let all : w.0 ≡ opening_lines p.name o.0 ++ tail = a.3 ∙ ap₂ (λ (x y : List (List ℕ)). x ++ y) o.1 (b.3 ∙ ap (λ (t : List (List ℕ)). b.1 ++ t) e.0) in
    let short : AllByRecursion IsShortLine (opening_lines p.name o.0 ++ tail) = subst (AllByRecursion IsShortLine) all w.2 in
    let lines : AllByRecursion IsShortLine o.0 = prefix_of IsShortLine o.0 tail short.1.1 in
    let count : length o.0 ≡ length net.reactions = lines_are_reactions net o.0 is.0 is.1 (no_ends o.0 lines) in
    let none : after.left ≡ [] = is_none after.left (ended_leaves_none (part_course p) (beginning bytes) after (net, read) (course_ended p) g) in
    let text : bytes ≡ ended w.0 = w.3 ∙ ap (λ (t : List ℕ). ended w.0 ++ t) none ∙ append-nil (ended w.0) in
    let counts : 0 + length bytes ≡ after.before + length after.left = gives_counts (part_course p) (beginning bytes) after (net, read) g in
    let below : after.before < MAX_DOCUMENT = given_below (part_course p) (beginning bytes) after (net, read) g (omega arith) in
    let head = ended (part_title p.name ∷ network_line (length net.reactions) ∷ []) in
    let written : ended (opening_lines p.name o.0 ++ tail) ≡ part_document p.name net (m.records found.0) =
    ap (λ (k : ℕ). ended (part_title p.name ∷ network_line k ∷ (o.0 ++ tail))) count
    ∙ ended_append (part_title p.name ∷ network_line (length net.reactions) ∷ []) (o.0 ++ tail)
    ∙ ap (λ (t : List ℕ). head ++ t) (ended_append o.0 tail)
    ∙ ap₂ (λ (x y : List ℕ). head ++ (x ++ y)) (sym is.1) (ended_append b.1 (codes "end" ∷ []) ∙ ap (λ (t : List (List ℕ)). ended t ++ ended (codes "end" ∷ [])) texts)
    ∙ sym (append_assoc head (canonical net) (record_lines (m.records found.0) ++ ended (codes "end" ∷ [])))
    ∙ sym (append_assoc (head ++ canonical net) (record_lines (m.records found.0)) (ended (codes "end" ∷ []))) in (
      found.0,
      record {
        short = omega (arith, counts, below, ap length none);
        network = is.0;
        formed = formed;
        valid = subst (λ (n : Net). m.IsValid n found.0) same_net found.2;
        is = text ∙ ap ended all ∙ written;
      },
      sym same_read ∙ found.4,
    )

-- the document of an answer is read to its end
pub document_is_read : {Answer Read : Type 0} (p : Part Read) (m : Meant Answer Read) → IsAnswered p m → (bytes : List ℕ) (net : Net) (answer : Answer) → IsPartDocument p m net answer bytes → IsPartRead p bytes net (m.says answer)
document_is_read {Answer} {Read} p m h bytes net answer d =
    let rs = m.records answer in
    let n = 3 + length net.reactions in
    let plain = (let all = h.plain in all net answer d.network d.formed) in
    let own = (let on = h.on in on net n answer d.network d.formed d.valid) in
    let read : Net × Read = (net, m.says answer) in
    let rest : IsWrittenBy (after_opening p (net, n)) (map record_text rs ++ codes "end" ∷ []) read =
    written_then (let each = p.lines in each net n) (after_lines p net) (map record_text rs) (codes "end" ∷ []) (own.0, m.says answer) read (let g = h.goes_on in g net n) own.1 (ending_written p.words own.0 read h.end_known) in
    let all : IsWrittenBy (part_course p) (part_lines p.name net rs) read =
    written_then (part_opening p.name) (after_opening p) (opening_lines p.name (network_lines net)) (map record_text rs ++ codes "end" ∷ []) (net, n) read (opening_no_end p.name) (opening_written p.name net d.network) rest in
    let others = text_lines_are_short 1 net rs (omega arith) d.network plain in
    let whole : length net.reactions ≡ length (network_lines net) = sym (length-map net.reactions (λ (r : ℕ × ℕ). complex_text net r.0 ++ codes " -> " ++ complex_text net r.1)) in
    let short : AllByRecursion IsShortLine (part_lines p.name net rs) = (h.title, (subst (λ (k : ℕ). IsShortLine (network_line k)) whole others.1.0, others.1.1)) in
    let text : bytes ≡ ended (part_lines p.name net rs) = d.is ∙ document_ended p.name net rs in
    let few : 0 + length bytes < MAX_DOCUMENT = omega (arith, d.short) in
    written_is_given (part_course p) (part_lines p.name net rs) read all short (beginning bytes) text few

-- ---- the law of a part

pub documents_are_judged : {Answer Read : Type 0} (p : Part Read) (m : Meant Answer Read) → IsAnswered p m → IsSettled p.IsOwn (part_course p) → AreJudged p m
documents_are_judged p m h s = record {
  judged = λ bytes. elim (each_is_judged p.IsOwn (part_course p) s (beginning bytes) (omega arith)) [ inl g ↦ inl (let d = read_is_document p m h bytes g.0.0 g.0.1 (g.1, g.2) in (g.0.0, d.0, d.1)) | inr f ↦ inr f ];
  apart = λ bytes line code d f. (let g = document_is_read p m h bytes d.0 d.1 d.2 in gives_or_fails p.IsOwn (part_course p) s (beginning bytes) g.0 (d.0, m.says d.1) line code g.1 f);
  first = λ bytes line other code another f g. first_is_one p.IsOwn (part_course p) s (beginning bytes) line other code another f g;
  coded = λ bytes line code f. fails_with_a_code p.IsOwn (part_course p) s (beginning bytes) line code f;
  read = λ bytes net read r. read_is_document p m h bytes net read r;
  good = λ bytes net answer d. document_is_read p m h bytes net answer d;
}
