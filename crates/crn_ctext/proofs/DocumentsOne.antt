-- If two documents are equal, so are their networks, formed answers and shares, and they are of one version.
use Rattle.crn_ctext.proofs.Prelude.{◌≡◌, ◌+◌, ◌≤◌, ◌==◌, ◌++◌, ◌∙◌, ℕ, if◌then◌else◌, List, [], ◌∷◌, length, map, refl, sym, ap, ap₂, subst, inl, inr, arith, ℤ, pos, codes, decimal, slice_index, AllByRecursion, AllZip, bytes_eq, first_number, digits, append_cancel_left, length-map, append_cancel_right, decimal_injective, Net, IsNetwork, canonical, spells_its_network, spelling_unique, Spells, Record, record_text, word_of, title, network_line, ended, one_word, AreFormed, Share, FitsShare, IsNamed, cut_lists, written, table_records, document, document2, meaning, built, AreFormedOf, all_append}
use Rattle.std.specs.Prelude.{Bool, true, false}
use Rattle.crn_ctext.proofs.Texts.{text_is_one}
use Rattle.crn_ctext.proofs.Image.{AllShort}
use Rattle.crn_ctext.proofs.BlocksWritten.{all_of, parted, lists_back}
use Rattle.crn_ctext.proofs.DocumentsWritten.{network_lines, text_lines, text_of, text_ended, canonical_ended}
use Rattle.crn_ctext.proofs.Shared.{IsWrittenFor, shared_written}
use Rattle.crn_ctext.proofs.DocumentTexts.{parted_second, parted_cuts, parted_plain, written_plain, table_plain}
use Rattle.crn_ctext.proofs.SharesApart.{formed_kinds, written_is_one, parted_apart}
use Rattle.crn_ctext.proofs.FormWords.{words_yes}
use Rattle.crn_ctext.proofs.Sayings.{AreWords}
use Rattle.crn_ctext.proofs.NetworkLines.{ends_in, net_line}
use Rattle.crn_ctext.proofs.DocumentsRead.{no_ends}
use Rattle.crn_ctext.proofs.ShortAnswers.{AllPlain, plain_are_short, short_both}
use Rattle.crn_ctext.proofs.ShortLines.{text_lines_are_short}
use Rattle.crn_ctext.proofs.AnswersApart.{AllWorded, IsWorded, formed_are_worded, parted_worded, answers_apart, same_long, first_same}
use Rattle.crn_ctext.proofs.Written.{first_ended}
use Rattle.crn_ctext.proofs.DocumentsShort.{formed_plain}

-- ---- lines

-- a line without an end and what follows it
line_prefix : (l k : List ℕ) (x y : List ℕ) → ends_in l ≡ 0 → ends_in k ≡ 0 → l ++ 10 ∷ x ≡ k ++ 10 ∷ y → (l ≡ k) × (x ≡ y)
line_prefix [] [] x y p q e = (refl, cc)
line_prefix [] (b ∷ k) x y p q e = absurd (let same : 10 ≡ b = cc in let f : (if b == 10 then 1 else 0) + ends_in k ≡ 0 = q in let g : (if 10 == 10 then 1 else 0) + ends_in k ≡ 0 = subst (λ (c : ℕ). (if c == 10 then 1 else 0) + ends_in k ≡ 0) (sym same) f in omega (arith, g))
line_prefix (b ∷ l) [] x y p q e = absurd (let same : b ≡ 10 = cc in let f : (if b == 10 then 1 else 0) + ends_in l ≡ 0 = p in let g : (if 10 == 10 then 1 else 0) + ends_in l ≡ 0 = subst (λ (c : ℕ). (if c == 10 then 1 else 0) + ends_in l ≡ 0) same f in omega (arith, g))
line_prefix (b ∷ l) (c ∷ k) x y p q e =
    let first : b ≡ c = cc in
    let rest : l ++ 10 ∷ x ≡ k ++ 10 ∷ y = cc in
    let more = line_prefix l k x y (later b l p) (later c k q) rest in
    (ap₂ (λ (u : ℕ) (us : List ℕ). u ∷ us) first more.0, more.1)
  where
    later : (b : ℕ) (bs : List ℕ) → (if b == 10 then 1 else 0) + ends_in bs ≡ 0 → ends_in bs ≡ 0
    later b bs e = omega (arith, e)

none_ended : (l : List ℕ) (x : List ℕ) → [] ≡ l ++ 10 ∷ x → ⊥
none_ended [] x e = cc
none_ended (b ∷ l) x e = cc

pub ended_one : (ls ks : List (List ℕ)) → AllByRecursion (λ l. ends_in l ≡ 0) ls → AllByRecursion (λ l. ends_in l ≡ 0) ks → ended ls ≡ ended ks → ls ≡ ks
ended_one [] [] p q e = refl
ended_one [] (k ∷ ks) p q e = absurd (none_ended k (ended ks) (e ∙ first_ended k ks))
ended_one (l ∷ ls) [] p q e = absurd (none_ended l (ended ls) (sym e ∙ first_ended l ls))
ended_one (l ∷ ls) (k ∷ ks) p q e =
    let h = line_prefix l k (ended ls) (ended ks) p.0 q.0 (sym (first_ended l ls) ∙ e ∙ first_ended k ks) in
    ap₂ (λ (x : List ℕ) (xs : List (List ℕ)). x ∷ xs) h.0 (ended_one ls ks p.1 q.1 h.1)

-- ---- records

records_one : (rs ss : List Record) → AllWorded rs → AllWorded ss → AllShort rs → AllShort ss → map record_text rs ≡ map record_text ss → rs ≡ ss
records_one [] [] a b c d e = refl
records_one (r ∷ rs) (s ∷ ss) a b c d e =
    let first : record_text r ≡ record_text s = cc in
    let rest : map record_text rs ≡ map record_text ss = cc in
    ap₂ (λ (x : Record) (xs : List Record). x ∷ xs) (text_is_one r s a.0 b.0 c.0 d.0 first) (records_one rs ss a.1 b.1 c.1 d.1 rest)
records_one rs ss a b c d e = absurd cc

-- ---- documents

-- plain records with words, which their texts determine
abbrev Texts : List Record → Type 0
Texts rs = AllPlain rs × AllWorded rs

-- a text of a version is of one network and of one list of records
texts_one : (version : ℕ) (net other : Net) (records others : List Record) → version ≤ 2 → IsNetwork net → IsNetwork other → Texts records → Texts others → text_of version net records ≡ text_of version other others → (net ≡ other) × (records ≡ others)
texts_one version net other records others low n k p q e =
    let lines : text_lines version net records ≡ text_lines version other others = ended_one (text_lines version net records) (text_lines version other others) (no_ends (text_lines version net records) (text_lines_are_short version net records low n p.0)) (no_ends (text_lines version other others) (text_lines_are_short version other others low k q.0))
    (sym (text_ended version net records) ∙ e ∙ text_ended version other others) in
    let tail = first_same (title version) (title version) (network_line (length net.reactions) ∷ (network_lines net ++ (map record_text records ++ codes "end" ∷ []))) (network_line (length other.reactions) ∷ (network_lines other ++ (map record_text others ++ codes "end" ∷ []))) lines in
    let after = first_same (network_line (length net.reactions)) (network_line (length other.reactions)) (network_lines net ++ (map record_text records ++ codes "end" ∷ [])) (network_lines other ++ (map record_text others ++ codes "end" ∷ [])) tail.1 in
    let few = n.partial.reactions_limit in
    let fewer = k.partial.reactions_limit in
    let count : length net.reactions ≡ length other.reactions = decimal_injective (length net.reactions) (length other.reactions) (omega (arith, few)) (omega (arith, fewer)) (append_cancel_left (codes "network ") (decimal (length net.reactions)) (decimal (length other.reactions)) after.0) in
    let parts = same_long (network_lines net) (network_lines other) (map record_text records ++ codes "end" ∷ []) (map record_text others ++ codes "end" ∷ []) (length-map net.reactions (net_line net) ∙ count ∙ sym (length-map other.reactions (net_line other))) after.1 in
    let text : canonical net ≡ canonical other = canonical_ended net ∙ ap ended parts.0 ∙ sym (canonical_ended other) in
    let same : net ≡ other = spelling_unique (canonical other) net other (subst (λ (t : List ℕ). Spells t net) text (spells_its_network net n)) (spells_its_network other k) in
    let said : map record_text records ≡ map record_text others = append_cancel_right (map record_text records) (map record_text others) (codes "end" ∷ []) parts.1 in
    (same, records_one records others p.1 q.1 (plain_are_short records p.0) (plain_are_short others q.0) said)

pub document_one : (net other : Net) (answers others : List (List Record)) → IsNetwork net → IsNetwork other → AreFormedOf net answers → AreFormedOf other others → document net answers ≡ document other others → (net ≡ other) × (answers ≡ others)
document_one net other answers others n k f g e =
    let a : Texts (all_of answers) = (all_plain answers (formed_plain net answers n f), formed_are_worded meaning built (meaning.start net) answers f) in
    let b : Texts (all_of others) = (all_plain others (formed_plain other others k g), formed_are_worded meaning built (meaning.start other) others g) in
    let one = texts_one 1 net other (all_of answers) (all_of others) (omega arith) n k a b e in
    let known : AreFormed meaning built (meaning.start other) answers = subst (λ (t : Net). AreFormed meaning built (meaning.start t) answers) one.0 f in
    (one.0, answers_apart meaning built (meaning.start other) answers others known g one.1)
  where
    all_plain : (answers : List (List Record)) → AllByRecursion AllPlain answers → AllPlain (all_of answers)
    all_plain [] p = tt
    all_plain (rs ∷ more) p = short_both rs (all_of more) p.0 (all_plain more p.1)

-- ---- version 2

table_worded : (table : List (List ℤ)) → AllWorded (table_records table)
table_worded table = (words_yes (codes "vectors" ∷ []) refl, each table)
  where
    each : (us : List (List ℤ)) → AllWorded (map (one_word (codes "vector")) us)
    each [] = tt
    each (u ∷ us) = (words_yes (codes "vector" ∷ []) refl, each us)

-- what is written in the place of records with words has words
written_worded : (table : List (List ℤ)) (ws rs : List Record) → AllWorded rs → AllZip (IsWrittenFor table) ws rs → AllWorded ws
written_worded table [] [] p z = tt
written_worded table (w ∷ ws) (r ∷ rs) p z = (one z.0, written_worded table ws rs p.1 z.1)
  where
    name : (t : Bool) → AreWords ((if t then codes "refa" else codes "refb") ∷ [])
    name true = words_yes (codes "refa" ∷ []) refl
    name false = words_yes (codes "refb" ∷ []) refl

    one : IsWrittenFor table w r → AreWords w.words
    one (inl same) = subst (λ (x : Record). AreWords x.words) (sym same) p.0
    one (inr named) = subst (λ (x : Record). AreWords x.words) (sym named.3) (name (bytes_eq (word_of r) (codes "cuta")))
written_worded table ws rs p z = absurd z

-- the records of a document of version 2
second_records : List (List Record) → Share → List Record
second_records answers share = table_records share.table ++ written share.leaf (parted 2 built answers)

named_in_sections : (net : Net) (answers : List (List Record)) (share : Share) → AreFormedOf net answers → FitsShare answers share → AllZip (IsNamed share.table) share.leaf (cut_lists (parted 2 built answers))
named_in_sections net answers share f fits = subst (λ (us : List (List ℤ)). AllZip (IsNamed share.table) share.leaf us) (sym (parted_cuts 2 meaning built (meaning.start net) answers f)) fits.leaves

second_texts : (net : Net) (answers : List (List Record)) (share : Share) → IsNetwork net → AreFormedOf net answers → FitsShare answers share → Texts (second_records answers share)
unfolding second_records
second_texts net answers share n f fits =
    let rs = parted 2 built answers in
    let for = shared_written share.table share.leaf rs (named_in_sections net answers share f fits) in
    let ws = written share.leaf rs in
    let plain : AllPlain ws = written_plain share.table ws rs fits.most (parted_plain 2 built answers (formed_plain net answers n f)) for in
    let worded : AllWorded ws = written_worded share.table ws rs (parted_worded 2 meaning built (meaning.start net) answers f) for in
    (short_both (table_records share.table) ws (table_plain 2 share.table fits.most fits.lists) plain, all_append IsWorded (table_records share.table) ws (table_worded share.table) worded)

-- equal shared lists and what follows them
tables_one : (table other : List (List ℤ)) (ws vs : List Record) → table_records table ++ ws ≡ table_records other ++ vs → (table ≡ other) × (ws ≡ vs)
tables_one table other ws vs e =
    let head = first_same (one_word (codes "vectors") (pos (length table) ∷ [])) (one_word (codes "vectors") (pos (length other) ∷ [])) (map (one_word (codes "vector")) table ++ ws) (map (one_word (codes "vector")) other ++ vs) e in
    let long : length table ≡ length other = count (length table) (length other) head.0 in
    let parts = same_long (map (one_word (codes "vector")) table) (map (one_word (codes "vector")) other) ws vs (length-map table (one_word (codes "vector")) ∙ long ∙ sym (length-map other (one_word (codes "vector")))) head.1 in
    (sym (lists_back table) ∙ ap (λ (rs : List Record). map (λ (r : Record). r.numbers) rs) parts.0 ∙ lists_back other, parts.1)
  where
    count : (k j : ℕ) → one_word (codes "vectors") (pos k ∷ []) ≡ one_word (codes "vectors") (pos j ∷ []) → k ≡ j
    count k j e = ap (λ (r : Record). first_number r.numbers) e

second_text : (net : Net) (answers : List (List Record)) (share : Share) → document2 built net answers share ≡ text_of 2 net (second_records answers share)
unfolding second_records
second_text net answers share = ap (λ (rs : List Record). text_of 2 net (table_records share.table ++ written share.leaf rs)) (sym (parted_second built answers))

pub second_document_one : (net other : Net) (answers others : List (List Record)) (share another : Share) → IsNetwork net → IsNetwork other → AreFormedOf net answers → AreFormedOf other others → FitsShare answers share → FitsShare others another
    → document2 built net answers share ≡ document2 built other others another → (net ≡ other) × (answers ≡ others) × (share ≡ another)
unfolding second_records
second_document_one net other answers others share another n k f g fits gits e =
    let one = texts_one 2 net other (second_records answers share) (second_records others another) (omega arith) n k (second_texts net answers share n f fits) (second_texts other others another k g gits) (sym (second_text net answers share) ∙ e ∙ second_text other others another) in
    let tables = tables_one share.table another.table (written share.leaf (parted 2 built answers)) (written another.leaf (parted 2 built others)) one.1 in
    let named : AllZip (IsNamed another.table) share.leaf (cut_lists (parted 2 built answers)) = subst (λ (t : List (List ℤ)). AllZip (IsNamed t) share.leaf (cut_lists (parted 2 built answers))) tables.0 (named_in_sections net answers share f fits) in
    let known : AreFormed meaning built (meaning.start other) answers = subst (λ (t : Net). AreFormed meaning built (meaning.start t) answers) one.0 f in
    let back = written_is_one another.table share.leaf another.leaf (parted 2 built answers) (parted 2 built others) (formed_kinds 2 meaning built (meaning.start other) answers known) (formed_kinds 2 meaning built (meaning.start other) others g) named (named_in_sections other others another g gits) tables.1 in
    (one.0, parted_apart 2 meaning built (meaning.start other) answers others known g back.0, ap₂ (λ (t : List (List ℤ)) (l : List ℕ). record { table = t; leaf = l }) tables.0 back.1)

-- byte 17 of a document is the digit of its version
pub versions_apart : (net other : Net) (answers others : List (List Record)) (share : Share) → document net answers ≡ document2 built other others share → ⊥
unfolding digits
versions_apart net other answers others share e =
    let one : slice_index (document net answers) 16 ≡ 49 = refl in
    let two : slice_index (document2 built other others share) 16 ≡ 50 = refl in
    let h : 49 ≡ 50 = sym one ∙ ap (λ (t : List ℕ). slice_index t 16) e ∙ two in
    omega (arith, h)
