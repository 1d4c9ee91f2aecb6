-- The document of valid answers, written in one of the versions, is read by the course of documents to its end.
use Rattle.crn_ctext.proofs.Prelude.{◌≡◌, ◌+◌, ◌<◌, ◌≤◌, ◌++◌, ℕ, zero, suc, false, List, [], ◌∷◌, length, map, refl, sym, ap, subst, ◌∙◌, inl, inr, arith, append_assoc, ap₂, ℤ, codes, AllByRecursion, AllZip, flat_map, append-nil, length-map, IsIn, Net, IsNetwork, canonical, reaction_line, complex_text, Record, record_text, end_form, Question, Course, Give, ◌>>=◌, ◌>>◌, find, ends, Gives, IsWrittenBy, Meaning, AfterBlocks, asks, asks_blocks, asks_table, lists_of, asks_lines, title, network_line, ended, ReadOf, IsNetworkOf, course, one_word, opening, record_lines, IsShareable, AreValid, MAX_DOCUMENT, MAX_SHARED, Place, beginning, BadNetwork, map-append}
use Rattle.crn_ctext.proofs.Written.{IsShortLine, written_is_given}
use Rattle.crn_ctext.proofs.FormWords.{end_has}
use Rattle.crn_ctext.proofs.FormKinds.{end_kind, one_due}
use Rattle.crn_ctext.proofs.Image.{HasNoEnd, AllShort, written_then, record_is_written, give_no_end, no_end_then, asks_no_end}
use Rattle.crn_ctext.proofs.Shared.{IsVersion, IsTextFor}
use Rattle.crn_ctext.proofs.BlocksWritten.{all_of, parted, table_part, lists_back, table_no_end, second_written, blocks_are_written, blocks_no_end}
use Rattle.crn_ctext.proofs.BlocksRead.{last_lines}

-- ---- the lines of a network

-- the network's lines, without their ends
abbrev pub network_lines : Net → List (List ℕ)
network_lines net = map (λ r. complex_text net r.0 ++ codes " -> " ++ complex_text net r.1) net.reactions

-- all lines of a document of this version with these records
abbrev pub text_lines : ℕ → Net → List Record → List (List ℕ)
text_lines version net records = title version ∷ network_line (length net.reactions) ∷ (network_lines net ++ (map record_text records ++ codes "end" ∷ []))

pub taken_no_end : (n : ℕ) → HasNoEnd (asks_lines n)
unfolding HasNoEnd asks_lines
taken_no_end zero = tt
taken_no_end (suc n) = λ line. no_end_then (asks_lines n) (λ lines. Give (line ∷ lines)) (taken_no_end n) (λ lines. give_no_end (line ∷ lines))

pub lines_taken : (ls : List (List ℕ)) → IsWrittenBy (asks_lines (length ls)) ls ls
unfolding asks_lines IsWrittenBy
lines_taken [] = (refl, refl)
lines_taken (l ∷ ls) = subst (λ (ms : List (List ℕ)). IsWrittenBy (asks_lines (length ls) >>= (λ lines. Give (l ∷ lines))) ms (l ∷ ls)) (append-nil ls)
    (written_then (asks_lines (length ls)) (λ lines. Give (l ∷ lines)) ls [] ls (l ∷ ls) (taken_no_end (length ls)) (lines_taken ls) (refl, refl))

pub canonical_ended : (net : Net) → canonical net ≡ ended (network_lines net)
canonical_ended net = each net.reactions
  where
    one : (r : ℕ × ℕ) → reaction_line net r ≡ (complex_text net r.0 ++ codes " -> " ++ complex_text net r.1) ++ 10 ∷ []
    one r = refl

    each : (rs : List (ℕ × ℕ)) → flat_map (reaction_line net) rs ≡ ended (map (λ r. complex_text net r.0 ++ codes " -> " ++ complex_text net r.1) rs)
    each [] = refl
    each (r ∷ rs) = ap₂ (λ x y. x ++ y) (one r) (each rs)

-- ---- the shared lists

-- lists that a document of this version may share
pub record IsTable (version : ℕ) (table : List (List ℤ)) : Type 0 where
  pub version_is : IsVersion version table
  pub most : length table ≤ MAX_SHARED
  pub lists : AllByRecursion IsShareable table
  pub short : AllShort (table_part version table)

table_written : (version : ℕ) (table : List (List ℤ)) (n : ℕ) → IsTable version table → IsWrittenBy (asks_table version n) (map record_text (table_part version table)) (table_part version table)
unfolding IsWrittenBy
table_written version table n t = elim t.version_is [
  | inl one ↦ subst (λ (v : ℕ). IsWrittenBy (asks_table v n) (map record_text (table_part v table)) (table_part v table)) (sym one.0) (none n)
  | inr two ↦ subst (λ (v : ℕ). IsWrittenBy (asks_table v n) (map record_text (table_part v table)) (table_part v table)) (sym two) (second_written table n t.lists t.most (subst (λ (v : ℕ). AllShort (table_part v table)) two t.short))
]
  where
    none : (n : ℕ) → IsWrittenBy (asks_table 1 n) [] []
    none n = (refl, refl)

pub table_lists : (version : ℕ) (table : List (List ℤ)) → IsVersion version table → lists_of (table_part version table) ≡ table
table_lists version table (inl one) = ap (λ (v : ℕ). lists_of (table_part v table)) one.0 ∙ sym one.1
table_lists version table (inr two) = ap (λ (v : ℕ). lists_of (table_part v table)) two ∙ lists_back table

-- ---- the document

end_record : Record
end_record = one_word (codes "end") []

last_written : {Known : Type 0} (version : ℕ) (table : List (List ℤ)) (net : Net) (after : AfterBlocks Known) → IsVersion version table → IsWrittenBy (last_lines version net after) (codes "end" ∷ []) (record { net = net; blocks = after.blocks })
unfolding last_lines end_record IsWrittenBy
last_written version table net after v = written_then (asks version after.line after.by_tree (end_form ∷ [])) (λ last. ends >> Give (record { net = net; blocks = after.blocks })) (record_text end_record ∷ []) [] end_record (record { net = net; blocks = after.blocks })
    (asks_no_end version after.line after.by_tree (end_form ∷ []))
    (record_is_written version after.line after.by_tree (end_form ∷ []) end_form end_record (inl refl) (one_due version table after.by_tree (end_form ∷ []) end_form v end_has end_kind (inl refl)) (refl, refl) tt) (refl, (refl, refl))

pub document_is_written : {Known : Type 0} (version : ℕ) (table : List (List ℤ)) (m : Meaning Known) (versions : List ℕ) (built : List Question) (net : Net) (answers : List (List Record)) (ls : List (List ℕ)) → IsIn version versions → IsTable version table
    → IsNetwork net → AreValid m built (m.start net) answers → AllZip (IsTextFor table) ls (parted version built answers)
    → (read : ReadOf) × IsWrittenBy (course m versions built) (title version ∷ network_line (length net.reactions) ∷ (network_lines net ++ (map record_text (table_part version table) ++ (ls ++ codes "end" ∷ [])))) read
unfolding IsWrittenBy last_lines
document_is_written {Known} version table m versions built net answers ls i t n v s = (read, (version, (i, refl), (count, (some, (let p = n.partial in p.reactions_limit), refl), network)))
  where
    count : ℕ
    count = length net.reactions

    some : 1 ≤ count
    some = n.some

    of : IsVersion version table
    of = t.version_is

    records : List Record
    records = table_part version table

    start : AfterBlocks Known
    start = record { known = m.start net; by_tree = false; line = 3 + count + length records; blocks = [] }

    blocks : (end : AfterBlocks Known) × IsWrittenBy (asks_blocks m version table built start) ls end
    blocks = let w = blocks_are_written version table m built start ls answers of v s in (w.0, w.1)

    read : ReadOf
    read = record { net = net; blocks = blocks.0.blocks }

    after_table : List Record → Course ReadOf
    after_table rs = asks_blocks m version (lists_of rs) built (record { known = m.start net; by_tree = false; line = 3 + count + length rs; blocks = [] }) >>= (λ after. last_lines version net after)

    after_lines : List (List ℕ) → Course ReadOf
    after_lines lines = find (2 + count) BadNetwork Net (IsNetworkOf lines) >>= (λ net. asks_table version (3 + count) >>= (λ table. asks_blocks m version (lists_of table) built (record { known = m.start net; by_tree = false; line = 3 + count + length table; blocks = [] }) >>= (λ after. last_lines version net after)))

    rest : IsWrittenBy (after_table records) (ls ++ codes "end" ∷ []) read
    rest = written_then (asks_blocks m version (lists_of records) built start) (λ after. last_lines version net after) ls (codes "end" ∷ []) blocks.0 read (blocks_no_end version (lists_of records) m built start)
        (subst (λ (u : List (List ℤ)). IsWrittenBy (asks_blocks m version u built start) ls blocks.0) (sym (table_lists version table of)) blocks.1) (last_written version table net blocks.0 of)

    after_network : IsWrittenBy (asks_table version (3 + count) >>= (λ rs. after_table rs)) (map record_text records ++ (ls ++ codes "end" ∷ [])) read
    after_network = written_then (asks_table version (3 + count)) (λ rs. after_table rs) (map record_text records) (ls ++ codes "end" ∷ []) records read (table_no_end version (3 + count)) (table_written version table (3 + count) t) rest

    whole : length (network_lines net) ≡ count
    whole = length-map net.reactions (λ (r : ℕ × ℕ). complex_text net r.0 ++ codes " -> " ++ complex_text net r.1)

    network : IsWrittenBy (asks_lines count >>= after_lines) (network_lines net ++ (map record_text records ++ (ls ++ codes "end" ∷ []))) read
    network = written_then (asks_lines count) after_lines (network_lines net) (map record_text records ++ (ls ++ codes "end" ∷ [])) (network_lines net) read (taken_no_end count)
        (subst (λ (k : ℕ). IsWrittenBy (asks_lines k) (network_lines net) (network_lines net)) whole (lines_taken (network_lines net))) (net, (n, canonical_ended net), after_network)

-- ---- the text

pub ended_append : (xs ys : List (List ℕ)) → ended (xs ++ ys) ≡ ended xs ++ ended ys
ended_append [] ys = refl
ended_append (x ∷ xs) ys = ap (λ t. (x ++ 10 ∷ []) ++ t) (ended_append xs ys) ∙ sym (append_assoc (x ++ 10 ∷ []) (ended xs) (ended ys))

-- a document of this version with these records
abbrev pub text_of : ℕ → Net → List Record → List ℕ
text_of version net records = opening version net ++ record_lines records ++ ended (codes "end" ∷ [])

-- these lines are the document
pub text_ended : (version : ℕ) (net : Net) (records : List Record) → text_of version net records ≡ ended (text_lines version net records)
text_ended version net records =
    ap (λ t. ((head ++ t) ++ said) ++ last) (canonical_ended net)
    ∙ append_assoc (head ++ ended (network_lines net)) said last ∙ append_assoc head (ended (network_lines net)) (said ++ last)
    ∙ ap (λ t. head ++ (ended (network_lines net) ++ t)) (sym (ended_append (map record_text records) (codes "end" ∷ [])))
    ∙ ap (λ t. head ++ t) (sym (ended_append (network_lines net) (map record_text records ++ codes "end" ∷ [])))
    ∙ sym (ended_append (title version ∷ network_line (length net.reactions) ∷ []) (network_lines net ++ (map record_text records ++ codes "end" ∷ [])))
  where
    head : List ℕ
    head = ended (title version ∷ network_line (length net.reactions) ∷ [])

    said : List ℕ
    said = ended (map record_text records)

    last : List ℕ
    last = ended (codes "end" ∷ [])

from_zero : (k : ℕ) → k < MAX_DOCUMENT → 0 + k < MAX_DOCUMENT
from_zero k lt = omega (arith, lt)

-- a document of valid answers is read to its end, if its lines are short and it is shorter than the bound
pub document_is_read : {Known : Type 0} (version : ℕ) (table : List (List ℤ)) (m : Meaning Known) (versions : List ℕ) (built : List Question) (net : Net) (answers : List (List Record)) (ws : List Record) → IsIn version versions → IsTable version table
    → IsNetwork net → AreValid m built (m.start net) answers → AllZip (IsTextFor table) (map record_text ws) (parted version built answers)
    → AllByRecursion IsShortLine (text_lines version net (table_part version table ++ ws)) → length (text_of version net (table_part version table ++ ws)) < MAX_DOCUMENT
    → (read : ReadOf) × (after : Place) × Gives (course m versions built) (beginning (text_of version net (table_part version table ++ ws))) read after
document_is_read {Known} version table m versions built net answers ws i t n v s lines short =
    let w = document_is_written version table m versions built net answers (map record_text ws) i t n v s in
    let all = table_part version table ++ ws in
    let same : text_lines version net all ≡ title version ∷ network_line (length net.reactions) ∷ (network_lines net ++ (map record_text (table_part version table) ++ (map record_text ws ++ codes "end" ∷ []))) =
    ap (λ (t : List (List ℕ)). title version ∷ network_line (length net.reactions) ∷ (network_lines net ++ (t ++ codes "end" ∷ []))) (map-append record_text (table_part version table) ws)
    ∙ ap (λ (t : List (List ℕ)). title version ∷ network_line (length net.reactions) ∷ (network_lines net ++ t)) (append_assoc (map record_text (table_part version table)) (map record_text ws) (codes "end" ∷ [])) in
    let written : IsWrittenBy (course m versions built) (text_lines version net all) w.0 = subst (λ (ls : List (List ℕ)). IsWrittenBy (course m versions built) ls w.0) (sym same) w.1 in
    let g = written_is_given (course m versions built) (text_lines version net all) w.0 written lines (beginning (text_of version net all)) (text_ended version net all) (from_zero (length (text_of version net all)) short) in
    (w.0, g.0, g.1)
