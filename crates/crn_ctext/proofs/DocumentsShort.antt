-- Documents of formed answers to the built questions have few lines, and so they are shorter than the bound.
use Rattle.crn_ctext.proofs.Prelude.{◌≡◌, ◌+◌, ◌-◌, ◌*◌, ◌<◌, ◌≤◌, ◌==◌, ◌++◌, ◌∙◌, ℕ, suc, Bool, true, false, if◌then◌else◌, List, [], ◌∷◌, length, map, refl, sym, ap, subst, inl, inr, arith, ℤ, codes, AllByRecursion, AllZip, length-append, length-map, map-append, Net, IsNetwork, MAX_BUDGET, MAX_DOCUMENT, Question, Q1, Q13, Q14, Q15, built, Record, record_text, rows, opens, sections, below, ended, title, network_line, section, written, table_records, Share, FitsShare, one_word, IsNamed, document, document2, Parts, IsFormed, AreFormed, Known, shapes_of, meaning, AreFormedOf}
use Rattle.crn_ctext.proofs.Written.{IsShortLine, first_ended}
use Rattle.crn_ctext.proofs.AnswersApart.{zip_long}
use Rattle.crn_ctext.proofs.Shared.{IsWrittenFor, shared_written}
use Rattle.crn_ctext.proofs.BlocksWritten.{all_of, parted}
use Rattle.crn_ctext.proofs.DocumentsWritten.{network_lines, text_lines, text_of, text_ended, ended_append}
use Rattle.crn_ctext.proofs.NetworkLines.{net_line}
use Rattle.crn_ctext.proofs.DocumentTexts.{parted_first, parted_second, parted_cuts, parted_plain, written_plain, table_plain}
use Rattle.crn_ctext.proofs.ShortAnswers.{AllPlain, IsShortFor, AreNodes, tree_width, parts_short, formed_are_plain, short_both}
use Rattle.crn_ctext.proofs.ShortLines.{record_line_length, text_lines_are_short}
use Rattle.crn_ctext.proofs.MeaningShort.{IsSmall, IsFew, most, networks_are_small, meaning_short, built_few}

-- ---- lines

-- short lines have no more than so many bytes
pub ended_short : (ls : List (List ℕ)) → AllByRecursion IsShortLine ls → length (ended ls) ≤ 16385 * length ls
ended_short [] s = omega arith
ended_short (l ∷ ls) s =
    let more = ended_short ls s.1 in
    let size : length (ended (l ∷ ls)) ≡ length l + length (10 ∷ ended ls) = ap length (first_ended l ls) ∙ length-append l (10 ∷ ended ls) in
    omega (arith, more, size, s.0.1)

-- the most bytes of the lines of these records: a shared list's number may come in the place of a cut's numbers
abbrev pub weight : List Record → ℕ
weight [] = 0
weight (r ∷ rs) = 88 + 24 * length r.numbers + weight rs

weight_append : (xs ys : List Record) → weight (xs ++ ys) ≡ weight xs + weight ys
weight_append [] ys = omega arith
weight_append (x ∷ xs) ys = omega (arith, weight_append xs ys)

-- plain records have no more than 400 numbers each
pub plain_weight : (rs : List Record) → AllPlain rs → weight rs ≤ 9688 * length rs
plain_weight [] p = omega arith
plain_weight (r ∷ rs) p = let few = p.0.few in omega (arith, few, plain_weight rs p.1)

-- what is written in the place of a record has no more than one number more
numbers_for : (table : List (List ℤ)) (w r : Record) → IsWrittenFor table w r → length w.numbers ≤ 1 + length r.numbers
numbers_for table w r (inl e) = let same : length w.numbers ≡ length r.numbers = ap (λ (x : Record). length x.numbers) e in omega (arith, same)
numbers_for table w r (inr h) = let one : length w.numbers ≡ 1 = ap (λ (x : Record). length x.numbers) h.3 in omega (arith, one)

-- the lines of plain records
pub lines_weigh : (table : List (List ℤ)) (ws rs : List Record) → AllPlain ws → AllZip (IsWrittenFor table) ws rs → length (ended (map record_text ws)) ≤ weight rs
lines_weigh table [] [] p z = omega arith
lines_weigh table (w ∷ ws) (r ∷ rs) p z =
    let more = lines_weigh table ws rs p.1 z.1 in
    let size : length (ended (map record_text (w ∷ ws))) ≡ length (record_text w) + length (10 ∷ ended (map record_text ws)) = ap length (first_ended (record_text w) (map record_text ws)) ∙ length-append (record_text w) (10 ∷ ended (map record_text ws)) in
    omega (arith, more, size, record_line_length w p.0, numbers_for table w r z.0)
lines_weigh table ws rs p z = absurd z

pub same_for : (rs : List Record) → AllZip (IsWrittenFor []) rs rs
same_for [] = tt
same_for (r ∷ rs) = (inl refl, same_for rs)

-- a text is shorter than the bound, if the lines of its records are
few_lines : (version : ℕ) (net : Net) (records : List Record) → IsNetwork net → AllByRecursion IsShortLine (text_lines version net records) → length (ended (map record_text records)) ≤ 4200000000 → length (text_of version net records) < MAX_DOCUMENT
few_lines version net records n s few =
    let h = n.partial in
    let limit = h.reactions_limit in
    let size : length (text_of version net records) ≡ length (ended (text_lines version net records)) = ap length (text_ended version net records) in
    let first = title version ∷ network_line (length net.reactions) ∷ network_lines net in
    let said = map record_text records in
    let parts : length (ended (text_lines version net records)) ≡ length (ended first) + length (ended (said ++ codes "end" ∷ [])) = ap length (ended_append first (said ++ codes "end" ∷ [])) ∙ length-append (ended first) (ended (said ++ codes "end" ∷ [])) in
    let tail : length (ended (said ++ codes "end" ∷ [])) ≡ length (ended said) + length (ended (codes "end" ∷ [])) = ap length (ended_append said (codes "end" ∷ [])) ∙ length-append (ended said) (ended (codes "end" ∷ [])) in
    let last : length (ended (codes "end" ∷ [])) ≡ 4 = refl in
    let opening = ended_short first (prefix_short first (said ++ codes "end" ∷ []) s) in
    let whole : length (network_lines net) ≡ length net.reactions = length-map net.reactions (net_line net) in
    omega (arith, limit, size, parts, tail, last, opening, whole, few)
  where
    prefix_short : (xs ys : List (List ℕ)) → AllByRecursion IsShortLine (xs ++ ys) → AllByRecursion IsShortLine xs
    prefix_short [] ys a = tt
    prefix_short (x ∷ xs) ys a = (a.0, prefix_short xs ys a.1)

-- ---- records

-- a question opens no more than one section, whose line has no numbers
section_light : (version : ℕ) (q : Question) → weight (map section (sections version q)) ≤ 88
section_light version q = by (version == 2)
  where
    opened : (q : Question) → weight (map section (opens q)) ≤ 88
    opened Q1 = omega arith
    opened q = omega arith

    by : (t : Bool) → weight (map section (if t then opens q else [])) ≤ 88
    by true = opened q
    by false = omega arith

-- the most nodes of the trees of an answer to the question
abbrev pub node_limit : Question → ℕ
node_limit Q13 = 2 * MAX_BUDGET
node_limit Q14 = MAX_BUDGET
node_limit Q15 = MAX_BUDGET
node_limit q = 0

-- the records are those of formed answers to these questions, whose trees have no more nodes than a budget
unfoldable pub AreFewNodes : List Question → Known → List (List Record) → Type 0
AreFewNodes [] known answers = answers ≡ []
AreFewNodes (q ∷ qs) known [] = ⊥
AreFewNodes (q ∷ qs) known (rs ∷ more) = (p : Parts rs) × IsFormed meaning q known rs p × (length p.nodes ≤ node_limit q) × AreFewNodes qs (meaning.learn q known p.head p.rows) more

pub few_are_formed : (qs : List Question) (known : Known) (answers : List (List Record)) → AreFewNodes qs known answers → AreFormed meaning qs known answers
unfolding AreFewNodes AreFormed
few_are_formed [] known answers f = f
few_are_formed (q ∷ qs) known [] f = f
few_are_formed (q ∷ qs) known (rs ∷ more) f = (f.0, f.1, few_are_formed qs (meaning.learn q known f.0.head f.0.rows) more f.3)

-- ---- blocks

-- the nodes of trees whose cuts have no more numbers than this
nodes_weight : (n : ℕ) (rs : List Record) → AreNodes n rs → weight rs ≤ (88 + 24 * n) * length rs
nodes_weight n [] p = omega arith
nodes_weight n (r ∷ rs) p = omega (arith, p.0.1, nodes_weight n rs p.1)

-- the most bytes of the nodes of an answer to the question
abbrev node_weight : Question → ℕ
node_weight q = (88 + 24 * tree_width q) * node_limit q

few_nodes : (q : Question) (bytes count : ℕ) → bytes ≤ (88 + 24 * tree_width q) * count → count ≤ node_limit q → bytes ≤ node_weight q
few_nodes Q13 bytes count a b = omega (arith, a, b)
few_nodes q bytes count a b = omega (arith, a, b)

block_light : (q : Question) (known : Known) (rs : List Record) (p : Parts rs) → IsSmall known → IsFew q → IsShortFor meaning IsSmall q → IsFormed meaning q known rs p → length p.nodes ≤ node_limit q → weight rs ≤ 9688 * suc (most q) + node_weight q
block_light q known rs p small few short f nodes =
    let long : length (below q (shapes_of known) p.head) ≡ length p.rows = sym (zip_long (below q (shapes_of known) p.head) p.rows f.rows) in
    let size : weight rs ≡ weight ((p.head ∷ p.rows) ++ p.nodes) = ap weight p.all in
    let parts = parts_short meaning IsSmall q known rs p short small f in
    let prefix = plain_weight (p.head ∷ p.rows) parts.0 in
    let back = few_nodes q (weight p.nodes) (length p.nodes) (nodes_weight (tree_width q) p.nodes parts.1) nodes in
    omega (arith, size, weight_append (p.head ∷ p.rows) p.nodes, prefix, back, long, few known p.head small f.head)

-- the most bytes of the blocks of these questions, each with the line of its section
abbrev most_of : List Question → ℕ
most_of [] = 0
most_of (q ∷ qs) = 9688 * suc (most q) + node_weight q + 88 + most_of qs

-- each block has no more than its bound
parted_light : (version : ℕ) (qs : List Question) (known : Known) (answers : List (List Record)) → IsSmall known → AllByRecursion IsFew qs → AllByRecursion (IsShortFor meaning IsSmall) qs → AreFewNodes qs known answers → weight (parted version qs answers) ≤ most_of qs
unfolding AreFewNodes
parted_light version [] known answers small few shorts f = omega arith
parted_light version (q ∷ qs) known [] small few shorts f = absurd f
parted_light version (q ∷ qs) known (rs ∷ more) small few shorts f =
    let learns = shorts.0.learn in
    let g = f.1 in
    let later = parted_light version qs (meaning.learn q known f.0.head f.0.rows) more (learns known f.0.head f.0.rows small g.head g.rows) few.1 shorts.1 f.3 in
    omega (arith, later, section_light version q, block_light q known rs f.0 small few.0 shorts.0 g f.2, weight_append (map section (sections version q)) (rs ++ parted version qs more), weight_append rs (parted version qs more))

-- the records of formed answers with few nodes have few bytes
all_light : (version : ℕ) (net : Net) (answers : List (List Record)) → IsNetwork net → AreFewNodes built (meaning.start net) answers → weight (parted version built answers) ≤ 3000000000
all_light version net answers n f =
    let light : weight (parted version built answers) ≤ most_of built = parted_light version built (meaning.start net) answers (networks_are_small net n) built_few meaning_short f in
    omega (arith, light)

-- ---- documents

-- the records of formed answers are plain
pub formed_plain : (net : Net) (answers : List (List Record)) → IsNetwork net → AreFormedOf net answers → AllByRecursion AllPlain answers
formed_plain net answers n f = formed_are_plain meaning IsSmall built (meaning.start net) answers meaning_short (networks_are_small net n) f

-- a document of formed answers with few nodes is shorter than the bound
pub first_few : (net : Net) (answers : List (List Record)) → IsNetwork net → AreFewNodes built (meaning.start net) answers → length (document net answers) < MAX_DOCUMENT
first_few net answers n few =
    let f = few_are_formed built (meaning.start net) answers few in
    let same = parted_first meaning built (meaning.start net) answers f in
    let plains = formed_plain net answers n f in
    let plain : AllPlain (all_of answers) = subst AllPlain same (parted_plain 1 built answers plains) in
    let light = all_light 1 net answers n few in
    few_lines 1 net (all_of answers) n (text_lines_are_short 1 net (all_of answers) (omega arith) n plain) (omega (arith, light, ap weight same, lines_weigh [] (all_of answers) (all_of answers) plain (same_for (all_of answers))))

pub second_few : (net : Net) (answers : List (List Record)) (share : Share) → IsNetwork net → AreFewNodes built (meaning.start net) answers → FitsShare answers share → length (document2 built net answers share) < MAX_DOCUMENT
second_few net answers share n few fits =
    let f = few_are_formed built (meaning.start net) answers few in
    let rs = parted 2 built answers in
    let ws = written share.leaf rs in
    let named = subst (λ (us : List (List ℤ)). AllZip (IsNamed share.table) share.leaf us) (sym (parted_cuts 2 meaning built (meaning.start net) answers f)) fits.leaves in
    let for = shared_written share.table share.leaf rs named in
    let plains = formed_plain net answers n f in
    let plain : AllPlain ws = written_plain share.table ws rs fits.most (parted_plain 2 built answers plains) for in
    let ts = table_records share.table in
    let ts_plain : AllPlain ts = table_plain 2 share.table fits.most fits.lists in
    let all = ts ++ ws in
    let all_plain : AllPlain all = short_both ts ws ts_plain plain in
    let lines = text_lines_are_short 2 net all (omega arith) n all_plain in
    let light = all_light 2 net answers n few in
    let table : length ts ≡ suc (length share.table) = ap suc (length-map share.table (one_word (codes "vector"))) in
    let most = fits.most in
    let size : length (ended (map record_text all)) ≡ length (ended (map record_text ts)) + length (ended (map record_text ws))
    = ap (λ (ls : List (List ℕ)). length (ended ls)) (map-append record_text ts ws) ∙ ap length (ended_append (map record_text ts) (map record_text ws)) ∙ length-append (ended (map record_text ts)) (ended (map record_text ws)) in
    let first = lines_weigh [] ts ts ts_plain (same_for ts) in
    let second = lines_weigh share.table ws rs plain for in
    let short : length (text_of 2 net all) < MAX_DOCUMENT = few_lines 2 net all n lines (omega (arith, light, most, table, size, first, second, plain_weight ts ts_plain)) in
    subst (λ (xs : List Record). length (text_of 2 net (table_records share.table ++ written share.leaf xs)) < MAX_DOCUMENT) (parted_second built answers) short
