-- The answers to the questions that are built, as documents write them.
use Rattle.crn_ctext.proofs.Prelude.{◌↔◌, ap₂, subst, cond, ◌≤◌, if◌then◌else◌, ◌≡◌, ℕ, zero, suc, ◌+◌, Bool, true, false, List, [], ◌∷◌, ◌++◌, length, map, take, refl, sym, ap, ◌∙◌, append_assoc, arith, AllByRecursion, AllZip, flat_map, int_eq, pointwise, firsts, MAX_SHARED, MAX_NUMBERS, Shared, HasAt, FitsAnswers, cuts_of, cuts_in, all_cuts, number_in, share_of_cuts, share_of, as_share, Plan, Both, Three, Net, IsNetwork, all_append, cut_shares_fit, IsTreeless, treeless, built, IsFormedOf, IsFormedAnswer, HeadKind, trees, numbered, number, Earlier, Question, Q1, Q2, Q3, Q4, Q5, Q6, Q7, Q8, Q9, Q10, Q11, Q12, Q13, Q14, Q15, on, pair_places, Verdict, Unknown, Proof, Answer, Record, IsNarrow, Shapes, opens, records, all_records, head_of, verdict_records, later_records, side_records, records_below, proof_records, proof_nodes, nodes, Share, FitsShare, is_cut_leaf, cut_lists, document, document2, opening, record_lines, table_records, written, in_sections, section, Known, pairs_of, shapes_of, sizes_of, verdict_of, meaning, HoldsNoSides, records_of, question_at, shapes_with, blocks, strong_pairs, pairs_in, tight}
use Rattle.std.proofs.Common.{filter, ℤ, codes}
use Rattle.crn_cert.specs.Shares.{IsShareable}
use Rattle.crn_cert.specs.Formed.{AreFormed}
use Rattle.crn_cert.specs.declared.answer.Gap.TheVariants.{Rests}
use Rattle.crn_cert.specs.declared.answer.Verdict.TheVariants.{Strong}
use Rattle.crn_cert.specs.Ranges as ranges
use Rattle.crn_ctext.specs.Documents as documents
use Rattle.crn_ctext.proofs.TablesLinked.{concordant_tree, strongly_tree}
use Rattle.crn_ctext.proofs.SignalLinked.{signal_trees}
use Rattle.crn_ctext.proofs.CutLists.{one_tree_cuts, signal_cuts}
use Rattle.crn_cert.specs.declared.answer.Proof.TheVariants as proof
use Rattle.crn_ctext.proofs.KnownBefore.{IsStrong, formed_right, strong_stays, strong_tight, pairs_stay}
use Rattle.crn_ctext.proofs.AnswersLinked.{linkage_next, strong_next, known_after}
use Rattle.crn_ctext.proofs.WrittenLines.{lines_append}
use Rattle.crn_ctext.proofs.WrittenLeaves.{IsPlain, written_none}
use Rattle.crn_ctext.proofs.WrittenBlocks.{prefix_plain}
use Rattle.crn_ctext.proofs.DocumentTexts.{cuts_append}

-- without sides the records of a proof are the same, whatever the pairs
same_rows : (s other : Shapes) (p : Proof) → HoldsNoSides p → proof_records s p ≡ proof_records other p
same_rows s other (proof.Sides rows) h = absurd h
same_rows s other p h = refl

-- so they are with the same pairs
rows_by_pairs : (s other : Shapes) (p : Proof) → s.pair_reactions ≡ other.pair_reactions → proof_records s p ≡ proof_records other p
rows_by_pairs s other (proof.Sides rows) e = ap (λ (pairs : List ℕ). side_records pairs rows) e
rows_by_pairs s other p e = refl

same_records : (q : Question) (s other : Shapes) (a : Answer) → proof_records s a.proof ≡ proof_records other a.proof → records q s a ≡ records q other a
same_records q s other a e = ap (λ (rs : List Record). head_of q a.verdict ∷ (verdict_records a.verdict ++ rs ++ later_records a.verdict) ++ proof_nodes a.proof) e

-- ---- formed answers to questions but question 11 have no sides

sees_none : (net : Net) (earlier : Earlier) (q : Question) (v : Verdict) (p : Proof) → (q ≡ Q11 → ⊥) → IsFormedOf net earlier q v p → HoldsNoSides p
sees_none net earlier Q11 v p other f = absurd (other refl)
sees_none net earlier q (Unknown (Rests question)) (proof.Sides rows) other f = absurd (let s = f.1.1 in cc)
sees_none net earlier q v (proof.Sides rows) other f = absurd (let s = f.1.1 in cc)
sees_none net earlier q v p other f = tt

pub sees_first : (net : Net) (earlier : Earlier) (v : Verdict) (p : Proof) → IsFormedOf net earlier Q1 v p → HoldsNoSides p
sees_first net earlier v p f = sees_none net earlier Q1 v p (λ e. cc) f

pub sees_second : (net : Net) (earlier : Earlier) (v : Verdict) (p : Proof) → IsFormedOf net earlier Q2 v p → HoldsNoSides p
sees_second net earlier v p f = sees_none net earlier Q2 v p (λ e. cc) f

pub sees_rank : (net : Net) (earlier : Earlier) (v : Verdict) (p : Proof) → IsFormedOf net earlier Q5 v p → HoldsNoSides p
sees_rank net earlier v p f = sees_none net earlier Q5 v p (λ e. cc) f

-- the records of an answer without sides are the same, whatever the pairs
pub alone_records : (q : Question) (s other : Shapes) (a : Answer) → HoldsNoSides a.proof → records q s a ≡ records q other a
alone_records q s other a h = same_records q s other a (same_rows s other a.proof h)

-- so are their lines, without numbers of leaves
pub alone_lines : (q : Question) (n : ℕ) (shapes : Shapes) (a : Answer) → HoldsNoSides a.proof → number q ≡ n → record_lines (records q shapes a) ≡ record_lines (written [] (records (question_at n) (shapes_with []) a))
alone_lines q n shapes a h e =
    let same : q ≡ question_at n = sym (numbered q) ∙ ap question_at e in
    ap (λ (rs : List Record). record_lines rs)
    (alone_records q shapes (shapes_with []) a h ∙ ap (λ (p : Question). records p (shapes_with []) a) same ∙ sym (written_none (records (question_at n) (shapes_with []) a)))

-- a formed answer to the question has no trees
abbrev pub IsShortQuestion : Question → Type 0
IsShortQuestion q = (net : Net) (earlier : Earlier) (v : Verdict) (p : Proof) → IsFormedOf net earlier q v p → IsTreeless p

-- the same of each question but those on signals and on concordance, whose answers may have trees
abbrev pub ShortFor : Question → Type 0
ShortFor Q13 = Unit {0}
ShortFor Q14 = Unit {0}
ShortFor Q15 = Unit {0}
ShortFor q = IsShortQuestion q

-- the cuts of a formed answer to the question may be shared
record IsPlainFor (q : Question) : Type 0 where
  cuts : (net : Net) (earlier : Earlier) (v : Verdict) (p : Proof) → IsNetwork net → IsFormedOf net earlier q v p → AllByRecursion (IsShareable MAX_NUMBERS) (cuts_in p)

-- a proof without trees has no cuts
no_cuts : (p : Proof) → IsTreeless p → cuts_in p ≡ []
no_cuts (proof.One tree) h = absurd h
no_cuts (proof.Two tree second) h = absurd h
no_cuts p h = refl

short_plain : (q : Question) → IsShortQuestion q → IsPlainFor q
short_plain q s = record {
  cuts = λ net earlier v p n h. subst (AllByRecursion (IsShareable MAX_NUMBERS)) (sym (no_cuts p (s net earlier v p h))) tt;
}

signal_plain : IsPlainFor Q13
signal_plain = record {
  cuts = λ net earlier v p n h. signal_cuts net earlier p n (signal_trees net earlier v p h);
}

concordant_plain : IsPlainFor Q14
concordant_plain = record {
  cuts = λ net earlier v p n h. one_tree_cuts net p n (concordant_tree net earlier v p h);
}

strongly_plain : IsPlainFor Q15
strongly_plain = record {
  cuts = λ net earlier v p n h. one_tree_cuts net p n (strongly_tree net earlier v p h);
}

plain_for : (q : Question) → ShortFor q → IsPlainFor q
plain_for Q13 s = signal_plain
plain_for Q14 s = concordant_plain
plain_for Q15 s = strongly_plain
plain_for q s = short_plain q s

cuts_by : (net : Net) (earlier : Earlier) (qs : List Question) (xs : List Answer) → IsNetwork net → AllByRecursion ShortFor qs → AreFormed net earlier qs xs → AllByRecursion (IsShareable MAX_NUMBERS) (all_cuts xs)
cuts_by net earlier [] [] n s h = tt
cuts_by net earlier (q ∷ qs) (a ∷ xs) n s h =
    let p = plain_for q s.0 in
    let cuts = p.cuts in
    all_append (IsShareable MAX_NUMBERS) (cuts_in a.proof) (all_cuts xs) (cuts net earlier a.verdict a.proof n h.0) (cuts_by net (earlier ++ (q, tight a.verdict) ∷ []) qs xs n s.1 h.1)
cuts_by net earlier qs xs n s h = absurd h

-- no tree follows a head of the question
short : (q : Question) → ((net : Net) (earlier : Earlier) (kind : HeadKind) → trees net earlier q kind ≡ []) → IsShortQuestion q
short q none net earlier v p f = treeless net earlier q v p (none net earlier) f

pub built_short : AllByRecursion ShortFor built
built_short = (short Q1 (λ net earlier kind. refl), (short Q2 (λ net earlier kind. refl), (short Q3 (λ net earlier kind. refl), (short Q4 (λ net earlier kind. refl), (short Q5 (λ net earlier kind. refl), (short Q6 (λ net earlier kind. refl), (short Q7 (λ net earlier kind. refl), (short Q8 (λ net earlier kind. refl), (short Q9 (λ net earlier kind. refl), (short Q10 (λ net earlier kind. refl), (short Q11 (λ net earlier kind. refl), (short Q12 (λ net earlier kind. refl), (tt, (tt, (tt, tt)))))))))))))))

-- the cuts of formed answers of a network may be shared
pub cuts_shareable : (net : Net) (xs : List Answer) → IsNetwork net → AreFormed net [] built xs → AllByRecursion (IsShareable MAX_NUMBERS) (all_cuts xs)
cuts_shareable net xs n h = cuts_by net [] built xs n built_short h

-- there are as many answers as questions
pub as_many : (net : Net) (earlier : Earlier) (qs : List Question) (xs : List Answer) → AreFormed net earlier qs xs → length xs ≡ length qs
as_many net earlier [] [] h = refl
as_many net earlier (q ∷ qs) (a ∷ xs) h = ap suc (as_many net _ qs xs h.1)
as_many net earlier qs xs h = absurd h

-- ---- blocks

-- the records of each answer are those with these pairs
abbrev AreWritten : List ℕ → List Question → Known → List Answer → Type 0
AreWritten pairs [] known xs = Unit {0}
AreWritten pairs (q ∷ qs) known [] = Unit {0}
AreWritten pairs (q ∷ qs) known (a ∷ xs) = (proof_records (shapes_of known) a.proof ≡ proof_records (shapes_with pairs) a.proof) × AreWritten pairs qs (known_after q known a) xs

-- so they are for all questions after the second
written_after : (pairs : List ℕ) (qs : List Question) (known : Known) (xs : List Answer) → IsStrong (on known.earlier Q2) → pairs_of known ≡ pairs → AreWritten pairs qs known xs
written_after pairs [] known xs s e = tt
written_after pairs (q ∷ qs) known [] s e = tt
written_after pairs (q ∷ qs) known (a ∷ xs) s e =
    let more = (q, verdict_of q (sizes_of known) (head_of q a.verdict) (records_below (shapes_of known) a)) ∷ [] in
    (rows_by_pairs (shapes_of known) (shapes_with pairs) a.proof e, written_after pairs qs (known_after q known a) xs (strong_stays known.earlier more s) (pairs_stay known more s ∙ e))

pairs_of_strong : (net : Net) (v w : Verdict) → IsStrong w → pair_places net ((Q1, v) ∷ (Q2, tight w) ∷ []) ≡ strong_pairs net w
pairs_of_strong net v (Strong count terminal label exit) s = refl
pairs_of_strong net v w s = absurd s

-- the pairs that are known after the first two answers are those of their verdicts
pairs_then : (net : Net) (a b : Answer) → IsFormedAnswer net [] Q1 a → IsFormedAnswer net ((Q1, tight a.verdict) ∷ []) Q2 b
    → (let known = known_after Q2 (known_after Q1 (meaning.start net) a) b in IsStrong (on known.earlier Q2) × (pairs_of known ≡ strong_pairs net b.verdict))
pairs_then net a b f g =
    let one = known_after Q1 (meaning.start net) a in
    let known = known_after Q2 one b in
    let first : one.earlier ≡ (Q1, tight a.verdict) ∷ [] = linkage_next (meaning.start net) a f in
    let second : known.earlier ≡ one.earlier ++ (Q2, tight b.verdict) ∷ [] = strong_next one b (subst (λ (es : Earlier). IsFormedAnswer net es Q2 b) (sym first) g) in
    let both : known.earlier ≡ (Q1, tight a.verdict) ∷ (Q2, tight b.verdict) ∷ [] = second ∙ ap (λ (es : Earlier). es ++ (Q2, tight b.verdict) ∷ []) first in
    let right : IsStrong b.verdict = formed_right net ((Q1, tight a.verdict) ∷ []) Q2 b.verdict b.proof g in
    let strong : IsStrong (on known.earlier Q2) = subst (λ (es : Earlier). IsStrong (on es Q2)) (sym both) (strong_tight b.verdict right) in
    (strong, ap (λ (es : Earlier). pair_places net es) both ∙ pairs_of_strong net (tight a.verdict) b.verdict right)

-- the records of formed answers are those with the pairs of their verdicts
all_written : (net : Net) (xs : List Answer) → AreFormed net [] built xs → AreWritten (pairs_in net xs) built (meaning.start net) xs
all_written net [] h = absurd h
all_written net (a ∷ []) h = absurd h.1
all_written net (a ∷ b ∷ xs) h =
    let start : Known = meaning.start net in
    let pairs = strong_pairs net b.verdict in
    let p = pairs_then net a b h.0 h.1.0 in (
      same_rows (shapes_of start) (shapes_with pairs) a.proof (sees_first net [] a.verdict a.proof h.0),
      (
        same_rows (shapes_of (known_after Q1 start a)) (shapes_with pairs) b.proof (sees_second net ((Q1, tight a.verdict) ∷ []) b.verdict b.proof h.1.0),
        written_after pairs (Q3 ∷ Q4 ∷ Q5 ∷ Q6 ∷ Q7 ∷ Q8 ∷ Q9 ∷ Q10 ∷ Q11 ∷ Q12 ∷ Q13 ∷ Q14 ∷ Q15 ∷ []) (known_after Q2 (known_after Q1 start a) b) xs p.0 p.1,
      ),
    )

flat_blocks : (pairs : List ℕ) (qs : List Question) (known : Known) (xs : List Answer) → AreWritten pairs qs known xs → flat_map (λ (rs : List Record). rs) (all_records meaning qs known xs) ≡ blocks false pairs qs xs
unfolding all_records
flat_blocks pairs [] known xs h = refl
flat_blocks pairs (q ∷ qs) known [] h = refl
flat_blocks pairs (q ∷ qs) known (a ∷ xs) h =
    ap (λ (t : List Record). t ++ flat_map (λ (rs : List Record). rs) (all_records meaning qs (known_after q known a) xs)) (same_records q (shapes_of known) (shapes_with pairs) a h.0)
    ∙ ap (λ (t : List Record). records q (shapes_with pairs) a ++ t) (flat_blocks pairs qs (known_after q known a) xs h.1)

headed_blocks : (pairs : List ℕ) (qs : List Question) (known : Known) (xs : List Answer) → AreWritten pairs qs known xs → in_sections qs (all_records meaning qs known xs) ≡ blocks true pairs qs xs
unfolding all_records
headed_blocks pairs [] known xs h = refl
headed_blocks pairs (q ∷ qs) known [] h = refl
headed_blocks pairs (q ∷ qs) known (a ∷ xs) h =
    ap (λ (t : List Record). (map section (opens q) ++ t) ++ in_sections qs (all_records meaning qs (known_after q known a) xs)) (same_records q (shapes_of known) (shapes_with pairs) a h.0)
    ∙ ap (λ (t : List Record). (map section (opens q) ++ records q (shapes_with pairs) a) ++ t) (headed_blocks pairs qs (known_after q known a) xs h.1)

-- the records of a document in version 1 are those of the blocks
pub records_are : (net : Net) (xs : List Answer) → AreFormed net [] built xs → flat_map (λ (rs : List Record). rs) (records_of net xs) ≡ blocks false (pairs_in net xs) built xs
records_are net xs h = flat_blocks (pairs_in net xs) built (meaning.start net) xs (all_written net xs h)

-- and in version 2
pub headed_are : (net : Net) (xs : List Answer) → AreFormed net [] built xs → in_sections built (records_of net xs) ≡ blocks true (pairs_in net xs) built xs
headed_are net xs h = headed_blocks (pairs_in net xs) built (meaning.start net) xs (all_written net xs h)

-- ---- documents

-- a document with these pairs: its opening, the lines of its blocks, and its last line
pub document_lines : (net : Net) (xs : List Answer) (pairs : List ℕ) → AreFormed net [] built xs → pairs ≡ pairs_in net xs
    → document net (records_of net xs) ≡ (opening 1 net ++ record_lines (written [] (blocks false pairs built xs))) ++ codes "end\n"
document_lines net xs pairs h e =
    ap (λ (t : List Record). (opening 1 net ++ record_lines t) ++ codes "end\n") (records_are net xs h ∙ sym (written_none (blocks false (pairs_in net xs) built xs)))
    ∙ ap (λ (ps : List ℕ). (opening 1 net ++ record_lines (written [] (blocks false ps built xs))) ++ codes "end\n") (sym e)

four : (a b c d : List ℕ) → (a ++ (b ++ c)) ++ d ≡ ((a ++ b) ++ c) ++ d
four a b c d = simp append_assoc

-- in version 2 with the lines of its table
pub document2_lines : (net : Net) (xs : List Answer) (pairs : List ℕ) (share : Share) → AreFormed net [] built xs → pairs ≡ pairs_in net xs
    → document2 built net (records_of net xs) share ≡ ((opening 2 net ++ record_lines (table_records share.table)) ++ record_lines (written share.leaf (blocks true pairs built xs))) ++ codes "end\n"
document2_lines net xs pairs share h e =
    let all = blocks true (pairs_in net xs) built xs in
    ap (λ (t : List Record). (opening 2 net ++ record_lines (table_records share.table ++ written share.leaf t)) ++ codes "end\n") (headed_are net xs h)
    ∙ ap (λ (t : List ℕ). (opening 2 net ++ t) ++ codes "end\n") (lines_append (table_records share.table) (written share.leaf all))
    ∙ four (opening 2 net) (record_lines (table_records share.table)) (record_lines (written share.leaf all)) (codes "end\n")
    ∙ ap (λ (ps : List ℕ). ((opening 2 net ++ record_lines (table_records share.table)) ++ record_lines (written share.leaf (blocks true ps built xs))) ++ codes "end\n") (sym e)

-- ---- cut leaves

skip_by : (b : Bool) (r : Record) (ts : List Record) → b ≡ false → cond b (r ∷ ts) ts ≡ ts
skip_by true r ts e = absurd cc
skip_by false r ts e = refl

plain_cuts : (rs : List Record) → AllByRecursion IsPlain rs → cut_lists rs ≡ []
plain_cuts [] h = refl
plain_cuts (r ∷ rs) h = ap (λ (t : List Record). map (λ (r : Record). r.numbers) t) (skip_by (is_cut_leaf r) r (filter is_cut_leaf rs) h.0) ∙ plain_cuts rs h.1

-- the lists of the cut leaves of a tree's nodes are those of its cuts
tree_cuts : (tree : Plan) → cut_lists (nodes tree) ≡ cuts_of tree
tree_cuts (Both zeros pluses) =
    cuts_append (nodes zeros) (nodes pluses)
    ∙ ap (λ (t : List (List ℤ)). t ++ cut_lists (nodes pluses)) (tree_cuts zeros) ∙ ap (λ (t : List (List ℤ)). cuts_of zeros ++ t) (tree_cuts pluses)
tree_cuts (Three zeros pluses minuses) =
    cuts_append (nodes zeros ++ nodes pluses) (nodes minuses) ∙ ap (λ (t : List (List ℤ)). t ++ cut_lists (nodes minuses)) (cuts_append (nodes zeros) (nodes pluses))
    ∙ ap (λ (t : List (List ℤ)). (t ++ cut_lists (nodes pluses)) ++ cut_lists (nodes minuses)) (tree_cuts zeros) ∙ ap (λ (t : List (List ℤ)). (cuts_of zeros ++ t) ++ cut_lists (nodes minuses)) (tree_cuts pluses)
    ∙ ap (λ (t : List (List ℤ)). (cuts_of zeros ++ cuts_of pluses) ++ t) (tree_cuts minuses)
tree_cuts tree = refl

proof_cuts : (p : Proof) → cut_lists (proof_nodes p) ≡ cuts_in p
proof_cuts (proof.One tree) = tree_cuts tree
proof_cuts (proof.Two tree second) = cuts_append (nodes tree) (nodes second) ∙ ap (λ (t : List (List ℤ)). t ++ cut_lists (nodes second)) (tree_cuts tree) ∙ ap (λ (t : List (List ℤ)). cuts_of tree ++ t) (tree_cuts second)
proof_cuts p = refl

answer_cuts : (q : Question) (s : Shapes) (a : Answer) → cut_lists (records q s a) ≡ cuts_in a.proof
answer_cuts q s a =
    cuts_append (head_of q a.verdict ∷ records_below s a) (proof_nodes a.proof)
    ∙ ap (λ (t : List (List ℤ)). t ++ cut_lists (proof_nodes a.proof)) (plain_cuts (head_of q a.verdict ∷ records_below s a) (prefix_plain q s a)) ∙ proof_cuts a.proof

blocks_cuts : (pairs : List ℕ) (qs : List Question) (xs : List Answer) → length xs ≤ length qs → cut_lists (blocks false pairs qs xs) ≡ all_cuts xs
blocks_cuts pairs [] [] h = refl
blocks_cuts pairs [] (a ∷ xs) h = absurd (omega arith)
blocks_cuts pairs (q ∷ qs) [] h = refl
blocks_cuts pairs (q ∷ qs) (a ∷ xs) h =
    cuts_append (records q (shapes_with pairs) a) (blocks false pairs qs xs)
    ∙ ap (λ (t : List (List ℤ)). t ++ cut_lists (blocks false pairs qs xs)) (answer_cuts q (shapes_with pairs) a) ∙ ap (λ (t : List (List ℤ)). cuts_in a.proof ++ t) (blocks_cuts pairs qs xs (omega arith))

-- the lists of the cut leaves of formed answers' records are those of the answers' cuts
pub records_cuts : (net : Net) (xs : List Answer) → AreFormed net [] built xs → cut_lists (flat_map (λ (rs : List Record). rs) (records_of net xs)) ≡ all_cuts xs
records_cuts net xs h =
    ap cut_lists (records_are net xs h) ∙ blocks_cuts (pairs_in net xs) built xs (let e = as_many net [] built xs h in omega (arith, e))

-- ---- shares

same_number : (k : ℕ) (ts : List (List ℤ)) (u : List ℤ) → documents.number_in k ts u ≡ number_in k ts u
same_number k [] u = refl
same_number k (t ∷ ts) u = ap (λ (n : ℕ). if pointwise int_eq t u then k else n) (same_number (k + 1) ts u)

same_numbers : (ts us : List (List ℤ)) → map (documents.number_in 1 ts) us ≡ map (number_in 1 ts) us
same_numbers ts [] = refl
same_numbers ts (u ∷ us) = ap₂ (λ (n : ℕ) (ns : List ℕ). n ∷ ns) (same_number 1 ts u) (same_numbers ts us)

share_by : (lists cuts : List (List ℤ)) → lists ≡ cuts
    → (let table = take MAX_SHARED (firsts (pointwise int_eq) lists) in let made : Share = record { table = table; leaf = map (documents.number_in 1 table) lists } in made) ≡ as_share (share_of_cuts MAX_SHARED cuts)
share_by lists cuts e =
    rw e (ap (λ (ns : List ℕ). let made : Share = record { table = take MAX_SHARED (firsts (pointwise int_eq) cuts); leaf = ns } in made) (same_numbers (take MAX_SHARED (firsts (pointwise int_eq) cuts)) cuts))

-- the share of answers is that of their records
pub shares_are_one : (net : Net) (xs : List Answer) → AreFormed net [] built xs → documents.share_of (records_of net xs) ≡ as_share (share_of MAX_SHARED xs)
shares_are_one net xs h = share_by (cut_lists (flat_map (λ (rs : List Record). rs) (records_of net xs))) (all_cuts xs) (records_cuts net xs h)

named_at : (ts : List (List ℤ)) (k : ℕ) (u : List ℤ) → HasAt ts k u ↔ documents.IsNamed ts k u
named_at ts zero u = ((λ h. h), (λ h. h))
named_at [] (suc k) u = ((λ h. h), (λ h. h))
named_at (t ∷ ts) (suc zero) u = ((λ h. h), (λ h. h))
named_at (t ∷ ts) (suc (suc k)) u = named_at ts (suc k) u

all_named : (ts : List (List ℤ)) (ks : List ℕ) (us : List (List ℤ)) → AllZip (HasAt ts) ks us ↔ AllZip (documents.IsNamed ts) ks us
all_named ts [] [] = ((λ h. h), (λ h. h))
all_named ts (k ∷ ks) (u ∷ us) = let a = named_at ts k u in let b = all_named ts ks us in ((λ h. (a.0 h.0, b.0 h.1)), (λ h. (a.1 h.0, b.1 h.1)))
all_named ts ks us = ((λ h. h), (λ h. h))

all_narrow : (xs : List ℤ) → AllByRecursion ranges.IsNarrow xs ↔ AllByRecursion IsNarrow xs
all_narrow [] = ((λ h. h), (λ h. h))
all_narrow (x ∷ xs) = let b = all_narrow xs in ((λ h. (h.0, b.0 h.1)), (λ h. (h.0, b.1 h.1)))

all_shareable : (ts : List (List ℤ)) → AllByRecursion (IsShareable MAX_NUMBERS) ts ↔ AllByRecursion documents.IsShareable ts
all_shareable [] = ((λ h. h), (λ h. h))
all_shareable (t ∷ ts) =
    let b = all_shareable ts in
    let n = all_narrow t in
    ((λ h. (record { some = h.0.some; most = h.0.few; narrow = n.0 h.0.narrow }, b.0 h.1)), (λ h. (record { some = h.0.some; few = h.0.most; narrow = n.1 h.0.narrow }, b.1 h.1)))

-- a share fits answers if and only if it fits their records
pub shares_fit_both : (net : Net) (xs : List Answer) (share : Shared) → AreFormed net [] built xs → FitsAnswers MAX_SHARED MAX_NUMBERS xs share ↔ FitsShare (records_of net xs) (as_share share)
shares_fit_both net xs share h =
    let e = records_cuts net xs h in
    let l = all_shareable share.table in
    let z = all_named share.table share.leaf (all_cuts xs) in (
      (λ f. record { most = f.few; lists = l.0 f.lists; leaves = subst (λ (us : List (List ℤ)). AllZip (documents.IsNamed share.table) share.leaf us) (sym e) (z.0 f.leaves) }),
      (λ f. record { few = f.most; lists = l.1 f.lists; leaves = z.1 (subst (λ (us : List (List ℤ)). AllZip (documents.IsNamed share.table) share.leaf us) e f.leaves) }),
    )

-- the share of formed answers of a network fits their records
pub share_fits : (net : Net) (xs : List Answer) → IsNetwork net → AreFormed net [] built xs → FitsShare (records_of net xs) (documents.share_of (records_of net xs))
share_fits net xs n h =
    let fits : FitsAnswers MAX_SHARED MAX_NUMBERS xs (share_of MAX_SHARED xs) = cut_shares_fit MAX_SHARED MAX_NUMBERS (all_cuts xs) (cuts_shareable net xs n h) in
    subst (FitsShare (records_of net xs)) (sym (shares_are_one net xs h)) ((shares_fit_both net xs (share_of MAX_SHARED xs) h).0 fits)
