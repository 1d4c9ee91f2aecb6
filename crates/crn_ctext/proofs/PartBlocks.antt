-- Blocks of version 1 without trees, within the lines of a part: those of valid answers, after which their verdicts are known.
use Rattle.crn_ctext.proofs.Prelude.{◌≡◌, ◌≤◌, ◌∙◌, ◌+◌, ◌*◌, ◌++◌, ℕ, suc, Bool, false, List, [], ◌∷◌, length, map, refl, sym, ap, ap₂, subst, inl, append_assoc, arith, AllByRecursion, AllZip, append-nil, length-append, Sign, Answer, Earlier, Question, tight, Record, Says, record_text, IsWrittenBy, head_of, records_below, proof_nodes, all_records, Known, shapes_of, meaning, Meaning, Problem, AfterBlocks, asks_blocks, below, has_tree, leaf_forms, IsGoodLeaf, IsOneOf, AreTrees, AreValid, learned, verdicts_on}
use Rattle.crn_cert.specs.Formed.{AreFormed}
use Rattle.crn_ctext.specs.Documents as documents
use Rattle.crn_ctext.proofs.Shared.{IsTextFor, all_texts, said_for}
use Rattle.crn_ctext.proofs.AnswersApart.{zip_long}
use Rattle.crn_ctext.proofs.MeaningShort.{IsSmall, IsFew, most}
use Rattle.crn_ctext.proofs.ShortAnswers.{AllPlain, IsShortFor, plain_are_short, valid_are_formed}
use Rattle.crn_ctext.proofs.DocumentTexts.{parted_first, parted_plain, written_alone}
use Rattle.crn_ctext.proofs.BlocksWritten.{ArePrefixesOf, all_of, parted, blocks_are_written}
use Rattle.crn_ctext.proofs.BlocksRead.{blocks_back}
use Rattle.crn_ctext.proofs.KnownBefore.{AreKnown, after}
use Rattle.crn_ctext.proofs.BlocksLinked.{joined}
use Rattle.crn_ctext.proofs.RecordsTold.{AreInOrder}
use Rattle.crn_ctext.proofs.AnswersLinked.{earlier_next, formed_next, known_after, known_next}
use Rattle.crn_ctext.proofs.DocumentsShort.{same_for}

-- no tree follows the records below a head of these questions
abbrev pub AreTreeless : {Known : Type 0} → Meaning Known → List Question → Type 0
AreTreeless {Known} m [] = Unit {0}
AreTreeless {Known} m (q ∷ qs) = ((known : Known) (h : Record) → has_tree (m.problems q known h) ≡ false) × AreTreeless m qs

no_nodes : (Leaf : Problem → List Sign → Record → Type 0) (ps : List {1} Problem) (nodes : List Record) → has_tree ps ≡ false → AreTrees Leaf ps nodes → nodes ≡ []
no_nodes Leaf [] nodes e t = t
no_nodes Leaf (p ∷ ps) nodes e t = absurd cc

-- then the blocks that are read are the answers
whole : {Known : Type 0} (m : Meaning Known) (qs : List Question) (known : Known) (blocks answers : List (List Record)) → AreTreeless m qs → ArePrefixesOf m qs known blocks answers → blocks ≡ answers
unfolding ArePrefixesOf
whole m [] known blocks answers t z = z.0 ∙ sym z.1
whole m (q ∷ qs) known [] answers t z = absurd z
whole m (q ∷ qs) known (block ∷ blocks) [] t z = absurd z
whole m (q ∷ qs) known (block ∷ blocks) (rs ∷ more) t z =
    let p = z.0 in
    let treeless = t.0 in
    let none : p.nodes ≡ [] = no_nodes IsGoodLeaf (m.problems q known p.head) p.nodes (treeless known p.head) z.2 in
    let all : rs ≡ p.head ∷ p.rows = p.all ∙ ap (λ (ns : List Record). p.head ∷ (p.rows ++ ns)) none ∙ ap (λ (rows : List Record). p.head ∷ rows) (append-nil p.rows) in
    ap₂ (λ (x : List Record) (xs : List (List Record)). x ∷ xs) (z.1 ∙ sym all) (whole m qs (m.learn q known p.head p.rows) blocks more t.1 z.3)

-- the lines say valid answers
pub blocks_read : {Known : Type 0} (m : Meaning Known) (qs : List Question) (at end : AfterBlocks Known) (ls : List (List ℕ)) → AreTreeless m qs → IsWrittenBy (asks_blocks m 1 [] qs at) ls end
    → (answers : List (List Record)) × AllZip Says ls (all_of answers) × AreValid m qs at.known answers × (end.known ≡ learned m qs at.known answers)
blocks_read {Known} m qs at end ls t w =
    let b = blocks_back 1 [] m qs at end ls tt w in
    let s = said_for [] ls (parted 1 qs b.0) b.1 in
    let alone : s.0 ≡ all_of b.0 = written_alone [] s.0 (parted 1 qs b.0) refl s.2 ∙ parted_first m qs at.known b.0 (valid_are_formed m qs at.known b.0 b.2) in
    let same : b.3.0 ≡ b.0 = whole m qs at.known b.3.0 b.0 t b.3.2 in
    (b.0, subst (λ (rs : List Record). AllZip Says ls rs) alone s.1, b.2, b.3.3 ∙ ap (λ (bs : List (List Record)). learned m qs at.known bs) same)

-- the lines of valid answers are read
pub blocks_written : {Known : Type 0} (m : Meaning Known) (qs : List Question) (at : AfterBlocks Known) (answers : List (List Record)) → AreTreeless m qs → AreValid m qs at.known answers → AllByRecursion AllPlain answers
    → (end : AfterBlocks Known) × IsWrittenBy (asks_blocks m 1 [] qs at) (map record_text (all_of answers)) end × (end.known ≡ learned m qs at.known answers)
blocks_written {Known} m qs at answers t v plain =
    let rs = parted 1 qs answers in
    let texts : AllZip (IsTextFor []) (map record_text rs) rs = all_texts [] rs rs (same_for rs) (plain_are_short rs (parted_plain 1 qs answers plain)) in
    let w = blocks_are_written 1 [] m qs at (map record_text rs) answers (inl (refl, refl)) v texts in
    let same : w.2.0 ≡ answers = whole m qs at.known w.2.0 answers t w.2.1 in
    let alone : rs ≡ all_of answers = parted_first m qs at.known answers (valid_are_formed m qs at.known answers v) in
    (w.0, subst (λ (xs : List Record). IsWrittenBy (asks_blocks m 1 [] qs at) (map record_text xs) w.0) alone w.1, w.2.2 ∙ ap (λ (bs : List (List Record)). learned m qs at.known bs) same)

-- ---- answers

-- after the records of formed answers their verdicts are known, without the spares of their lists
pub answers_learned : (b : Bool) (qs : List Question) → AreInOrder b qs → AreTreeless meaning qs → (known : Known) (answers : List Answer) → AreKnown b known.earlier → AreFormed known.net known.earlier qs answers
    → (learned meaning qs known (all_records meaning qs known answers)).earlier ≡ known.earlier ++ verdicts_on qs answers
unfolding all_records
answers_learned b [] links t known [] n f = sym (append-nil known.earlier)
answers_learned b (q ∷ qs) links t known (a ∷ answers) n f =
    let j = joined b q links.0 in
    let formed = j.formed in
    let treeless = t.0 in
    let h = head_of q a.verdict in
    let below = records_below (shapes_of known) a in
    let k = formed known a.verdict a.proof n f.0 in
    let none : proof_nodes a.proof ≡ [] = no_nodes (λ (p : Problem) (prefix : List Sign) (r : Record). IsOneOf (leaf_forms p) r) (meaning.problems q known h) (proof_nodes a.proof) (treeless known h) k.trees in
    let next = known_after q known a in
    let same : meaning.learn q known h (below ++ proof_nodes a.proof) ≡ next = ap (λ (rs : List Record). meaning.learn q known h rs) (ap (λ (ns : List Record). below ++ ns) none ∙ append-nil below) in
    let rest = answers_learned (after b q) qs links.1 t.1 next answers (known_next b q known a n j f.0) (formed_next b q qs known a answers n j f.0 f.1) in
    ap (λ (x : Known). (learned meaning qs x (all_records meaning qs next answers)).earlier) same ∙ rest ∙ ap (λ (es : Earlier). es ++ verdicts_on qs answers) (earlier_next b q known a n j f.0)
    ∙ append_assoc known.earlier ((q, tight a.verdict) ∷ []) (verdicts_on qs answers)
answers_learned b qs links t known answers n f = absurd f

-- ---- how many records

-- formed answers have few records
pub answers_few : (qs : List Question) → AllByRecursion IsFew qs → AllByRecursion (λ q. most q ≤ 1000) qs → AllByRecursion (IsShortFor meaning IsSmall) qs → AreTreeless meaning qs → (known : Known) (answers : List (List Record)) → IsSmall known → documents.AreFormed meaning qs known answers → length (all_of answers) ≤ 1001 * length qs
unfolding documents.AreFormed
answers_few [] few limit short t known answers s f = subst (λ (x : List (List Record)). length (all_of x) ≤ 0) (sym f) (omega arith)
answers_few (q ∷ qs) few limit short t known [] s f = absurd f
answers_few (q ∷ qs) few limit short t known (rs ∷ more) s f =
    let p = f.0 in
    let formed = f.1 in
    let treeless = t.0 in
    let below_few = few.0 in
    let learn = (let one = short.0 in one.learn) in
    let none : p.nodes ≡ [] = no_nodes (λ (w : Problem) (prefix : List Sign) (r : Record). IsOneOf (leaf_forms w) r) (meaning.problems q known p.head) p.nodes (treeless known p.head) formed.trees in
    let zero_nodes : length p.nodes ≡ 0 = ap length none in
    let rows : length p.rows ≡ length (below q (shapes_of known) p.head) = zip_long (below q (shapes_of known) p.head) p.rows formed.rows in
    let count : length rs ≡ suc (length p.rows + length p.nodes) = ap length p.all ∙ ap suc (length-append p.rows p.nodes) in
    let rest = answers_few qs few.1 limit.1 short.1 t.1 (meaning.learn q known p.head p.rows) more (learn known p.head p.rows s formed.head formed.rows) f.2 in
    omega (arith, length-append rs (all_of more), count, zero_nodes, rows, below_few known p.head s formed.head, limit.0, rest)
