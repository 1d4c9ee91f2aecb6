-- The records of formed answers whose trees have few nodes are few.
use Rattle.crn_ctext.proofs.Prelude.{◌≡◌, ◌≤◌, ◌<◌, ◌*◌, ◌++◌, ℕ, Bool, false, List, [], ◌∷◌, length, refl, sym, subst, inl, inr, arith, AllByRecursion, length-append, Net, IsNetwork, MAX_DOCUMENT, MAX_BUDGET, Verdict, Proof, Answer, Earlier, Question, Q1, Q2, Q3, Q4, Q5, Q6, Q7, Q8, Q9, Q10, Q11, Q12, Q13, Q14, Q15, built, IsFormedOf, Plan, Both, Three, RulesA, RulesB, Level, node_count, HasFewNodes, HaveFewNodes, IsTreeless, nodes, proof_nodes, all_records, Share, FitsShare, document, document2, records_of, Known, meaning}
use Rattle.crn_cert.specs.Formed.{AreFormed}
use Rattle.crn_cert.specs.declared.answer.Proof.TheVariants as proof
use Rattle.crn_ctext.proofs.Joined.{parts}
use Rattle.crn_ctext.proofs.RecordsTold.{AreInOrder}
use Rattle.crn_ctext.proofs.BlocksLinked.{joined}
use Rattle.crn_ctext.proofs.KnownBefore.{AreKnown, after}
use Rattle.crn_ctext.proofs.AnswersLinked.{known_after, built_in_order, known_next, formed_next}
use Rattle.crn_ctext.proofs.TablesLinked.{IsTreeOrNone, concordant_tree, strongly_tree}
use Rattle.crn_ctext.proofs.SignalLinked.{HasSignalTrees, signal_trees}
use Rattle.crn_ctext.proofs.WrittenAnswers.{IsShortQuestion, ShortFor, built_short}
use Rattle.crn_ctext.proofs.DocumentsShort.{node_limit, AreFewNodes, first_few, second_few}

-- ---- one answer

-- a tree has as many records as nodes
nodes_counted : (tree : Plan) → length (nodes tree) ≡ node_count tree
nodes_counted (Both zeros pluses) = omega (arith, nodes_counted zeros, nodes_counted pluses, length-append (nodes zeros) (nodes pluses))
nodes_counted (Three zeros pluses minuses) = omega (arith, nodes_counted zeros, nodes_counted pluses, nodes_counted minuses, length-append (nodes zeros ++ nodes pluses) (nodes minuses), length-append (nodes zeros) (nodes pluses))
nodes_counted tree = refl

-- a proof without trees has no nodes
no_nodes : (p : Proof) → IsTreeless p → length (proof_nodes p) ≡ 0
no_nodes (proof.One tree) h = absurd h
no_nodes (proof.Two tree second) h = absurd h
no_nodes p h = refl

-- the one tree, if there is one
one_few : (most : ℕ) (net : Net) (p : Proof) → IsTreeOrNone net p → HasFewNodes most p → length (proof_nodes p) ≤ most
one_few most net p (inl none) h = subst (λ (x : Proof). length (proof_nodes x) ≤ most) (sym none) (omega arith)
one_few most net p (inr t) h =
    let few : node_count t.0 ≤ most = subst (HasFewNodes most) t.1 h in
    subst (λ (x : Proof). length (proof_nodes x) ≤ most) (sym t.1) (omega (arith, few, nodes_counted t.0))

-- the trees of an answer on signals
signals_few : (net : Net) (earlier : Earlier) (p : Proof) → HasSignalTrees net earlier p → HasFewNodes MAX_BUDGET p → length (proof_nodes p) ≤ 2 * MAX_BUDGET
signals_few net earlier p (inl none) h = subst (λ (x : Proof). length (proof_nodes x) ≤ 2 * MAX_BUDGET) (sym none) (omega arith)
signals_few net earlier p (inr (inl t)) h =
    let few : node_count t.0 ≤ MAX_BUDGET = subst (HasFewNodes MAX_BUDGET) t.1 h in
    subst (λ (x : Proof). length (proof_nodes x) ≤ 2 * MAX_BUDGET) (sym t.1) (omega (arith, few, nodes_counted t.0))
signals_few net earlier p (inr (inr t)) h =
    let few : (node_count t.0 ≤ MAX_BUDGET) × (node_count t.1 ≤ MAX_BUDGET) = subst (HasFewNodes MAX_BUDGET) t.2 h in
    subst (λ (x : Proof). length (proof_nodes x) ≤ 2 * MAX_BUDGET) (sym t.2) (omega (arith, few.0, few.1, nodes_counted t.0, nodes_counted t.1, length-append (nodes t.0) (nodes t.1)))

-- an answer to the question has no more nodes than its bound, if each of its trees has no more than a budget
record IsFewFor (q : Question) : Type 0 where
  few : (net : Net) (earlier : Earlier) (v : Verdict) (p : Proof) → IsFormedOf net earlier q v p → HasFewNodes MAX_BUDGET p → length (proof_nodes p) ≤ node_limit q

short_few : (q : Question) → IsShortQuestion q → IsFewFor q
short_few q s = record {
  few = λ net earlier v p h few. omega (arith, no_nodes p (s net earlier v p h));
}

few_for : (q : Question) → ShortFor q → IsFewFor q
few_for Q13 s = record {
  few = λ net earlier v p h few. signals_few net earlier p (signal_trees net earlier v p h) few;
}
few_for Q14 s = record {
  few = λ net earlier v p h few. one_few MAX_BUDGET net p (concordant_tree net earlier v p h) few;
}
few_for Q15 s = record {
  few = λ net earlier v p h few. one_few MAX_BUDGET net p (strongly_tree net earlier v p h) few;
}
few_for q s = short_few q s

-- ---- all answers

few_by : (b : Bool) (qs : List Question) → AreInOrder b qs → AllByRecursion ShortFor qs → (known : Known) (answers : List Answer) → AreKnown b known.earlier → AreFormed known.net known.earlier qs answers → HaveFewNodes MAX_BUDGET answers
    → AreFewNodes qs known (all_records meaning qs known answers)
unfolding AreFewNodes all_records
few_by b [] links shorts known [] n f few = refl
few_by b (q ∷ qs) links shorts known (a ∷ answers) n f few =
    let j = joined b q links.0 in
    let formed = j.formed in
    let bound = few_for q shorts.0 in
    let nodes = bound.few in (
      parts q known a,
      formed known a.verdict a.proof n f.0,
      nodes known.net known.earlier a.verdict a.proof f.0 few.0,
      few_by (after b q) qs links.1 shorts.1 (known_after q known a) answers (known_next b q known a n j f.0) (formed_next b q qs known a answers n j f.0 f.1) few.1,
    )
few_by b qs links shorts known answers n f few = absurd f

-- the records of formed answers whose trees have few nodes
answers_few : (net : Net) (answers : List Answer) → AreFormed net [] built answers → HaveFewNodes MAX_BUDGET answers → AreFewNodes built (meaning.start net) (records_of net answers)
answers_few net answers f few = few_by false built built_in_order built_short (meaning.start net) answers tt f few

-- ---- documents

-- the document of formed answers whose trees have few nodes is shorter than the bound
pub document_short : (net : Net) (answers : List Answer) → IsNetwork net → AreFormed net [] built answers → HaveFewNodes MAX_BUDGET answers → length (document net (records_of net answers)) < MAX_DOCUMENT
document_short net answers n f few = first_few net (records_of net answers) n (answers_few net answers f few)

-- so it is with each share that fits
pub document2_short : (net : Net) (answers : List Answer) (share : Share) → IsNetwork net → AreFormed net [] built answers → HaveFewNodes MAX_BUDGET answers → FitsShare (records_of net answers) share → length (document2 built net (records_of net answers) share) < MAX_DOCUMENT
document2_short net answers share n f few fits = second_few net (records_of net answers) share n (answers_few net answers f few) fits
