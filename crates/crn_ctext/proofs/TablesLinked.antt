-- Answers on concordance that have a tree, and their records.
use Rattle.crn_ctext.proofs.Prelude.{◌≡◌, ◌⊎◌, ◌<◌, ◌+◌, ◌++◌, ◌∙◌, ℕ, List, [], ◌∷◌, length, refl, sym, ap, subst, inl, inr, arith, AllZip, range_with_len, append-nil, length-map, length-range_with_len, Net, column, vectors, reaction_system, Signed, plain_table, strong_table, Sign, Verdict, Unknown, Proof, Nothing, One, Two, Earlier, Question, Q14, Q15, AllHold, Plan, Both, IsFormedTree, FitsNode, tree_tests, table_tree, FitsTree, trees_of, IsFormedOf, IsValid, Record, Problem, IsTree, AreTrees, IsGoodLeaf, proof_nodes, records, nodes, Known, shapes_of, problem_over, table_problem, meaning}
use Rattle.crn_cert.specs.declared.answer.Gap.TheVariants.{Rests}
use Rattle.crn_cert.specs.declared.answer.Verdict.TheVariants.{Yes}
use Rattle.crn_cert.specs.Table.{sizes_of}
use Rattle.crn_ctext.specs.Documents as documents
use Rattle.crn_ctext.proofs.Shown.{shown}
use Rattle.crn_ctext.proofs.RecordsDerived.{bare}
use Rattle.crn_ctext.proofs.Joined.{parts, answer}
use Rattle.crn_ctext.proofs.TreeRecords.{AreLeafTests, tree_good, tree_true, tests_true, true_tests, plans_one}

-- ---- trees

-- the problem has a choice for each species
pub rows_counted : (net : Net) → length (reaction_system net).rows ≡ length net.names
rows_counted net = length-map (range_with_len 0 (length net.names)) (column (vectors net)) ∙ length-range_with_len 0 (length net.names)

-- the sign problem of a table
abbrev pub table_of : Net → List (List Sign) → Problem
table_of net table = problem_over net (table_problem net table)

-- no choice is made at the root
pub at_root : (n : ℕ) → n + length {A = Sign} [] ≡ n
at_root n = omega arith

-- the records are the one tree of this problem
abbrev OneTree : Net → List (List Sign) → List Record → Type 0
OneTree net table rs = AreTrees IsGoodLeaf (table_of net table ∷ []) rs

abbrev TreeTestsHold : Net → List (List Sign) → Plan → Type 0
TreeTestsHold net table tree = AllHold (tree_tests (FitsNode (table_problem net table)) 1 [] tree)

-- a tree over the species
abbrev pub IsOverSpecies : Net → Plan → Type 0
IsOverSpecies net tree = IsFormedTree (length net.names) (length net.names) (length net.names) [] tree

leaf_tests : (net : Net) (table : List (List Sign)) → AreLeafTests (table_of net table) (FitsNode (table_problem net table))
leaf_tests net table = record { part_a = λ p u. ((λ h. h), (λ h. h)); part_b = λ p u. ((λ h. h), (λ h. h)); closed = λ p. ((λ h. h), (λ h. h)) }

tests_good : (net : Net) (table : List (List Sign)) (tree : Plan) → IsOverSpecies net tree → TreeTestsHold net table tree → OneTree net table (nodes tree)
tests_good net table tree f hold =
    (nodes tree, [], sym (append-nil (nodes tree)), tree_good (table_of net table) (length net.names) [] tree (at_root (length net.names)) f (tests_true (table_of net table) (FitsNode (table_problem net table)) (leaf_tests net table) 1 [] tree hold), refl)

good_tests : (net : Net) (table : List (List Sign)) (tree : Plan) → IsOverSpecies net tree → OneTree net table (nodes tree) → TreeTestsHold net table tree
good_tests net table tree f t =
    let w : Signed = table_problem net table in
    let all : t.0 ≡ nodes tree = sym (t.2 ∙ ap (λ (x : List Record). t.0 ++ x) t.4 ∙ append-nil t.0) in
    let good : IsTree (IsGoodLeaf (table_of net table)) (length net.names) [] (nodes tree) = subst (λ (rs : List Record). IsTree (IsGoodLeaf (table_of net table)) (length net.names) [] rs) all t.3 in
    true_tests (table_of net table) (FitsNode w) (leaf_tests net table) (λ p less. subst (λ (c : ℕ). length p < c) (sym (rows_counted net)) less) 1 [] tree f (tree_true (table_of net table) (length net.names) [] tree (at_root (length net.names)) f good)

pub some_nodes : (tree : Plan) → nodes tree ≡ [] → ⊥
some_nodes (Both zeros pluses) e = cc
some_nodes tree e = cc

-- ---- the tree of an answer

abbrev pub IsTreeOrNone : Net → Proof → Type 0
IsTreeOrNone net p = (p ≡ Nothing) ⊎ ((tree : Plan) × (p ≡ One tree) × IsOverSpecies net tree)

-- the one tree that is due
one_tree : (net : Net) (earlier : Earlier) (p : Proof) → AllZip FitsTree (table_tree (sizes_of net earlier) ∷ []) (trees_of p) → IsTreeOrNone net p
one_tree net earlier (One tree) f = inr (tree, refl, f.0)
one_tree net earlier (Two tree second) f = absurd f.1
one_tree net earlier p f = absurd f

pub concordant_tree : (net : Net) (earlier : Earlier) (v : Verdict) (p : Proof) → IsFormedOf net earlier Q14 v p → IsTreeOrNone net p
concordant_tree net earlier Yes p f = let b = f.0 in one_tree net earlier p b.trees
concordant_tree net earlier (Unknown (Rests question)) p f = let b = f.0 in absurd b.head
concordant_tree net earlier v p f = let b = f.0 in bare (λ (x : Proof). IsTreeOrNone net x) p b.trees f.1.1 (inl refl)

pub strongly_tree : (net : Net) (earlier : Earlier) (v : Verdict) (p : Proof) → IsFormedOf net earlier Q15 v p → IsTreeOrNone net p
strongly_tree net earlier Yes p f = let b = f.0 in one_tree net earlier p b.trees
strongly_tree net earlier (Unknown (Rests question)) p f = let b = f.0 in absurd b.head
strongly_tree net earlier v p f = let b = f.0 in bare (λ (x : Proof). IsTreeOrNone net x) p b.trees f.1.1 (inl refl)

-- answers with the same nodes show the same
pub tables_shown : (net : Net) (table : List (List Sign)) (p r : Proof) → IsTreeOrNone net p → IsTreeOrNone net r → proof_nodes p ≡ proof_nodes r → shown p ≡ shown r
tables_shown net table p r (inl a) (inl b) n = ap shown (a ∙ sym b)
tables_shown net table p r (inl a) (inr b) n = absurd (some_nodes b.0 (sym (ap proof_nodes b.1) ∙ sym n ∙ ap proof_nodes a))
tables_shown net table p r (inr a) (inl b) n = absurd (some_nodes a.0 (sym (ap proof_nodes a.1) ∙ n ∙ ap proof_nodes b))
tables_shown net table p r (inr a) (inr b) n =
    let same : nodes a.0 ≡ nodes b.0 = sym (ap proof_nodes a.1) ∙ n ∙ ap proof_nodes b.1 in
    ap shown a.1 ∙ ap (λ t. (Nothing, t ∷ [])) (plans_one (table_of net table) (length net.names) [] a.0 b.0 (at_root (length net.names)) a.2 b.2 same) ∙ sym (ap shown b.1)

-- ---- valid answers

abbrev pub HoldsTree : Question → Known → Proof → Type 0
HoldsTree q known p = documents.IsValid meaning q known (records q (shapes_of known) (answer Yes p)) (parts q known (answer Yes p))

pub plain_there : (known : Known) (p : Proof) → IsFormedOf known.net known.earlier Q14 Yes p → IsValid known.net known.earlier Q14 (answer Yes p) → HoldsTree Q14 known p
plain_there known (One tree) f v = let b = f.0 in let t = b.trees in record { head = tt; rows = tt; trees = tests_good known.net (plain_table known.net) tree t.0 v }
plain_there known (Two tree second) f v = let b = f.0 in let t = b.trees in absurd t.1
plain_there known p f v = let b = f.0 in absurd b.trees

pub plain_back : (known : Known) (p : Proof) → IsFormedOf known.net known.earlier Q14 Yes p → HoldsTree Q14 known p → IsValid known.net known.earlier Q14 (answer Yes p)
plain_back known (One tree) f v = let b = f.0 in let t = b.trees in good_tests known.net (plain_table known.net) tree t.0 v.trees
plain_back known (Two tree second) f v = let b = f.0 in let t = b.trees in absurd t.1
plain_back known p f v = let b = f.0 in absurd b.trees

pub strong_there : (known : Known) (p : Proof) → IsFormedOf known.net known.earlier Q15 Yes p → IsValid known.net known.earlier Q15 (answer Yes p) → HoldsTree Q15 known p
strong_there known (One tree) f v = let b = f.0 in let t = b.trees in record { head = tt; rows = tt; trees = tests_good known.net (strong_table known.net) tree t.0 v }
strong_there known (Two tree second) f v = let b = f.0 in let t = b.trees in absurd t.1
strong_there known p f v = let b = f.0 in absurd b.trees

pub strong_back : (known : Known) (p : Proof) → IsFormedOf known.net known.earlier Q15 Yes p → HoldsTree Q15 known p → IsValid known.net known.earlier Q15 (answer Yes p)
strong_back known (One tree) f v = let b = f.0 in let t = b.trees in good_tests known.net (strong_table known.net) tree t.0 v.trees
strong_back known (Two tree second) f v = let b = f.0 in let t = b.trees in absurd t.1
strong_back known p f v = let b = f.0 in absurd b.trees
