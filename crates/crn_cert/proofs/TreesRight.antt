-- A formed tree whose nodes pass their tests is valid, and what valid trees show of networks.
use Rattle.crn_cert.proofs.Prelude.{ℕ, ◌+◌, List, [], ◌∷◌, ◌++◌, Sign, Zero, Plus, Minus, Net, IsNetwork, reaction_system, Signed, IsTable, IsConcordant, concordance, plain_table, strong_table, tables_are_steady, tables_feasible, networks_have_tables, Verdict, Yes, NoPair, Unknown, Proof, One, Two, Earlier, Q14, Q15, AllHold, Plan, Both, Three, RulesA, RulesB, Level, node_count, IsValid, IsFormedTree, Said, Fits, tree_tests, IsFormedOf, table_rows, IsTrueOrOpen, ValidIsTrue}
use Rattle.crn_cert.proofs.TreeLaws.{leaves_nothing}
use Rattle.crn_cert.proofs.TestLists.{hold_parts}

-- if what holds of each node gives its test in a problem
pub tree_right : (w : Signed) (Holds : List Sign → Said → Type 0) → ((p : List Sign) (said : Said) → Holds p said → Fits w p said)
    → (choices rows_a rows_b part : ℕ) (p : List Sign) (tree : Plan) → IsFormedTree choices rows_a rows_b p tree → AllHold (tree_tests Holds part p tree) → IsValid w p tree
tree_right w Holds fits choices rows_a rows_b part p (Both zero plus) f t =
    let split = hold_parts (tree_tests Holds (part + 1) (p ++ Zero ∷ []) zero) (tree_tests Holds (part + 1 + node_count zero) (p ++ Plus ∷ []) plus) t.1 in
    (fits p _ t.0, f.1, tree_right w Holds fits choices rows_a rows_b (part + 1) (p ++ Zero ∷ []) zero f.2 split.0, tree_right w Holds fits choices rows_a rows_b (part + 1 + node_count zero) (p ++ Plus ∷ []) plus f.3 split.1)
tree_right w Holds fits choices rows_a rows_b part p (Three zero plus minus) f t =
    let last = part + 1 + node_count zero + node_count plus in
    let split = hold_parts (tree_tests Holds (part + 1) (p ++ Zero ∷ []) zero ++ tree_tests Holds (part + 1 + node_count zero) (p ++ Plus ∷ []) plus) (tree_tests Holds last (p ++ Minus ∷ []) minus) t.1 in
    let more = hold_parts (tree_tests Holds (part + 1) (p ++ Zero ∷ []) zero) (tree_tests Holds (part + 1 + node_count zero) (p ++ Plus ∷ []) plus) split.0 in (
      fits p _ t.0,
      f.1,
      tree_right w Holds fits choices rows_a rows_b (part + 1) (p ++ Zero ∷ []) zero f.2 more.0,
      tree_right w Holds fits choices rows_a rows_b (part + 1 + node_count zero) (p ++ Plus ∷ []) plus f.3 more.1,
      tree_right w Holds fits choices rows_a rows_b last (p ++ Minus ∷ []) minus f.4 split.1,
    )
tree_right w Holds fits choices rows_a rows_b part p (RulesA u) f t = fits p _ t.0
tree_right w Holds fits choices rows_a rows_b part p (RulesB u) f t = fits p _ t.0
tree_right w Holds fits choices rows_a rows_b part p Level f t = fits p _ t.0

-- ---- concordance

concordant_by : (net : Net) (table : List (List Sign)) → IsTable (reaction_system net) table → (tree : Plan) → IsValid (concordance (reaction_system net) table) [] tree → IsConcordant (reaction_system net) table
concordant_by net table t tree v alpha weights d =
    let m = reaction_system net in
    let at = (tables_feasible m table t).feasible alpha weights d in
    leaves_nothing (concordance m table) (tables_are_steady m table) tree [] at.0 v at.1 at.2

concordant_law : (net : Net) (earlier : Earlier) → IsNetwork net → (v : Verdict) (p : Proof) → IsFormedOf net earlier Q14 v p → AllHold (table_rows net (plain_table net) v p) → IsTrueOrOpen net Q14 v
concordant_law net earlier n (Unknown gap) p f t = tt
concordant_law net earlier n Yes (One tree) f t =
    let w = concordance (reaction_system net) (plain_table net) in
    concordant_by net (plain_table net) (networks_have_tables net n).plain tree (tree_right w (Fits w) (λ p said h. h) _ _ _ 1 [] tree f.0.trees.0 t)
concordant_law net earlier n (NoPair alpha weights) p f t = t.0
concordant_law net earlier n Yes (Two tree second) f t = absurd f.0.trees.1
concordant_law net earlier n Yes p f t = absurd f.0.trees
concordant_law net earlier n v p f t = absurd f.0.head

pub concordant_valid : ValidIsTrue [] [] Q14
concordant_valid net earlier answer n known rests f t = concordant_law net earlier n answer.verdict answer.proof f t

strongly_law : (net : Net) (earlier : Earlier) → IsNetwork net → (v : Verdict) (p : Proof) → IsFormedOf net earlier Q15 v p → AllHold (table_rows net (strong_table net) v p) → IsTrueOrOpen net Q15 v
strongly_law net earlier n (Unknown gap) p f t = tt
strongly_law net earlier n Yes (One tree) f t =
    let w = concordance (reaction_system net) (strong_table net) in
    concordant_by net (strong_table net) (networks_have_tables net n).strong tree (tree_right w (Fits w) (λ p said h. h) _ _ _ 1 [] tree f.0.trees.0 t)
strongly_law net earlier n (NoPair alpha weights) p f t = t.0
strongly_law net earlier n Yes (Two tree second) f t = absurd f.0.trees.1
strongly_law net earlier n Yes p f t = absurd f.0.trees
strongly_law net earlier n v p f t = absurd f.0.head

pub strongly_concordant_valid : ValidIsTrue [] [] Q15
strongly_concordant_valid net earlier answer n known rests f t = strongly_law net earlier n answer.verdict answer.proof f t
