-- The course of the lines of a document on endotactic networks is settled.
use Rattle.crn_endo_text.proofs.Prelude.{◌+◌, ◌-◌, ◌++◌, ℕ, zero, suc, Bool, true, false, List, [], ◌∷◌, length, refl, arith, codes, bytes_eq, Net, Sign, Zero, Plus, Minus, all_zero, Said, Splits, Flats, CutsA, CutsB, Fits, Record, Course, Give, ◌>>=◌, test_own, IsSettled, either, word_of, first_number, asks_part, part_course, HaveWords, forms_yes, settled_then, own_settled, give_settled, either_settled, asks_part_settled, part_settled, IsAgainst, slopes, EndoSeen, Yes, No, Undecided, words, yes_forms, is_small, other_forms, verdict_forms, slope_forms, node_forms, said_of, node_fault, asks_node, if_split, asks_tree, asks_trees, asks_yes, asks_no, asks_rest, asks_endo, IsOwn, part}
use Rattle.crn_endo_text.proofs.TestsDecided.{fits_decided, against_decided}

-- ---- the trees

fault_own : (node : Said) → IsOwn (node_fault node)
fault_own Splits = (omega arith, omega arith)
fault_own Flats = (omega arith, omega arith)
fault_own (CutsA u) = (omega arith, omega arith)
fault_own (CutsB u) = (omega arith, omega arith)

node_settled : (net : Net) (r : ℕ) (prefix : List Sign) (n : ℕ) → IsSettled IsOwn (asks_node (slopes net r) prefix n)
node_settled net r prefix n =
    let forms = node_forms (length (slopes net r).matrix_a.rows) in
    settled_then IsOwn (asks_part words n forms) (λ q. test_own n (node_fault (said_of q)) (Fits (slopes net r) prefix (said_of q)) >>= (λ x. Give (said_of q))) (asks_part_settled IsOwn words n forms (forms_yes forms refl))
    (λ q. settled_then IsOwn (test_own n (node_fault (said_of q)) (Fits (slopes net r) prefix (said_of q))) (λ x. Give (said_of q))
    (own_settled IsOwn n (node_fault (said_of q)) (Fits (slopes net r) prefix (said_of q)) (fault_own (said_of q)) (fits_decided net r prefix (bytes_eq (word_of q) (codes "split")) (bytes_eq (word_of q) (codes "flat")) q.numbers)) (λ x. give_settled IsOwn (said_of q)))

split_settled : {A : Type 0} (node : Said) (children after : Course A) → IsSettled IsOwn children → IsSettled IsOwn after → IsSettled IsOwn (if_split node children after)
split_settled Splits children after c a = c
split_settled Flats children after c a = a
split_settled (CutsA u) children after c a = a
split_settled (CutsB u) children after c a = a

tree_settled : {A : Type 0} (net : Net) (r more : ℕ) (prefix : List Sign) (n : ℕ) (after : ℕ → Course A) → ((k : ℕ) → IsSettled IsOwn (after k)) → IsSettled IsOwn (asks_tree (slopes net r) more prefix n after)
unfolding asks_tree
tree_settled net r zero prefix n after s = settled_then IsOwn (asks_node (slopes net r) prefix n) (λ node. after (n + 1)) (node_settled net r prefix n) (λ node. s (n + 1))
tree_settled {A} net r (suc more) prefix n after s =
    let minus : ℕ → Course A = λ m. either (all_zero prefix) (after m) (asks_tree (slopes net r) more (prefix ++ Minus ∷ []) m after) in
    let plus : ℕ → Course A = λ k. asks_tree (slopes net r) more (prefix ++ Plus ∷ []) k minus in
    settled_then IsOwn (asks_node (slopes net r) prefix n) (λ node. if_split node (asks_tree (slopes net r) more (prefix ++ Zero ∷ []) (n + 1) plus) (after (n + 1))) (node_settled net r prefix n)
    (λ node. split_settled node (asks_tree (slopes net r) more (prefix ++ Zero ∷ []) (n + 1) plus) (after (n + 1))
    (tree_settled net r more (prefix ++ Zero ∷ []) (n + 1) plus (λ k. tree_settled net r more (prefix ++ Plus ∷ []) k minus
    (λ m. either_settled IsOwn (all_zero prefix) (after m) (asks_tree (slopes net r) more (prefix ++ Minus ∷ []) m after) (s m) (tree_settled net r more (prefix ++ Minus ∷ []) m after s)))) (s (n + 1)))

trees_settled : {A : Type 0} (net : Net) (count r n : ℕ) (after : ℕ → Course A) → ((k : ℕ) → IsSettled IsOwn (after k)) → IsSettled IsOwn (asks_trees net count r n after)
unfolding asks_trees
trees_settled net zero r n after s = s n
trees_settled net (suc count) r n after s = tree_settled net r (slopes net r).choices [] n (λ k. asks_trees net count (r + 1) k after) (λ k. trees_settled net count (r + 1) k after s)

-- ---- all lines

yes_settled : (net : Net) (n : ℕ) → IsSettled IsOwn (asks_yes net n)
yes_settled net n =
    let after : ℕ → Course (ℕ × EndoSeen) = λ k. Give (k, Yes) in
    trees_settled net (length net.reactions) 0 n after (λ k. give_settled IsOwn (k, Yes))

no_settled : (net : Net) (reaction n : ℕ) → IsSettled IsOwn (asks_no net reaction n)
no_settled net reaction n =
    settled_then IsOwn (asks_part words n (slope_forms net)) (λ q. test_own n 73 (IsAgainst net (reaction - 1) q.numbers) >>= (λ x. Give (n + 1, No reaction))) (asks_part_settled IsOwn words n (slope_forms net) (forms_yes (slope_forms net) refl))
    (λ q. settled_then IsOwn (test_own n 73 (IsAgainst net (reaction - 1) q.numbers)) (λ x. Give (n + 1, No reaction)) (own_settled IsOwn n 73 (IsAgainst net (reaction - 1) q.numbers) (omega arith, omega arith) (against_decided net (reaction - 1) q.numbers)) (λ x. give_settled IsOwn (n + 1, No reaction)))

rest_settled : (net : Net) (n : ℕ) (r : Record) → IsSettled IsOwn (asks_rest net n r)
rest_settled net n r =
    let no = asks_no net (first_number r.numbers) n in
    either_settled IsOwn (bytes_eq (word_of r) (codes "yes")) (asks_yes net n) (either (bytes_eq (word_of r) (codes "no")) no (Give (n, Undecided))) (yes_settled net n)
    (either_settled IsOwn (bytes_eq (word_of r) (codes "no")) no (Give (n, Undecided)) (no_settled net (first_number r.numbers) n) (give_settled IsOwn (n, Undecided)))

verdicts_have : (net : Net) → HaveWords (verdict_forms net)
verdicts_have net = by (is_small net)
  where
    by : (small : Bool) → HaveWords (yes_forms small ++ other_forms net)
    by true = forms_yes (yes_forms true ++ other_forms net) refl
    by false = forms_yes (yes_forms false ++ other_forms net) refl

lines_settled : (net : Net) (n : ℕ) → IsSettled IsOwn (asks_endo net n)
lines_settled net n = settled_then IsOwn (asks_part words n (verdict_forms net)) (λ r. asks_rest net (n + 1) r) (asks_part_settled IsOwn words n (verdict_forms net) (verdicts_have net)) (λ r. rest_settled net (n + 1) r)

-- the course of the whole document
pub course_settled : IsSettled IsOwn (part_course part)
course_settled = part_settled part (λ net n is. lines_settled net n)
