-- The course of the lines of a document on persistence is settled.
use Rattle.crn_siphon_text.proofs.Prelude.{◌+◌, ◌-◌, ◌++◌, ℕ, zero, suc, Bool, true, false, List, [], ◌∷◌, length, refl, inr, arith, ℤ, codes, bytes_eq, Net, IsConservationLaw, RuleOutConservation, Record, free_form, Course, Give, ◌>>=◌, test_own, IsSettled, either, word_of, asks_part, part_course, HaveWords, forms_yes, settled_then, own_settled, give_settled, either_settled, asks_part_settled, part_settled, law_decided, no_law_decided, IsSiphon, IsSemiLaw, IsZeroOutside, Covers, set_of, IsBad, IsVoid, Outcome, Yes, No, Undecided, words, verdict_forms, no_forms, node_forms, Node, Forks, IsBadBy, HasLaw, Voids, node_of, leaf, asks_node, goes_on, asks_tree, asks_yes, asks_cover, asks_none, asks_no, asks_rest, asks_persist, IsOwn, part}
use Rattle.crn_siphon_text.proofs.TestsDecided.{siphon_decided, covers_decided, law_node_decided, bad_decided, void_decided}

-- ---- the tree

pub nodes_have : (net : Net) → HaveWords (node_forms net)
nodes_have net = forms_yes (node_forms net) refl

none_decided : ⊥ → ⊥
none_decided n = n

leaf_settled : (net : Net) (prefix : List Bool) (n : ℕ) (node : Node) → IsSettled IsOwn (leaf net prefix n node)
leaf_settled net prefix n Forks = own_settled IsOwn n 54 ⊥ (omega arith, omega arith) (inr none_decided)
leaf_settled net prefix n (IsBadBy r) = own_settled IsOwn n 54 (IsBad net prefix r) (omega arith, omega arith) (bad_decided net prefix r)
leaf_settled net prefix n (HasLaw x) = own_settled IsOwn n 53 (IsSemiLaw net x × IsZeroOutside prefix x) (omega arith, omega arith) (law_node_decided net prefix x)
leaf_settled net prefix n Voids = own_settled IsOwn n 54 (IsVoid net prefix) (omega arith, omega arith) (void_decided net prefix)

node_settled : (net : Net) (n : ℕ) → IsSettled IsOwn (asks_node net n)
node_settled net n = settled_then IsOwn (asks_part words n (node_forms net)) (λ r. Give (node_of r)) (asks_part_settled IsOwn words n (node_forms net) (nodes_have net)) (λ r. give_settled IsOwn (node_of r))

leaf_then : (net : Net) (prefix : List Bool) (n : ℕ) (node : Node) → IsSettled IsOwn (leaf net prefix n node >>= (λ x. Give (n + 1)))
leaf_then net prefix n node = settled_then IsOwn (leaf net prefix n node) (λ x. Give (n + 1)) (leaf_settled net prefix n node) (λ x. give_settled IsOwn (n + 1))

goes_settled : (net : Net) (prefix : List Bool) (n : ℕ) (node : Node) (children : Course ℕ) → IsSettled IsOwn children → IsSettled IsOwn (goes_on net prefix n node children)
goes_settled net prefix n Forks children s = s
goes_settled net prefix n (IsBadBy r) children s = leaf_then net prefix n (IsBadBy r)
goes_settled net prefix n (HasLaw x) children s = leaf_then net prefix n (HasLaw x)
goes_settled net prefix n Voids children s = leaf_then net prefix n Voids

tree_settled : (net : Net) (more : ℕ) (prefix : List Bool) (n : ℕ) → IsSettled IsOwn (asks_tree net more prefix n)
unfolding asks_tree
tree_settled net zero prefix n = settled_then IsOwn (asks_node net n) (λ node. leaf net prefix n node >>= (λ x. Give (n + 1))) (node_settled net n) (λ node. leaf_then net prefix n node)
tree_settled net (suc more) prefix n =
    let children : Course ℕ = asks_tree net more (prefix ++ true ∷ []) (n + 1) >>= (λ k. asks_tree net more (prefix ++ false ∷ []) k) in
    let each : IsSettled IsOwn children = settled_then IsOwn (asks_tree net more (prefix ++ true ∷ []) (n + 1)) (λ k. asks_tree net more (prefix ++ false ∷ []) k) (tree_settled net more (prefix ++ true ∷ []) (n + 1)) (λ k. tree_settled net more (prefix ++ false ∷ []) k) in
    settled_then IsOwn (asks_node net n) (λ node. goes_on net prefix n node children) (node_settled net n) (λ node. goes_settled net prefix n node children each)

-- ---- all lines

yes_settled : (net : Net) (n : ℕ) → IsSettled IsOwn (asks_yes net n)
yes_settled net n =
    let form = free_form (codes "vec") (length net.names) in
    settled_then IsOwn (asks_part words n (form ∷ [])) (λ law. test_own n 53 (IsConservationLaw net law.numbers) >>= (λ x. rest)) (asks_part_settled IsOwn words n (form ∷ []) (forms_yes (form ∷ []) refl))
    (λ law. settled_then IsOwn (test_own n 53 (IsConservationLaw net law.numbers)) (λ x. rest) (own_settled IsOwn n 53 (IsConservationLaw net law.numbers) (omega arith, omega arith) (law_decided net law.numbers))
    (λ x. settled_then IsOwn (asks_tree net (length net.names) [] (n + 1)) (λ line. Give (line, Yes)) (tree_settled net (length net.names) [] (n + 1)) (λ line. give_settled IsOwn (line, Yes))))
  where
    rest : Course (ℕ × Outcome)
    rest = asks_tree net (length net.names) [] (n + 1) >>= (λ line. Give (line, Yes))

cover_settled : (net : Net) (n : ℕ) (marks : List ℤ) → IsSettled IsOwn (asks_cover net n marks)
cover_settled net n marks =
    let form = free_form (codes "mult") (length net.reactions) in
    settled_then IsOwn (asks_part words n (form ∷ [])) (λ cover. test_own (n - 1) 51 (IsSiphon net (set_of marks)) >>= (λ x. last cover)) (asks_part_settled IsOwn words n (form ∷ []) (forms_yes (form ∷ []) refl))
    (λ cover. settled_then IsOwn (test_own (n - 1) 51 (IsSiphon net (set_of marks))) (λ x. last cover) (own_settled IsOwn (n - 1) 51 (IsSiphon net (set_of marks)) (omega arith, omega arith) (siphon_decided net (set_of marks)))
    (λ x. settled_then IsOwn (test_own n 52 (Covers net (set_of marks) cover.numbers)) (λ y. Give (n + 1, No)) (own_settled IsOwn n 52 (Covers net (set_of marks) cover.numbers) (omega arith, omega arith) (covers_decided net (set_of marks) cover.numbers)) (λ y. give_settled IsOwn (n + 1, No))))
  where
    last : Record → Course (ℕ × Outcome)
    last cover = test_own n 52 (Covers net (set_of marks) cover.numbers) >>= (λ y. Give (n + 1, No))

none_settled : (net : Net) (n : ℕ) (cut : List ℤ) → IsSettled IsOwn (asks_none net n cut)
none_settled net n cut = settled_then IsOwn (test_own n 53 (RuleOutConservation net cut)) (λ x. Give (n + 1, No)) (own_settled IsOwn n 53 (RuleOutConservation net cut) (omega arith, omega arith) (no_law_decided net cut)) (λ x. give_settled IsOwn (n + 1, No))

no_settled : (net : Net) (n : ℕ) → IsSettled IsOwn (asks_no net n)
no_settled net n =
    settled_then IsOwn (asks_part words n (no_forms net)) (λ r. either (bytes_eq (word_of r) (codes "cut")) (asks_none net n r.numbers) (asks_cover net (n + 1) r.numbers)) (asks_part_settled IsOwn words n (no_forms net) (forms_yes (no_forms net) refl))
    (λ r. either_settled IsOwn (bytes_eq (word_of r) (codes "cut")) (asks_none net n r.numbers) (asks_cover net (n + 1) r.numbers) (none_settled net n r.numbers) (cover_settled net (n + 1) r.numbers))

rest_settled : (net : Net) (n : ℕ) (r : Record) → IsSettled IsOwn (asks_rest net n r)
rest_settled net n r =
    either_settled IsOwn (bytes_eq (word_of r) (codes "yes")) (asks_yes net n) (either (bytes_eq (word_of r) (codes "no")) (asks_no net n) (Give (n, Undecided))) (yes_settled net n)
    (either_settled IsOwn (bytes_eq (word_of r) (codes "no")) (asks_no net n) (Give (n, Undecided)) (no_settled net n) (give_settled IsOwn (n, Undecided)))

pub lines_settled : (net : Net) (n : ℕ) → IsSettled IsOwn (asks_persist net n)
lines_settled net n =
    settled_then IsOwn (asks_part words n (verdict_forms net)) (λ r. asks_rest net (n + 1) r) (asks_part_settled IsOwn words n (verdict_forms net) (forms_yes (verdict_forms net) refl)) (λ r. rest_settled net (n + 1) r)

-- the course of the whole document
pub course_settled : IsSettled IsOwn (part_course part)
course_settled = part_settled part (λ net n is. lines_settled net n)
