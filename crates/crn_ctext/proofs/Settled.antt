-- The course of a document is settled, if the tests of meaning are decided.
use Rattle.crn_ctext.proofs.Prelude.{◌≡◌, ◌⊎◌, ◌==◌, ◌≤◌, ◌+◌, ◌++◌, ℕ, zero, suc, Bool, true, false, List, [], ◌∷◌, length, map, refl, sym, ap, subst, ◌∙◌, inl, inr, arith, ℤ, replicate, codes, decimal, append_cancel_left, decimal_injective, IsIn, Net, IsNetwork, Sign, Zero, Plus, Minus, MAX_REACTIONS, canonical, Spells, spells_its_network, judged, no_fault, spelling_unique, Record, Form, node_forms, section_form, table_form, vector_form, end_form, Question, heads, first_number, Course, Give, ◌>>=◌, due, find, test, ends, test_own, IsSettled, Claim, all_zero, Problem, Meaning, either, asks, asks_node, asks_all, claims, Node, Split, Flat, CutA, CutB, node_of, leaf, asks_leaf, goes_on, if_signed, asks_tree, asks_trees, sections, below, AfterBlocks, asks_block, after_sections, asks_blocks, asks_table, lists_of, asks_lines, title, network_line, ended, IsNetworkOf, ReadOf, course, BadHeader, BadLeaf, BadNetwork, Fault, NodeNotAllowed, TreeEndsEarly, WrongOrder, WrongShape}
use Rattle.crn_ctext.proofs.Decided.{IsDecided, if_decided, nat_decided, bool_decided, bytes_decided, some_decided}
use Rattle.crn_ctext.proofs.Courses.{settled_then, settled_with, GivesOnly, gives_only_then}
use Rattle.crn_ctext.proofs.LinesRead.{HaveWords, reads_settled}
use Rattle.crn_ctext.proofs.FormWords.{nodes_have, sections_have, table_has, vectors_have, end_has}
use Rattle.crn_ctext.proofs.BlocksWritten.{after_block, from_trees, from_row_claims, from_rows, from_claims}
use Rattle.crn_ctext.proofs.FormKinds.{heads_have, below_have}

-- ---- what is asked of the meaning

-- each claim is decided
abbrev pub AllDecided : List {1} Claim → Type 0
AllDecided [] = Unit {0}
AllDecided (c ∷ cs) = IsDecided c.holds × AllDecided cs

-- each test of a tree is decided
pub record IsDecidedProblem (p : Problem) : Type 0 where
  pub part_a : (prefix : List Sign) (u : List ℤ) → IsDecided (p.RulesOutA prefix u)
  pub part_b : (prefix : List Sign) (u : List ℤ) → IsDecided (p.RulesOutB prefix u)
  pub closed : (prefix : List Sign) → IsDecided (p.IsClosed prefix)

abbrev pub AreDecidedProblems : List {1} Problem → Type 0
AreDecidedProblems [] = Unit {0}
AreDecidedProblems (p ∷ ps) = IsDecidedProblem p × AreDecidedProblems ps

-- each test of meaning of a question is decided if what is known has this property, which it keeps
pub record IsDecidedFor {Known : Type 0} (m : Meaning Known) (Ok : Known → Type 0) (q : Question) : Type 0 where
  pub head : (known : Known) (h : Record) → Ok known → AllDecided (m.head_claims q known h)
  pub rows : (known : Known) (h : Record) (rs : List Record) → Ok known → AllDecided (m.row_claims q known h rs)
  pub trees : (known : Known) (h : Record) → Ok known → AreDecidedProblems (m.problems q known h)
  pub learn : (known : Known) (h : Record) (rs : List Record) → Ok known → Ok (m.learn q known h rs)

-- each test of meaning of these questions is decided
abbrev pub IsDecidedMeaning : {Known : Type 0} → Meaning Known → (Known → Type 0) → List Question → Type 0
IsDecidedMeaning m Ok [] = Unit {0}
IsDecidedMeaning m Ok (q ∷ qs) = IsDecidedFor m Ok q × IsDecidedMeaning m Ok qs

-- ---- records

pub test_settled : (own : ℕ → Type 0) (n : ℕ) (fault : Fault) (P : Type 0) → IsDecided P → IsSettled own (test n fault P)
unfolding IsSettled
test_settled own n fault P (inl p) = (inl (tt, p), (λ x y p q. refl), (λ x p. tt), tt)
test_settled own n fault P (inr p) = (inr (λ x. p), (λ x y p q. refl), (λ x p. tt), tt)

-- a test that is reported by a number of a part's own
pub own_settled : (own : ℕ → Type 0) (n number : ℕ) (P : Type 0) → own number → IsDecided P → IsSettled own (test_own n number P)
unfolding IsSettled
own_settled own n number P mine (inl p) = (inl (tt, p), (λ x y p q. refl), (λ x p. tt), mine)
own_settled own n number P mine (inr p) = (inr (λ x. p), (λ x y p q. refl), (λ x p. tt), mine)

pub find_settled : (own : ℕ → Type 0) (n : ℕ) (fault : Fault) (X : Type 0) (P : X → Type 0) → (((x : X) × P x) ⊎ ((x : X) → P x → ⊥)) → ((x y : X) → P x → P y → x ≡ y) → IsSettled own (find n fault X P)
unfolding IsSettled
find_settled own n fault X P decided one = (decided, one, (λ x p. tt), tt)

pub due_settled : (own : ℕ → Type 0) (node : Bool) → IsSettled own (due node)
unfolding IsSettled
due_settled own node = λ line. tt

pub give_settled : {A : Type 0} (own : ℕ → Type 0) (x : A) → IsSettled own (Give x)
unfolding IsSettled
give_settled own x = tt

asks_settled : (own : ℕ → Type 0) (version n : ℕ) (after : Bool) (forms : List Form) → HaveWords forms → IsSettled own (asks version n after forms)
unfolding IsSettled
asks_settled own version n after forms w = λ line. reads_settled own version n after forms WrongOrder line w

node_settled : (own : ℕ → Type 0) (version n : ℕ) (forms : List Form) → HaveWords forms → IsSettled own (asks_node version n forms)
unfolding IsSettled
node_settled own version n forms w = λ line. reads_settled own version n false forms TreeEndsEarly line w

all_settled : (own : ℕ → Type 0) (version n : ℕ) (after : Bool) (forms : List Form) → HaveWords forms → IsSettled own (asks_all version n after forms)
unfolding asks_all
all_settled own version n after [] w = give_settled own []
all_settled own version n after (form ∷ forms) w =
    settled_then own (asks version n after (form ∷ [])) (λ r. asks_all version (n + 1) false forms >>= (λ rs. Give (r ∷ rs))) (asks_settled own version n after (form ∷ []) (w.0, tt))
    (λ r. settled_then own (asks_all version (n + 1) false forms) (λ rs. Give (r ∷ rs)) (all_settled own version (n + 1) false forms w.1) (λ rs. give_settled own (r ∷ rs)))

claims_settled : (own : ℕ → Type 0) (n : ℕ) (cs : List {1} Claim) → AllDecided cs → IsSettled own (claims n cs)
unfolding claims
claims_settled own n [] d = give_settled own tt
claims_settled own n (c ∷ cs) d = settled_then own (test (n + c.part) c.fault c.holds) (λ x. claims n cs) (test_settled own (n + c.part) c.fault c.holds d.0) (λ x. claims_settled own n cs d.1)

-- ---- trees

leaf_settled : (own : ℕ → Type 0) (p : Problem) (prefix : List Sign) (n : ℕ) (node : Node) → IsDecidedProblem p → IsSettled own (leaf p prefix n node)
leaf_settled own p prefix n Split d = test_settled own n NodeNotAllowed ⊥ (inr (λ h. h))
leaf_settled own p prefix n Flat d = test_settled own n NodeNotAllowed (p.IsClosed prefix) (d.closed prefix)
leaf_settled own p prefix n (CutA shared u) d = settled_then own (test n WrongShape (shared ≡ true → length u ≡ p.count_a)) (λ x. test n BadLeaf (p.RulesOutA prefix u))
    (test_settled own n WrongShape (shared ≡ true → length u ≡ p.count_a) (if_decided (bool_decided shared true) (nat_decided (length u) p.count_a))) (λ x. test_settled own n BadLeaf (p.RulesOutA prefix u) (d.part_a prefix u))
leaf_settled own p prefix n (CutB shared u) d = settled_then own (test n WrongShape (shared ≡ true → length u ≡ p.count_b)) (λ x. test n BadLeaf (p.RulesOutB prefix u))
    (test_settled own n WrongShape (shared ≡ true → length u ≡ p.count_b) (if_decided (bool_decided shared true) (nat_decided (length u) p.count_b))) (λ x. test_settled own n BadLeaf (p.RulesOutB prefix u) (d.part_b prefix u))

asks_leaf_settled : (own : ℕ → Type 0) (version : ℕ) (table : List (List ℤ)) (p : Problem) (n : ℕ) → IsSettled own (asks_leaf version table p n)
asks_leaf_settled own version table p n =
    settled_then own (asks_node version n (node_forms version p.count_a p.count_b (length table))) (λ r. Give (node_of table r)) (node_settled own version n (node_forms version p.count_a p.count_b (length table)) (nodes_have version p.count_a p.count_b (length table))) (λ r. give_settled own (node_of table r))

leaf_then : (own : ℕ → Type 0) (p : Problem) (prefix : List Sign) (n : ℕ) (node : Node) → IsDecidedProblem p → IsSettled own (leaf p prefix n node >>= (λ x. Give (n + 1)))
leaf_then own p prefix n node d = settled_then own (leaf p prefix n node) (λ x. Give (n + 1)) (leaf_settled own p prefix n node d) (λ x. give_settled own (n + 1))

goes_on_settled : (own : ℕ → Type 0) (p : Problem) (prefix : List Sign) (n : ℕ) (node : Node) (children : Course ℕ) → IsDecidedProblem p → IsSettled own children → IsSettled own (goes_on p prefix n node children)
goes_on_settled own p prefix n Split children d c = c
goes_on_settled own p prefix n node children d c = leaf_then own p prefix n node d

pub either_settled : {A : Type 0} (own : ℕ → Type 0) (t : Bool) (this that : Course A) → IsSettled own this → IsSettled own that → IsSettled own (either t this that)
either_settled own true this that p q = p
either_settled own false this that p q = q

pub tree_settled : (own : ℕ → Type 0) (version : ℕ) (table : List (List ℤ)) (p : Problem) (more : ℕ) (prefix : List Sign) (n : ℕ) → IsDecidedProblem p → IsSettled own (asks_tree version table p more prefix n)
unfolding asks_tree
tree_settled own version table p zero prefix n d =
    settled_then own (asks_leaf version table p n) (λ node. leaf p prefix n node >>= (λ x. Give (n + 1))) (asks_leaf_settled own version table p n) (λ node. leaf_then own p prefix n node d)
tree_settled own version table p (suc more) prefix n d =
    settled_then own (asks_leaf version table p n) (λ node. goes_on p prefix n node (children n)) (asks_leaf_settled own version table p n) (λ node. goes_on_settled own p prefix n node (children n) d
    (settled_then own (asks_tree version table p more (prefix ++ Zero ∷ []) (n + 1)) (λ k. asks_tree version table p more (prefix ++ Plus ∷ []) k >>= (λ m. last m)) (tree_settled own version table p more (prefix ++ Zero ∷ []) (n + 1) d)
    (λ k. settled_then own (asks_tree version table p more (prefix ++ Plus ∷ []) k) (λ m. last m) (tree_settled own version table p more (prefix ++ Plus ∷ []) k d)
    (λ m. either_settled own (all_zero prefix) (Give m) (asks_tree version table p more (prefix ++ Minus ∷ []) m) (give_settled own m) (tree_settled own version table p more (prefix ++ Minus ∷ []) m d)))))
  where
    last : ℕ → Course ℕ
    last m = if_signed prefix m (asks_tree version table p more (prefix ++ Minus ∷ []) m)

    children : ℕ → Course ℕ
    children n = asks_tree version table p more (prefix ++ Zero ∷ []) (n + 1) >>= (λ k. asks_tree version table p more (prefix ++ Plus ∷ []) k >>= (λ m. last m))

trees_settled : (own : ℕ → Type 0) (version : ℕ) (table : List (List ℤ)) (ps : List {1} Problem) (n : ℕ) → AreDecidedProblems ps → IsSettled own (asks_trees version table ps n)
unfolding asks_trees
trees_settled own version table [] n d = give_settled own n
trees_settled own version table (p ∷ ps) n d = settled_then own (asks_tree version table p p.choices [] n) (λ m. asks_trees version table ps m) (tree_settled own version table p p.choices [] n d.0) (λ m. trees_settled own version table ps m d.1)

-- ---- blocks

block_settled : {Known : Type 0} (own : ℕ → Type 0) (m : Meaning Known) (Ok : Known → Type 0) (version : ℕ) (table : List (List ℤ)) (q : Question) (at : AfterBlocks Known) → IsDecidedFor m Ok q → Ok at.known → IsSettled own (asks_block m version table q at)
block_settled own m Ok version table q at d ok =
    settled_then own (asks version at.line at.by_tree (heads q (m.shapes at.known).sizes)) (λ head. from_claims m version table q at head) (asks_settled own version at.line at.by_tree (heads q (m.shapes at.known).sizes) (heads_have q (m.shapes at.known).sizes))
    (λ head. settled_then own (claims at.line (m.head_claims q at.known head)) (λ x. from_rows m version table q at head) (claims_settled own at.line (m.head_claims q at.known head) (let g = d.head in g at.known head ok))
    (λ x. settled_then own (asks_all version (at.line + 1) false (below q (m.shapes at.known) head)) (λ rows. from_row_claims m version table q at head rows) (all_settled own version (at.line + 1) false (below q (m.shapes at.known) head) (below_have q (m.shapes at.known) head))
    (λ rows. settled_then own (claims at.line (m.row_claims q at.known head rows)) (λ y. from_trees m version table q at head rows) (claims_settled own at.line (m.row_claims q at.known head rows) (let g = d.rows in g at.known head rows ok))
    (λ y. settled_then own (asks_trees version table (m.problems q at.known head) (at.line + 1 + length rows)) (λ line. Give (after_block m q at head rows line)) (trees_settled own version table (m.problems q at.known head) (at.line + 1 + length rows) (let g = d.trees in g at.known head ok))
    (λ line. give_settled own (after_block m q at head rows line))))))

-- what is known after a block has the property
block_keeps : {Known : Type 0} (m : Meaning Known) (Ok : Known → Type 0) (version : ℕ) (table : List (List ℤ)) (q : Question) (at : AfterBlocks Known) → IsDecidedFor m Ok q → Ok at.known → GivesOnly (λ (after : AfterBlocks Known). Ok after.known) (asks_block m version table q at)
unfolding GivesOnly
block_keeps {Known} m Ok version table q at d ok =
    let Has : AfterBlocks Known → Type 0 = λ after. Ok after.known in
    gives_only_then Has (asks version at.line at.by_tree (heads q (m.shapes at.known).sizes)) (λ head. from_claims m version table q at head) (λ head.
    gives_only_then Has (claims at.line (m.head_claims q at.known head)) (λ x. from_rows m version table q at head) (λ x.
    gives_only_then Has (asks_all version (at.line + 1) false (below q (m.shapes at.known) head)) (λ rows. from_row_claims m version table q at head rows) (λ rows.
    gives_only_then Has (claims at.line (m.row_claims q at.known head rows)) (λ y. from_trees m version table q at head rows) (λ y.
    gives_only_then Has (asks_trees version table (m.problems q at.known head) (at.line + 1 + length rows)) (λ line. Give (after_block m q at head rows line)) (λ line. let g = d.learn in g at.known head rows ok)))))

sections_keep : {Known : Type 0} (Ok : Known → Type 0) (opened : List Record) (at : AfterBlocks Known) → Ok at.known → Ok (after_sections opened at).known
sections_keep Ok [] at ok = ok
sections_keep Ok (r ∷ rs) at ok = ok

pub blocks_settled : {Known : Type 0} (own : ℕ → Type 0) (m : Meaning Known) (Ok : Known → Type 0) (version : ℕ) (table : List (List ℤ)) (built : List Question) (at : AfterBlocks Known) → IsDecidedMeaning m Ok built → Ok at.known → IsSettled own (asks_blocks m version table built at)
unfolding asks_blocks
blocks_settled own m Ok version table [] at d ok = give_settled own at
blocks_settled {Known} own m Ok version table (q ∷ qs) at d ok =
    settled_then own (asks_all version at.line at.by_tree (map section_form (sections version q))) (λ opened. asks_block m version table q (after_sections opened at) >>= (λ after. asks_blocks m version table qs after))
    (all_settled own version at.line at.by_tree (map section_form (sections version q)) (sections_have version q))
    (λ opened. settled_with own (λ (after : AfterBlocks Known). Ok after.known) (asks_block m version table q (after_sections opened at)) (λ after. asks_blocks m version table qs after)
    (block_settled own m Ok version table q (after_sections opened at) d.0 (sections_keep Ok opened at ok)) (block_keeps m Ok version table q (after_sections opened at) d.0 (sections_keep Ok opened at ok))
    (λ after kept. blocks_settled own m Ok version table qs after d.1 kept))

-- ---- the opening

-- the titles of these versions differ
abbrev pub HaveTitles : List ℕ → Type 0
HaveTitles versions = (v w : ℕ) → IsIn v versions → IsIn w versions → title v ≡ title w → v ≡ w

version_settled : (own : ℕ → Type 0) (versions : List ℕ) (first : List ℕ) → HaveTitles versions → IsSettled own (find 1 BadHeader ℕ (λ version. IsIn version versions × (first ≡ title version)))
version_settled own versions first t = find_settled own 1 BadHeader ℕ (λ version. IsIn version versions × (first ≡ title version))
    (by (some_decided (λ version. first ≡ title version) (λ version. bytes_decided first (title version)) versions)) (λ x y p q. t x y p.0 q.0 (sym p.1 ∙ q.1))
  where
    by : IsDecided ((v : ℕ) × IsIn v versions × (first ≡ title v)) → ((v : ℕ) × (IsIn v versions × (first ≡ title v))) ⊎ ((v : ℕ) → IsIn v versions × (first ≡ title v) → ⊥)
    by (inl h) = inl (h.0, (h.1, h.2))
    by (inr h) = inr (λ v p. h (v, p.0, p.1))

-- some number up to a bound
bounded : (P : ℕ → Type 0) → ((n : ℕ) → IsDecided (P n)) → (most : ℕ) → ((n : ℕ) × ((1 ≤ n) × (n ≤ most) × P n)) ⊎ ((n : ℕ) → (1 ≤ n) × (n ≤ most) × P n → ⊥)
bounded P each zero = inr (λ n p. omega (arith, p.0, p.1))
bounded P each (suc most) = by (each (suc most)) (bounded P each most)
  where
    by : IsDecided (P (suc most)) → ((n : ℕ) × ((1 ≤ n) × (n ≤ most) × P n)) ⊎ ((n : ℕ) → (1 ≤ n) × (n ≤ most) × P n → ⊥) → ((n : ℕ) × ((1 ≤ n) × (n ≤ suc most) × P n)) ⊎ ((n : ℕ) → (1 ≤ n) × (n ≤ suc most) × P n → ⊥)
    by (inl h) more = inl (suc most, (omega arith, omega arith, h))
    by (inr h) (inl more) = inl (more.0, (more.1.0, omega (arith, more.1.1), more.1.2))
    by (inr h) (inr more) = inr (λ n p. elim (nat_decided n (suc most)) [ inl same ↦ h (subst P same p.2) | inr other ↦ more n (p.0, omega (arith, other, p.1), p.2) ])

pub count_settled : (own : ℕ → Type 0) (second : List ℕ) → IsSettled own (find 2 BadNetwork ℕ (λ count. (1 ≤ count) × (count ≤ MAX_REACTIONS) × (second ≡ network_line count)))
count_settled own second = find_settled own 2 BadNetwork ℕ (λ count. (1 ≤ count) × (count ≤ MAX_REACTIONS) × (second ≡ network_line count))
    (bounded (λ count. second ≡ network_line count) (λ count. bytes_decided second (network_line count)) MAX_REACTIONS)
    (λ m n p q. decimal_injective m n (omega (arith, p.1)) (omega (arith, q.1)) (append_cancel_left (codes "network ") (decimal m) (decimal n) (sym p.2 ∙ q.2)))

-- a network whose canonical text the lines are is the one that they spell
spelled_by : (lines : List (List ℕ)) (net : Net) → IsNetworkOf lines net → Spells (ended lines) net
spelled_by lines net p = subst (λ t. Spells t net) p.1 (spells_its_network net p.0)

pub network_settled : (own : ℕ → Type 0) (n : ℕ) (lines : List (List ℕ)) → IsSettled own (find n BadNetwork Net (IsNetworkOf lines))
network_settled own n lines = find_settled own n BadNetwork Net (IsNetworkOf lines) decided (λ x y p q. spelling_unique (ended lines) x y (spelled_by lines x p) (spelled_by lines y q))
  where
    decided : ((net : Net) × IsNetworkOf lines net) ⊎ ((net : Net) → IsNetworkOf lines net → ⊥)
    decided = elim (judged (ended lines)) [
      | inl spelled ↦ elim (bytes_decided (canonical spelled.0) (ended lines)) [
        | inl same ↦ inl (spelled.0, ((let p = spelled.1 in p.network), same))
        | inr other ↦ inr (λ net p. other (ap canonical (sym (spelling_unique (ended lines) net spelled.0 (spelled_by lines net p) spelled.1)) ∙ p.1))
      ]
      | inr fault ↦ inr (λ net p. no_fault (ended lines) net fault.0 fault.1 (spelled_by lines net p) fault.2)
    ]

pub lines_settled : (own : ℕ → Type 0) (n : ℕ) → IsSettled own (asks_lines n)
unfolding asks_lines
lines_settled own zero = give_settled own []
lines_settled own (suc n) = settled_then own (due false) (λ line. asks_lines n >>= (λ lines. Give (line ∷ lines))) (due_settled own false) (λ line. settled_then own (asks_lines n) (λ lines. Give (line ∷ lines)) (lines_settled own n) (λ lines. give_settled own (line ∷ lines)))

table_settled : (own : ℕ → Type 0) (version n : ℕ) → IsSettled own (asks_table version n)
table_settled own version n = either_settled own (version == 2) _ (Give [])
    (settled_then own (asks version n false (table_form ∷ [])) (λ head. asks_all version (n + 1) false (replicate (first_number head.numbers) vector_form) >>= (λ rows. Give (head ∷ rows))) (asks_settled own version n false (table_form ∷ []) table_has)
    (λ head. settled_then own (asks_all version (n + 1) false (replicate (first_number head.numbers) vector_form)) (λ rows. Give (head ∷ rows)) (all_settled own version (n + 1) false (replicate (first_number head.numbers) vector_form) (vectors_have (first_number head.numbers))) (λ rows. give_settled own (head ∷ rows))))
    (give_settled own [])

pub ends_settled : (own : ℕ → Type 0) → IsSettled own ends
unfolding IsSettled
ends_settled own = tt

-- ---- the document

-- the network of these lines is one
network_found : (n : ℕ) (lines : List (List ℕ)) → GivesOnly IsNetwork (find n BadNetwork Net (IsNetworkOf lines))
unfolding GivesOnly
network_found n lines = λ net p. p.0

pub course_settled : {Known : Type 0} (own : ℕ → Type 0) (m : Meaning Known) (Ok : Known → Type 0) (versions : List ℕ) (built : List Question) → ((net : Net) → IsNetwork net → Ok (m.start net)) → IsDecidedMeaning m Ok built → HaveTitles versions → IsSettled own (course m versions built)
course_settled {Known} own m Ok versions built starts d t =
    settled_then own (due false) (λ first. c1 first) (due_settled own false) (λ first.
    settled_then own (find 1 BadHeader ℕ (λ version. IsIn version versions × (first ≡ title version))) (λ version. c2 version) (version_settled own versions first t) (λ version.
    settled_then own (due false) (λ second. c3 version second) (due_settled own false) (λ second.
    settled_then own (find 2 BadNetwork ℕ (λ count. (1 ≤ count) × (count ≤ MAX_REACTIONS) × (second ≡ network_line count))) (λ count. c4 version count) (count_settled own second) (λ count.
    settled_then own (asks_lines count) (λ lines. c5 version count lines) (lines_settled own count) (λ lines.
    settled_with own IsNetwork (find (2 + count) BadNetwork Net (IsNetworkOf lines)) (λ net. c6 version count net) (network_settled own (2 + count) lines) (network_found (2 + count) lines) (λ net is.
    settled_then own (asks_table version (3 + count)) (λ table. c7 version count net table) (table_settled own version (3 + count)) (λ table.
    settled_then own (asks_blocks m version (lists_of table) built (start count net table)) (λ after. c8 version net after) (blocks_settled own m Ok version (lists_of table) built (start count net table) d (starts net is)) (λ after.
    settled_then own (asks version after.line after.by_tree (end_form ∷ [])) (λ last. c9 net after) (asks_settled own version after.line after.by_tree (end_form ∷ []) end_has) (λ last.
    settled_then own ends (λ x. Give (read net after)) (ends_settled own) (λ x. give_settled own (read net after)))))))))))
  where
    start : ℕ → Net → List Record → AfterBlocks Known
    start count net table = record { known = m.start net; by_tree = false; line = 3 + count + length table; blocks = [] }

    read : Net → AfterBlocks Known → ReadOf
    read net after = record { net = net; blocks = after.blocks }

    c9 : Net → AfterBlocks Known → Course ReadOf
    c9 net after = ends >>= (λ x. Give (read net after))

    c8 : ℕ → Net → AfterBlocks Known → Course ReadOf
    c8 version net after = asks version after.line after.by_tree (end_form ∷ []) >>= (λ last. c9 net after)

    c7 : ℕ → ℕ → Net → List Record → Course ReadOf
    c7 version count net table = asks_blocks m version (lists_of table) built (start count net table) >>= (λ after. c8 version net after)

    c6 : ℕ → ℕ → Net → Course ReadOf
    c6 version count net = asks_table version (3 + count) >>= (λ table. c7 version count net table)

    c5 : ℕ → ℕ → List (List ℕ) → Course ReadOf
    c5 version count lines = find (2 + count) BadNetwork Net (IsNetworkOf lines) >>= (λ net. c6 version count net)

    c4 : ℕ → ℕ → Course ReadOf
    c4 version count = asks_lines count >>= (λ lines. c5 version count lines)

    c3 : ℕ → List ℕ → Course ReadOf
    c3 version second = find 2 BadNetwork ℕ (λ count. (1 ≤ count) × (count ≤ MAX_REACTIONS) × (second ≡ network_line count)) >>= (λ count. c4 version count)

    c2 : ℕ → Course ReadOf
    c2 version = due false >>= (λ second. c3 version second)

    c1 : List ℕ → Course ReadOf
    c1 first = find 1 BadHeader ℕ (λ version. IsIn version versions × (first ≡ title version)) >>= (λ version. c2 version)
