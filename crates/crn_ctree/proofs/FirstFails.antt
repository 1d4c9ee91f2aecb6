-- The first node of a formed tree that does not fit is the first of the tree's tests that fails.
use Rattle.crn_ctree.proofs.Prelude.{◌≡◌, ℕ, ◌+◌, ◌⊎◌, inl, inr, List, [], ◌∷◌, ◌++◌, length, refl, sym, ap, subst, ◌∙◌, arith, append_assoc, append-nil, Sign, Zero, Plus, Minus, Signed, Plan, Both, Three, RulesA, RulesB, Level, IsFormedTree, node_count, Said, Splits, Flats, CutsA, CutsB, nodes, Fits, rest_after, Passing, done, then, Test, test, AllHold, FailsFirst, tree_tests, hold_append, first, code_at, FirstFaultsAreThoseOfTests, Fault, BadLeaf, NodeNotAllowed, fault_number}
use Rattle.crn_ctree.proofs.NodeLaws.{children_zero, children_some}

-- ---- lists of tests

fails_left : (xs ys : List Test) (part code : ℕ) → FailsFirst xs part code → FailsFirst (xs ++ ys) part code
fails_left [] ys part code h = absurd h
fails_left (t ∷ xs) ys part code (inl h) = inl h
fails_left (t ∷ xs) ys part code (inr h) = inr (h.0, fails_left xs ys part code h.1)

fails_right : (xs ys : List Test) (part code : ℕ) → AllHold xs → FailsFirst ys part code → FailsFirst (xs ++ ys) part code
fails_right [] ys part code a h = h
fails_right (t ∷ xs) ys part code a h = inr (a.0, fails_right xs ys part code a.1 h)

-- ---- nodes that fit, against a tree

-- the nodes end within the tree, and if the next one fails, so does its test
abbrev Within : Signed → List Test → ℕ → List Said → List (List Sign) → Type 0
Within w tests part tail due = (node : Said) (more : List Said) → tail ≡ node ∷ more → (Fits w (first due) node → ⊥) → FailsFirst tests part (code_at node)

-- the tree's nodes are among them, all its tests hold, and the others fit after it
pub record Past (w : Signed) (tests : List Test) (count : ℕ) (rest : List (List Sign)) (start tail after : List Said) (due : List (List Sign)) : Type 0 where
  pub others : List Said
  pub count_is : length start ≡ count + length others
  pub hold : AllHold tests
  pub passes : Passing w rest others due
  pub are : after ≡ others ++ tail

abbrev Ends : Signed → List Test → ℕ → ℕ → List (List Sign) → List Said → List Said → List Said → List (List Sign) → Type 0
Ends w tests part count rest start tail after due = Within w tests (part + length start) tail due ⊎ Past w tests count rest start tail after due

recount : (w : Signed) (tests : List Test) (part a b : ℕ) (rest : List (List Sign)) (start tail after : List Said) (due : List (List Sign)) → a ≡ b → Ends w tests part a rest start tail after due → Ends w tests part b rest start tail after due
recount w tests part a b rest start tail after due e h = subst (λ (n : ℕ). Ends w tests part n rest start tail after due) e h

repart : (w : Signed) (tests : List Test) (a b count : ℕ) (rest : List (List Sign)) (start tail after : List Said) (due : List (List Sign)) → a ≡ b → Ends w tests a count rest start tail after due → Ends w tests b count rest start tail after due
repart w tests a b count rest start tail after due e h = subst (λ (n : ℕ). Ends w tests n count rest start tail after due) e h

-- the kind of fault of a node that does not fit
abbrev fault_at : Said → Fault
fault_at Splits = NodeNotAllowed
fault_at Flats = NodeNotAllowed
fault_at (CutsA u) = BadLeaf
fault_at (CutsB u) = BadLeaf

number_at : (node : Said) → fault_number (fault_at node) ≡ code_at node
number_at Splits = refl
number_at Flats = refl
number_at (CutsA u) = refl
number_at (CutsB u) = refl

-- one node
one_node : (w : Signed) (part : ℕ) (p : List Sign) (rest : List (List Sign)) (node : Said) (start tail after : List Said) (due : List (List Sign)) → node ∷ after ≡ start ++ tail → Passing w (p ∷ rest) start due
    → Ends w (test part (fault_at node) (Fits w p node) ∷ []) part 1 (rest_after p rest node) start tail after due
one_node w part p rest node [] tail after due h done = inl (λ n more g bad.
    let e : node ≡ n = cc in
    inl ((λ t. bad (subst (λ (s : Said). Fits w p s) e t)), omega arith, number_at node ∙ ap code_at e))
one_node w part p rest node (x ∷ start) tail after due h (then fits g) =
    let e : x ≡ node = cc in
    let t : after ≡ start ++ tail = cc in
    inr (record { others = start; count_is = omega arith; hold = (subst (λ (s : Said). Fits w p s) e fits, tt); passes = subst (λ (s : Said). Passing w (rest_after p rest s) start due) e g; are = t })

-- some nodes, and then others
then_ends : (w : Signed) (one two : List Test) (part a b : ℕ) (mid rest : List (List Sign)) (start tail between after : List Said) (due : List (List Sign)) → Ends w one part a mid start tail between due
    → ((others : List Said) → Passing w mid others due → between ≡ others ++ tail → Ends w two (part + a) b rest others tail after due) → Ends w (one ++ two) part (a + b) rest start tail after due
then_ends w one two part a b mid rest start tail between after due (inl within) next = inl (λ n more g bad. fails_left one two (part + length start) (code_at n) (within n more g bad))
then_ends w one two part a b mid rest start tail between after due (inr past) next = elim (next past.others past.passes past.are) as (λ _. Ends w (one ++ two) part (a + b) rest start tail after due) [
  | inl within ↦ inl (λ n more g bad.
      let e : part + a + length past.others ≡ part + length start = omega (arith, past.count_is) in
      fails_right one two (part + length start) (code_at n) past.hold (subst (λ (k : ℕ). FailsFirst two k (code_at n)) e (within n more g bad)))
  | inr more ↦ inr (record { others = more.others; count_is = omega (arith, past.count_is, more.count_is); hold = hold_append one two past.hold more.hold; passes = more.passes; are = more.are })
]

ends : (w : Signed) (ra rb part : ℕ) (tree : Plan) (p : List Sign) (rest : List (List Sign)) (start tail after : List Said) (due : List (List Sign)) → IsFormedTree w.choices ra rb p tree → nodes tree ++ after ≡ start ++ tail → Passing w (p ∷ rest) start due
    → Ends w (tree_tests (Fits w) part p tree) part (node_count tree) rest start tail after due
ends w ra rb part (RulesA u) p rest start tail after due f h g = one_node w part p rest (CutsA u) start tail after due h g
ends w ra rb part (RulesB u) p rest start tail after due f h g = one_node w part p rest (CutsB u) start tail after due h g
ends w ra rb part Level p rest start tail after due f h g = one_node w part p rest Flats start tail after due h g
ends w ra rb part (Both z q) p rest start tail after due f h g =
    let zs = tree_tests (Fits w) (part + 1) (p ++ Zero ∷ []) z in
    let qs = tree_tests (Fits w) (part + 1 + node_count z) (p ++ Plus ∷ []) q in
    recount w (tree_tests (Fits w) part p (Both z q)) part (1 + (node_count z + node_count q)) (node_count (Both z q)) rest start tail after due (omega arith)
    (then_ends w (test part NodeNotAllowed (Fits w p Splits) ∷ []) (zs ++ qs) part 1 (node_count z + node_count q) (rest_after p rest Splits) rest start tail ((nodes z ++ nodes q) ++ after) after due (one_node w part p rest Splits start tail ((nodes z ++ nodes q) ++ after) due h g)
    (λ others go e. then_ends w zs qs (part + 1) (node_count z) (node_count q) ((p ++ Plus ∷ []) ∷ rest) rest others tail (nodes q ++ after) after due
    (ends w ra rb (part + 1) z (p ++ Zero ∷ []) ((p ++ Plus ∷ []) ∷ rest) others tail (nodes q ++ after) due f.2 (sym (append_assoc (nodes z) (nodes q) after) ∙ e) (subst (λ (d : List (List Sign)). Passing w d others due) (children_zero p rest f.1) go))
    (λ others' go' e'. ends w ra rb (part + 1 + node_count z) q (p ++ Plus ∷ []) rest others' tail after due f.3 e' go')))
ends w ra rb part (Three z q m) p rest start tail after due f h g =
    let zs = tree_tests (Fits w) (part + 1) (p ++ Zero ∷ []) z in
    let qs = tree_tests (Fits w) (part + 1 + node_count z) (p ++ Plus ∷ []) q in
    let ms = tree_tests (Fits w) (part + 1 + node_count z + node_count q) (p ++ Minus ∷ []) m in
    let two = node_count z + node_count q in
    let between = (nodes z ++ nodes q ++ nodes m) ++ after in
    recount w (tree_tests (Fits w) part p (Three z q m)) part (1 + (two + node_count m)) (node_count (Three z q m)) rest start tail after due (omega arith)
    (then_ends w (test part NodeNotAllowed (Fits w p Splits) ∷ []) ((zs ++ qs) ++ ms) part 1 (two + node_count m) (rest_after p rest Splits) rest start tail between after due (one_node w part p rest Splits start tail between due h g)
    (λ others go e. then_ends w (zs ++ qs) ms (part + 1) two (node_count m) ((p ++ Minus ∷ []) ∷ rest) rest others tail (nodes m ++ after) after due
    (then_ends w zs qs (part + 1) (node_count z) (node_count q) ((p ++ Plus ∷ []) ∷ (p ++ Minus ∷ []) ∷ rest) ((p ++ Minus ∷ []) ∷ rest) others tail (nodes q ++ (nodes m ++ after)) (nodes m ++ after) due
    (ends w ra rb (part + 1) z (p ++ Zero ∷ []) ((p ++ Plus ∷ []) ∷ (p ++ Minus ∷ []) ∷ rest) others tail (nodes q ++ (nodes m ++ after)) due f.2
    (sym (append_assoc (nodes z) (nodes q) (nodes m ++ after)) ∙ sym (append_assoc (nodes z ++ nodes q) (nodes m) after) ∙ e) (subst (λ (d : List (List Sign)). Passing w d others due) (children_some p rest f.1) go))
    (λ others' go' e'. ends w ra rb (part + 1 + node_count z) q (p ++ Plus ∷ []) ((p ++ Minus ∷ []) ∷ rest) others' tail (nodes m ++ after) due f.3 e' go'))
    (λ last go'' e''. repart w ms (part + 1 + node_count z + node_count q) (part + 1 + two) (node_count m) rest last tail after due (omega arith)
    (ends w ra rb (part + 1 + node_count z + node_count q) m (p ++ Minus ∷ []) rest last tail after due f.4 e'' go''))))

no_rest : (others : List Said) (node : Said) (more : List Said) → [] ≡ others ++ node ∷ more → ⊥
no_rest [] node more e = absurd cc
no_rest (x ∷ others) node more e = absurd cc

pub first_faults : FirstFaultsAreThoseOfTests
first_faults w ra rb part tree start more node due formed are passes bad = elim (ends w ra rb part tree [] [] start (node ∷ more) [] due formed (append-nil (nodes tree) ∙ are) passes) as (λ _. FailsFirst (tree_tests (Fits w) part [] tree) (part + length start) (code_at node)) [
  | inl within ↦ within node more refl bad
  | inr past ↦ absurd (no_rest past.others node more past.are)
]
