-- The tests of a formed tree hold if and only if the tree is valid.
use Rattle.crn_cert.proofs.Prelude.{ℕ, ◌+◌, List, [], ◌∷◌, ◌++◌, Sign, Zero, Plus, Minus, Signed, AllHold, Plan, Both, Three, node_count, IsFormedTree, IsValid, Fits, tree_tests, TestsDecideValidTrees}
use Rattle.crn_cert.proofs.TestLists.{hold_append, hold_parts}

valid_tests : (w : Signed) (part : ℕ) (p : List Sign) (t : Plan) → IsValid w p t → AllHold (tree_tests (Fits w) part p t)
valid_tests w part p (Both z q) v = (
  v.0,
  hold_append (tree_tests (Fits w) (part + 1) (p ++ Zero ∷ []) z) (tree_tests (Fits w) (part + 1 + node_count z) (p ++ Plus ∷ []) q)
      (valid_tests w (part + 1) (p ++ Zero ∷ []) z v.2) (valid_tests w (part + 1 + node_count z) (p ++ Plus ∷ []) q v.3),
)
valid_tests w part p (Three z q m) v =
    let last = part + 1 + node_count z + node_count q in (
      v.0,
      hold_append (tree_tests (Fits w) (part + 1) (p ++ Zero ∷ []) z ++ tree_tests (Fits w) (part + 1 + node_count z) (p ++ Plus ∷ []) q) (tree_tests (Fits w) last (p ++ Minus ∷ []) m)
          (hold_append (tree_tests (Fits w) (part + 1) (p ++ Zero ∷ []) z) (tree_tests (Fits w) (part + 1 + node_count z) (p ++ Plus ∷ []) q)
          (valid_tests w (part + 1) (p ++ Zero ∷ []) z v.2) (valid_tests w (part + 1 + node_count z) (p ++ Plus ∷ []) q v.3))
          (valid_tests w last (p ++ Minus ∷ []) m v.4),
    )
valid_tests w part p t v = (v, tt)

tests_valid : (w : Signed) (a b part : ℕ) (p : List Sign) (t : Plan) → IsFormedTree w.choices a b p t → AllHold (tree_tests (Fits w) part p t) → IsValid w p t
tests_valid w a b part p (Both z q) f t =
    let s = hold_parts (tree_tests (Fits w) (part + 1) (p ++ Zero ∷ []) z) (tree_tests (Fits w) (part + 1 + node_count z) (p ++ Plus ∷ []) q) t.1 in
    (t.0, f.1, tests_valid w a b (part + 1) (p ++ Zero ∷ []) z f.2 s.0, tests_valid w a b (part + 1 + node_count z) (p ++ Plus ∷ []) q f.3 s.1)
tests_valid w a b part p (Three z q m) f t =
    let last = part + 1 + node_count z + node_count q in
    let s = hold_parts (tree_tests (Fits w) (part + 1) (p ++ Zero ∷ []) z ++ tree_tests (Fits w) (part + 1 + node_count z) (p ++ Plus ∷ []) q) (tree_tests (Fits w) last (p ++ Minus ∷ []) m) t.1 in
    let r = hold_parts (tree_tests (Fits w) (part + 1) (p ++ Zero ∷ []) z) (tree_tests (Fits w) (part + 1 + node_count z) (p ++ Plus ∷ []) q) s.0 in
    (t.0, f.1, tests_valid w a b (part + 1) (p ++ Zero ∷ []) z f.2 r.0, tests_valid w a b (part + 1 + node_count z) (p ++ Plus ∷ []) q f.3 r.1, tests_valid w a b last (p ++ Minus ∷ []) m f.4 s.1)
tests_valid w a b part p t0 f t = t.0

pub tests_decide_valid_trees : TestsDecideValidTrees
tests_decide_valid_trees w a b part p t f = (λ h. tests_valid w a b part p t f h, λ v. valid_tests w part p t v)
