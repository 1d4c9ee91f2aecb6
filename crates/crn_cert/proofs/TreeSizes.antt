-- Trees by their prefixes: as many nodes as prefixes, and a valid tree of narrow numbers is formed.
use Rattle.crn_cert.proofs.Prelude.{◌≡◌, List, [], ◌∷◌, ◌++◌, length, refl, arith, Sign, Zero, Plus, Minus, Signed, cut_long, Plan, Both, Three, RulesA, RulesB, Level, places, node_count, IsValid, AreNarrow, IsFormedTree}
use Rattle.std.proofs.Common.{length-append}

-- a tree has as many nodes as prefixes
pub count_places : (p : List Sign) (t : Plan) → length (places p t) ≡ node_count t
count_places p (Both z q) =
    let a = places (p ++ Zero ∷ []) z in
    let b = places (p ++ Plus ∷ []) q in
    omega (arith, length-append a b, count_places (p ++ Zero ∷ []) z, count_places (p ++ Plus ∷ []) q)
count_places p (Three z q m) =
    let a = places (p ++ Zero ∷ []) z in
    let b = places (p ++ Plus ∷ []) q in
    let c = places (p ++ Minus ∷ []) m in
    omega (arith, length-append (a ++ b) c, length-append a b, count_places (p ++ Zero ∷ []) z, count_places (p ++ Plus ∷ []) q, count_places (p ++ Minus ∷ []) m)
count_places p t = refl

-- a valid tree of narrow numbers is formed
pub formed_tree : (w : Signed) (p : List Sign) (t : Plan) → IsValid w p t → AreNarrow t → IsFormedTree w.choices (length w.matrix_a.rows) (length w.matrix_b.rows) p t
formed_tree w p (Both z q) v n = (v.0, v.1, formed_tree w (p ++ Zero ∷ []) z v.2 n.0, formed_tree w (p ++ Plus ∷ []) q v.3 n.1)
formed_tree w p (Three z q m) v n = (v.0, v.1, formed_tree w (p ++ Zero ∷ []) z v.2 n.0, formed_tree w (p ++ Plus ∷ []) q v.3 n.1, formed_tree w (p ++ Minus ∷ []) m v.4 n.2)
formed_tree w p (RulesA u) v n = record { long = cut_long w.matrix_a (w.kinds_a p) u v; each = n }
formed_tree w p (RulesB u) v n = record { long = cut_long w.matrix_b (w.kinds_b p) u v; each = n }
formed_tree w p Level v n = tt
