-- Each row of system 5 has an entry for each species and one for the level.
use Rattle.crn_shape.proofs.Prelude.{◌≡◌, ◌+◌, ℕ, List, [], ◌∷◌, length, map, ap, ◌∙◌, arith, ℤ, pos, negsuc, Option, AllByRecursion, length-append, IsIn, Net, IsNetwork, IsVector, reaction_vector, Pair, complex_row, pair_row, shelf_matrix, all_append, all_in, all_map, at_in, in_map, reaction_long, LinkedPair, AreForShape, IsPairIn, ends_of, pair_of, shape_of}

complex_wide : (net : Net) → IsNetwork net → (y : List ℤ) → IsIn y net.complexes → length (complex_row y) ≡ length net.names + 1
complex_wide net n y i =
    let v : IsVector (length net.names) y = all_in (IsVector (length net.names)) net.complexes y n.partial.vectors i in
    omega (arith, length-append y (negsuc 0 ∷ []), v.0)

pair_wide : (net : Net) (tops : List (Option ℕ)) (count : ℕ) (pairs : List LinkedPair) → IsNetwork net → (p : LinkedPair) → IsPairIn net p → length (pair_row (shape_of net tops count pairs) (pair_of net p)) ≡ length net.names + 1
pair_wide net tops count pairs n p h =
    let long = reaction_long net n (ends_of net p.reaction) (at_in net.reactions p.reaction (0, 0) h.inside) in
    omega (arith, length-append (reaction_vector net (ends_of net p.reaction)) (pos 0 ∷ []), long)

pub widths : (net : Net) (tops : List (Option ℕ)) (count : ℕ) (pairs : List LinkedPair) → IsNetwork net → AreForShape net tops count pairs → AllByRecursion (λ row. length row ≡ length net.names + 1) (shelf_matrix (shape_of net tops count pairs)).rows
widths net tops count pairs n a =
    let s = shape_of net tops count pairs in
    let wide = λ (row : List ℤ). length row ≡ length net.names + 1 in
    all_append wide (map complex_row net.complexes) (map (pair_row s) (map (pair_of net) pairs))
    (all_map wide complex_row net.complexes (λ y i. complex_wide net n y i))
    (all_map wide (pair_row s) (map (pair_of net) pairs) (λ q i.
    let p = in_map (pair_of net) pairs q i in
    ap (λ (t : Pair). length (pair_row s t)) p.2 ∙ pair_wide net tops count pairs n p.0 (all_in (IsPairIn net) pairs p.0 a.pairs_in p.1)))
