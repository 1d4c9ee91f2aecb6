-- The complexes and reactions with those of a statement, as amounts, are those of the tables.
use Rattle.crn_net.proofs.Prelude.{◌≡◌, ℕ, ◌<◌, ◌≤◌, ◌&&◌, ◌==◌, Bool, List, [], ◌∷◌, ◌++◌, length, get_or, take, map, refl, sym, ap, ap₂, ◌∙◌, append_assoc, inl, inr, arith, ℤ, Decides, int_eq, pointwise, signed_items, length-map, map_push, get_or-map, length_push, get_or_default, IsIn, AreDistinct, firsts, IsPartialNetwork, JoinsTwo, sides_of, sides_eq, amounts_in, said_by, Statement, MAX_SPECIES, MAX_COMPLEXES, net_of, vectors_of, IsRow, AreRows, with_zeros, both_with_zeros, Puts, IsRowFor, PutsBoth, LeftIsOver, RightIsOver, map_same, map_distinct, all_in, all_push, at_in, same_place, in_push, firsts_map, firsts_firsts, firsts_length, reaction_decides, same_test, pair, distinct_of_map, sides_decide}
use Rattle.crn_net.proofs.Rows.{row_ext, row_wider, row_with_zeros, vectors_with_zeros, puts_distinct, puts_firsts, puts_all, puts_keeps, puts_longer}

rows_wider : (n m : ℕ) (rows : List (List ℤ)) → n ≤ m → AreRows n rows → AreRows m rows
rows_wider n m [] le h = tt
rows_wider n m (row ∷ rows) le h = (row_wider n m row le h.0, rows_wider n m rows le h.1)

-- ---- complexes

-- a vector put in, as a row is
vectors_put : (m : ℕ) (old new : List (List ℤ)) (x : List ℤ) → AreRows m old → IsRow m x → AreDistinct old → Puts old x new → firsts (pointwise int_eq) (vectors_of m old ++ take m x ∷ []) ≡ vectors_of m new
vectors_put m old new x rows row d p =
    let all : AreRows m (old ++ x ∷ []) = all_push (IsRow m) old x rows row in
    let test : (a b : List ℤ) → IsIn a (old ++ x ∷ []) → IsIn b (old ++ x ∷ []) → pointwise int_eq (take m a) (take m b) ≡ pointwise int_eq a b = λ a b i j.
    same_test (pointwise int_eq (take m a) (take m b)) (pointwise int_eq a b) (take m a ≡ take m b) (a ≡ b) (signed_items (take m a) (take m b)) (signed_items a b)
    (row_ext m a b (all_in (IsRow m) (old ++ x ∷ []) a all i) (all_in (IsRow m) (old ++ x ∷ []) b all j)) (ap (take m)) in
    ap (firsts (pointwise int_eq)) (sym (map_push (take m) old x)) ∙ firsts_map (pointwise int_eq) (pointwise int_eq) (take m) (old ++ x ∷ []) test ∙ ap (vectors_of m) (puts_firsts (pointwise int_eq) signed_items old new x d p)

-- the tables before a statement
pub record Ready (names : List (List ℕ)) (rows : List (List ℤ)) (reactions : List (ℕ × ℕ)) : Type 0 where
  pub network : IsPartialNetwork (net_of names rows reactions)
  pub padded : AreRows (length names) rows

-- a wider network, which the tables hold too
pub record Wider (names names' : List (List ℕ)) : Type 0 where
  pub least : length names ≤ length names'
  pub most : length names' ≤ MAX_SPECIES

first_complex : (names : List (List ℕ)) (rows : List (List ℤ)) (reactions : List (ℕ × ℕ)) (names' : List (List ℕ)) (side : List (List ℕ × ℕ)) (left : List ℤ) (middle : List (List ℤ)) → Ready names rows reactions → Wider names names' → IsRowFor names' side left → Puts rows left middle
    → firsts (pointwise int_eq) (map (with_zeros (length names')) (vectors_of (length names) rows) ++ amounts_in names' side ∷ []) ≡ vectors_of (length names') middle
first_complex names rows reactions names' side left middle ready wide row p =
    let n = length names in
    let m = length names' in
    let e : map (with_zeros m) (vectors_of n rows) ≡ vectors_of m rows = vectors_with_zeros n m rows wide.least wide.most ready.padded in
    ap (λ (t : List (List ℤ)). firsts (pointwise int_eq) (t ++ amounts_in names' side ∷ [])) e
    ∙ ap (λ (t : List ℤ). firsts (pointwise int_eq) (vectors_of m rows ++ t ∷ [])) (sym row.amounts)
    ∙ vectors_put m rows middle left (rows_wider n m rows wide.least ready.padded) row.is (distinct_of_map (take n) rows ready.network.complexes) p

split_two : {A : Type 0} (xs : List A) (a b : A) → xs ++ a ∷ b ∷ [] ≡ (xs ++ a ∷ []) ++ b ∷ []
split_two xs a b = sym (append_assoc xs (a ∷ []) (b ∷ []))

second_complex : (names : List (List ℕ)) (rows : List (List ℤ)) (reactions : List (ℕ × ℕ)) (names' : List (List ℕ)) (s : Statement) (left right : List ℤ) (middle rows' : List (List ℤ)) → Ready names rows reactions → Wider names names'
    → IsRowFor names' s.0 left → IsRowFor names' s.1 right → Puts rows left middle → Puts middle right rows'
    → firsts (pointwise int_eq) (map (with_zeros (length names')) (vectors_of (length names) rows) ++ amounts_in names' s.0 ∷ amounts_in names' s.1 ∷ []) ≡ vectors_of (length names') rows'
second_complex names rows reactions names' s left right middle rows' ready wide l r p q =
    let n = length names in
    let m = length names' in
    let prefix = map (with_zeros m) (vectors_of n rows) ++ amounts_in names' s.0 ∷ [] in
    let rows_are = rows_wider n m rows wide.least ready.padded in
    let d = distinct_of_map (take n) rows ready.network.complexes in
    ap (firsts (pointwise int_eq)) (split_two (map (with_zeros m) (vectors_of n rows)) (amounts_in names' s.0) (amounts_in names' s.1))
    ∙ sym (firsts_firsts (pointwise int_eq) signed_items prefix (amounts_in names' s.1 ∷ []))
    ∙ ap (λ (t : List (List ℤ)). firsts (pointwise int_eq) (t ++ amounts_in names' s.1 ∷ [])) (first_complex names rows reactions names' s.0 left middle ready wide l p)
    ∙ ap (λ (t : List ℤ). firsts (pointwise int_eq) (vectors_of m middle ++ t ∷ [])) (sym r.amounts)
    ∙ vectors_put m middle rows' right (puts_all (IsRow m) rows middle left rows_are l.is p) r.is (puts_distinct rows middle left d p) q

pub complexes_are : (names : List (List ℕ)) (rows : List (List ℤ)) (reactions : List (ℕ × ℕ)) (names' : List (List ℕ)) (s : Statement) (y z : ℕ) (rows' : List (List ℤ)) → Ready names rows reactions → Wider names names' → PutsBoth names' s rows y z rows'
    → firsts (pointwise int_eq) (map (with_zeros (length names')) (vectors_of (length names) rows) ++ amounts_in names' s.0 ∷ amounts_in names' s.1 ∷ []) ≡ vectors_of (length names') rows'
complexes_are names rows reactions names' s y z rows' ready wide b = second_complex names rows reactions names' s b.left b.right b.middle rows' ready wide b.left_row b.right_row b.first b.second

pub left_over_limit : (names : List (List ℕ)) (rows : List (List ℤ)) (reactions : List (ℕ × ℕ)) (names' : List (List ℕ)) (s : Statement) → Ready names rows reactions → Wider names names' → LeftIsOver names' s rows
    → MAX_COMPLEXES < length (firsts (pointwise int_eq) (map (with_zeros (length names')) (vectors_of (length names) rows) ++ amounts_in names' s.0 ∷ amounts_in names' s.1 ∷ []))
left_over_limit names rows reactions names' s ready wide o =
    let xs = map (with_zeros (length names')) (vectors_of (length names) rows) in
    let e = ap length (first_complex names rows reactions names' s.0 o.left (rows ++ o.left ∷ []) ready wide o.left_row (inr (o.fresh, refl))) in
    let two = ap (λ (t : List (List ℤ)). length (firsts (pointwise int_eq) t)) (split_two xs (amounts_in names' s.0) (amounts_in names' s.1)) in
    let more = firsts_length (pointwise int_eq) (xs ++ amounts_in names' s.0 ∷ []) (amounts_in names' s.1 ∷ []) in
    let count = length-map (rows ++ o.left ∷ []) (take (length names')) in
    let long = length_push rows o.left in
    omega (arith, e, two, more, count, long, o.full)

pub right_over_limit : (names : List (List ℕ)) (rows : List (List ℤ)) (reactions : List (ℕ × ℕ)) (names' : List (List ℕ)) (s : Statement) → Ready names rows reactions → Wider names names' → RightIsOver names' s rows
    → MAX_COMPLEXES < length (firsts (pointwise int_eq) (map (with_zeros (length names')) (vectors_of (length names) rows) ++ amounts_in names' s.0 ∷ amounts_in names' s.1 ∷ []))
right_over_limit names rows reactions names' s ready wide o =
    let e = ap length (second_complex names rows reactions names' s o.left o.right o.middle (o.middle ++ o.right ∷ []) ready wide o.left_row o.right_row o.first (inr (o.fresh, refl))) in
    let count = length-map (o.middle ++ o.right ∷ []) (take (length names')) in
    let long = length_push o.middle o.right in
    omega (arith, e, count, long, o.full)

-- ---- rows after both are put in

pub rows_distinct : (names : List (List ℕ)) (rows : List (List ℤ)) (reactions : List (ℕ × ℕ)) (names' : List (List ℕ)) (s : Statement) (y z : ℕ) (rows' : List (List ℤ)) → Ready names rows reactions → Wider names names' → PutsBoth names' s rows y z rows' → AreDistinct rows' × AreRows (length names') rows'
rows_distinct names rows reactions names' s y z rows' ready wide b =
    let n = length names in
    let m = length names' in
    let d = puts_distinct rows b.middle b.left (distinct_of_map (take n) rows ready.network.complexes) b.first in
    let a = puts_all (IsRow m) rows b.middle b.left (rows_wider n m rows wide.least ready.padded) b.left_row.is b.first in
    (puts_distinct b.middle rows' b.right d b.second, puts_all (IsRow m) b.middle rows' b.right a b.right_row.is b.second)

pub vectors_distinct : (names : List (List ℕ)) (rows : List (List ℤ)) (reactions : List (ℕ × ℕ)) (names' : List (List ℕ)) (s : Statement) (y z : ℕ) (rows' : List (List ℤ)) → Ready names rows reactions → Wider names names' → PutsBoth names' s rows y z rows' → AreDistinct (vectors_of (length names') rows')
vectors_distinct names rows reactions names' s y z rows' ready wide b =
    let m = length names' in
    let d = rows_distinct names rows reactions names' s y z rows' ready wide b in
    map_distinct (take m) rows' d.0 (λ p q i j e. row_ext m p q (all_in (IsRow m) rows' p d.1 i) (all_in (IsRow m) rows' q d.1 j) e)

-- ---- reactions

abbrev pub pair_same : ℕ × ℕ → ℕ × ℕ → Bool
pair_same a b = (a.0 == b.0) && (a.1 == b.1)

pub pair_decides : (a b : ℕ × ℕ) → Decides (pair_same a b) (a ≡ b)
pair_decides a b = reaction_decides b a

-- rows stay at their places
pub both_keep : (names : List (List ℕ)) (s : Statement) (rows : List (List ℤ)) (y z : ℕ) (rows' : List (List ℤ)) (k : ℕ) → PutsBoth names s rows y z rows' → k < length rows → (get_or rows' k [] ≡ get_or rows k []) × (k < length rows')
both_keep names s rows y z rows' k b lt =
    let first = puts_longer rows b.middle b.left b.first in
    let second = puts_longer b.middle rows' b.right b.second in
    (puts_keeps b.middle rows' b.right [] k b.second (omega arith) ∙ puts_keeps rows b.middle b.left [] k b.first lt, omega arith)

pub left_found : (names : List (List ℕ)) (s : Statement) (rows : List (List ℤ)) (y z : ℕ) (rows' : List (List ℤ)) (b : PutsBoth names s rows y z rows') → (get_or rows' y [] ≡ b.left) × (y < length rows')
left_found names s rows y z rows' b =
    let second = puts_longer b.middle rows' b.right b.second in
    let lt = b.left_in in
    (puts_keeps b.middle rows' b.right [] y b.second lt ∙ get_or_default b.middle y [] b.left lt ∙ b.left_at, omega arith)

pub right_found : (names : List (List ℕ)) (s : Statement) (rows : List (List ℤ)) (y z : ℕ) (rows' : List (List ℤ)) (b : PutsBoth names s rows y z rows') → get_or rows' z [] ≡ b.right
right_found names s rows y z rows' b = get_or_default rows' z [] b.right b.right_in ∙ b.right_at

vector_at : (m : ℕ) (rows : List (List ℤ)) (c : ℕ) → c < length rows → get_or (vectors_of m rows) c [] ≡ take m (get_or rows c [])
vector_at m rows c lt = get_or-map (take m) rows c [] [] lt

-- the sides of an old reaction get zeros for the new names
old_sides : (names : List (List ℕ)) (rows : List (List ℤ)) (reactions : List (ℕ × ℕ)) (names' : List (List ℕ)) (s : Statement) (y z : ℕ) (rows' : List (List ℤ)) → Ready names rows reactions → Wider names names' → PutsBoth names' s rows y z rows' → (c : ℕ) → c < length rows
    → with_zeros (length names') (get_or (vectors_of (length names) rows) c []) ≡ get_or (vectors_of (length names') rows') c []
old_sides names rows reactions names' s y z rows' ready wide b c lt =
    let n = length names in
    let m = length names' in
    let keep = both_keep names' s rows y z rows' c b lt in
    let row = all_in (IsRow n) rows (get_or rows c []) ready.padded (at_in rows c [] lt) in
    ap (with_zeros m) (vector_at n rows c lt) ∙ row_with_zeros n m (get_or rows c []) wide.least wide.most row ∙ ap (take m) (sym keep.0) ∙ sym (vector_at m rows' c keep.1)

pub reactions_are : (names : List (List ℕ)) (rows : List (List ℤ)) (reactions : List (ℕ × ℕ)) (names' : List (List ℕ)) (s : Statement) (y z : ℕ) (rows' : List (List ℤ)) (reactions' : List (ℕ × ℕ)) → Ready names rows reactions → Wider names names' → PutsBoth names' s rows y z rows'
    → Puts reactions (y, z) reactions'
    → firsts sides_eq (map (λ r. both_with_zeros (length names') (sides_of (net_of names rows reactions) r)) reactions ++ said_by names' s ∷ []) ≡ map (sides_of (net_of names' rows' reactions')) reactions'
reactions_are names rows reactions names' s y z rows' reactions' ready wide b p =
    let n = length names in
    let m = length names' in
    let new = net_of names' rows' reactions' in
    let count : length (vectors_of n rows) ≡ length rows = length-map rows (take n) in
    let count' : length (vectors_of m rows') ≡ length rows' = length-map rows' (take m) in
    let apart : (r : ℕ × ℕ) → IsIn r reactions → (r.0 < length rows) × (r.1 < length rows) = λ r i. let j = all_in (JoinsTwo (length (vectors_of n rows))) reactions r ready.network.apart i in (omega (arith, count, j.1), omega (arith, count, j.2)) in
    let old : map (λ r. both_with_zeros m (sides_of (net_of names rows reactions) r)) reactions ≡ map (sides_of new) reactions =
    map_same (λ r. both_with_zeros m (sides_of (net_of names rows reactions) r)) (sides_of new) reactions
    (λ r i. ap₂ pair (old_sides names rows reactions names' s y z rows' ready wide b r.0 (apart r i).0) (old_sides names rows reactions names' s y z rows' ready wide b r.1 (apart r i).1)) in
    let l = left_found names' s rows y z rows' b in
    let said : said_by names' s ≡ sides_of new (y, z) =
    ap₂ pair (sym (vector_at m rows' y l.1 ∙ ap (take m) l.0 ∙ b.left_row.amounts)) (sym (vector_at m rows' z b.right_in ∙ ap (take m) (right_found names' s rows y z rows' b) ∙ b.right_row.amounts)) in
    let places : (r : ℕ × ℕ) → IsIn r (reactions ++ (y, z) ∷ []) → (r.0 < length (vectors_of m rows')) × (r.1 < length (vectors_of m rows')) = λ r i. elim (in_push r reactions (y, z) i) [
      | inl a ↦ let q = apart r a in let e = (both_keep names' s rows y z rows' r.0 b q.0).1 in let f = (both_keep names' s rows y z rows' r.1 b q.1).1 in (omega (arith, count', e), omega (arith, count', f))
      | inr e ↦ let a = ap (λ (t : ℕ × ℕ). t.0) e in let f = ap (λ (t : ℕ × ℕ). t.1) e in (omega (arith, count', l.1, a), omega (arith, count', b.right_in, f))
    ] in
    let vectors : AreDistinct (vectors_of m rows') = vectors_distinct names rows reactions names' s y z rows' ready wide b in
    let test : (x t : ℕ × ℕ) → IsIn x (reactions ++ (y, z) ∷ []) → IsIn t (reactions ++ (y, z) ∷ []) → sides_eq (sides_of new x) (sides_of new t) ≡ pair_same x t = λ x t i j.
    same_test (sides_eq (sides_of new x) (sides_of new t)) (pair_same x t) (sides_of new x ≡ sides_of new t) (x ≡ t) (sides_decide (sides_of new x) (sides_of new t)) (pair_decides x t)
    (λ e. ap₂ pair
    (same_place (vectors_of m rows') x.0 t.0 [] vectors (places x i).0 (places t j).0 (ap (λ (u : List ℤ × List ℤ). u.0) e))
    (same_place (vectors_of m rows') x.1 t.1 [] vectors (places x i).1 (places t j).1 (ap (λ (u : List ℤ × List ℤ). u.1) e)))
    (ap (sides_of new)) in
    ap₂ (λ (t : List (List ℤ × List ℤ)) (u : List ℤ × List ℤ). firsts sides_eq (t ++ u ∷ [])) old said
    ∙ ap (firsts sides_eq) (sym (map_push (sides_of new) reactions (y, z)))
    ∙ firsts_map pair_same sides_eq (sides_of new) (reactions ++ (y, z) ∷ []) test
    ∙ ap (map (sides_of new)) (puts_firsts pair_same pair_decides reactions reactions' (y, z) ready.network.reactions p)
