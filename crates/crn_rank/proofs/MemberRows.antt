-- The rows of the members: how many, how long, and one after another in a list.
use Rattle.crn_rank.proofs.Prelude.{◌≡◌, ℕ, ◌-◌, ◌*◌, ◌≤◌, inl, inr, List, [], ◌∷◌, length, get_or, refl, ap, ap₂, ◌∙◌, arith, suc, ℤ, flat_map, mul-le-mul_right, IsIn, Net, IsNetwork, JoinsTwo, Mat, mat_of, MAX_REACTIONS, all_at, length-minus, vector_long, rows_after, above_few, vector_of, AreMembers, member_matrix}

-- ---- how many members

pub members_few : (net : Net) (members : List ℕ) → AreMembers net members → length members ≤ length net.reactions
members_few net [] h = omega arith
members_few net (x ∷ xs) h =
    let most = length net.reactions in
    let r = above_few xs x (suc most) h.ascending (λ y i. let e = (h.each y (inr i)).1 in omega (arith, e)) (let e = (h.each x (inl refl)).1 in omega (arith, e)) in
    omega (arith, r, (h.each x (inl refl)).0)

-- so many rows of so many entries are few
pub entries_few : (net : Net) (members : List ℕ) → IsNetwork net → AreMembers net members → length members * length net.names ≤ MAX_REACTIONS * length net.names
entries_few net members n h = mul-le-mul_right (length net.names) (let l : length members ≤ MAX_REACTIONS = omega (arith, members_few net members h, n.partial.reactions_limit) in l)

-- ---- how long a row is

-- the vector of a reaction has an entry for each species
pub vector_width : (net : Net) (members : List ℕ) (r : ℕ) → IsNetwork net → AreMembers net members → IsIn r members → length (vector_of net r) ≡ length net.names
vector_width net members r n h i =
    let b = h.each r i in
    let q = get_or net.reactions (r - 1) (0, 0) in
    let j : JoinsTwo (length net.complexes) q = all_at (JoinsTwo (length net.complexes)) net.reactions (r - 1) (0, 0) n.partial.apart (omega (arith, b.0, b.1)) in
    length-minus (length net.names) (get_or net.complexes q.1 []) (get_or net.complexes q.0 [])
    (vector_long (length net.names) net.complexes n.partial.vectors q.1 j.2) (vector_long (length net.names) net.complexes n.partial.vectors q.0 j.1)

-- ---- rows one after another

-- the entries of the members' vectors make the matrix of the members
pub matrix_of : (net : Net) (members : List ℕ) (s : ℕ) (xs : List ℤ) → IsNetwork net → AreMembers net members → s ≡ length net.names → xs ≡ flat_map (vector_of net) members
    → mat_of (length members) s xs ≡ member_matrix net members
matrix_of net members s xs n h same is =
    ap₂ (λ (k : ℕ) (ys : List ℤ). mat_of (length members) k ys) same is
    ∙ ap (λ (rows : List (List ℤ)). let a : Mat = record { cols = length net.names; rows = rows } in a)
    (rows_after (length net.names) (vector_of net) members (λ r i. vector_width net members r n h i))

-- ---- answers
