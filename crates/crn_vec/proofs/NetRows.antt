-- The rows of the systems of a network: how long they are, and what combinations of its vectors have past the species.
use Rattle.crn_vec.proofs.Prelude.{◌≡◌, ℕ, zero, suc, ◌<◌, ◌≤◌, List, [], ◌∷◌, length, get_or, refl, sym, ap, ◌∙◌, arith, ℤ, pos, ◌*ℤ◌, length-map, ext_get_or, IsIn, Net, IsNetwork, JoinsTwo, reaction_vector, entry, dot, column, vectors, by_species}
use lib.IntN.{*ℤ-zero}
use Rattle.crn_vec.proofs.Lists.{all_at, all_in, at_in, same_place}
use Rattle.crn_vec.proofs.Sums.{dot_zero}
use Rattle.crn_vec.proofs.Carried.{vector_long, entry-column, length-column}
use Rattle.crn_vec.proofs.NetTables.{length-minus, vector_at, row_is, rows_count, none_past}

-- the vector of a reaction has an entry for each species
pub reaction_long : (net : Net) → IsNetwork net → (r : ℕ × ℕ) → IsIn r net.reactions → length (reaction_vector net r) ≡ length net.names
reaction_long net n r i =
    let j : JoinsTwo (length net.complexes) r = all_in (JoinsTwo (length net.complexes)) net.reactions r n.partial.apart i in
    length-minus (length net.names) (get_or net.complexes r.1 []) (get_or net.complexes r.0 [])
    (vector_long (length net.names) net.complexes n.partial.vectors r.1 j.2) (vector_long (length net.names) net.complexes n.partial.vectors r.0 j.1)

pub vectors_count : (net : Net) → length (vectors net) ≡ length net.reactions
vectors_count net = length-map net.reactions (reaction_vector net)

-- a vector of the network is as long as there are species
pub vector_width : (net : Net) → IsNetwork net → (r : ℕ) → r < length net.reactions → length (get_or (vectors net) r []) ≡ length net.names
vector_width net n r lt = ap length (vector_at net r lt) ∙ reaction_long net n (get_or net.reactions r (0, 0)) (at_in net.reactions r (0, 0) lt)

-- a column of the second system
pub column_is : (net : Net) → IsNetwork net → (r : ℕ) → r < length net.reactions → column (by_species net (vectors net)) r ≡ get_or (vectors net) r []
column_is net n r lt =
    let rows = by_species net (vectors net) in
    let long : length (column rows r) ≡ length net.names = length-column rows r ∙ rows_count net in
    ext_get_or (pos 0) (column rows r) (get_or (vectors net) r []) (long ∙ sym (vector_width net n r lt))
    (λ s l. entry-column rows r s ∙ ap (λ (row : List ℤ). entry row r) (row_is net s (omega (arith, l, long))) ∙ entry-column (vectors net) s r)

pub combined_past : (net : Net) → IsNetwork net → (z : List ℤ) (s : ℕ) → length net.names ≤ s → dot z (column (vectors net) s) ≡ pos 0
combined_past net n z s le = dot_zero z (column (vectors net) s) (λ i. ap (λ (t : ℤ). entry z i *ℤ t) (none_past net n s i le) ∙ *ℤ-zero (entry z i))

-- a network has a species, as its first reaction joins two different complexes
pub some_species : (net : Net) → IsNetwork net → 1 ≤ length net.names
some_species net n = by_count (length net.names) refl
  where
    none : (xs : List ℤ) → length xs ≡ 0 → xs ≡ []
    none [] e = refl
    none (x ∷ xs) e = absurd (omega (arith, e))

    by_count : (s : ℕ) → length net.names ≡ s → 1 ≤ length net.names
    by_count zero e =
        let r = get_or net.reactions 0 (0, 0) in
        let j : JoinsTwo (length net.complexes) r = all_at (JoinsTwo (length net.complexes)) net.reactions 0 (0, 0) n.partial.apart n.some in
        let one : get_or net.complexes r.0 [] ≡ [] = none (get_or net.complexes r.0 []) (vector_long (length net.names) net.complexes n.partial.vectors r.0 j.1 ∙ e) in
        let two : get_or net.complexes r.1 [] ≡ [] = none (get_or net.complexes r.1 []) (vector_long (length net.names) net.complexes n.partial.vectors r.1 j.2 ∙ e) in
        absurd (j.0 (same_place net.complexes r.0 r.1 [] n.partial.complexes j.1 j.2 (one ∙ sym two)))
    by_count (suc s) e = omega (arith, e)
