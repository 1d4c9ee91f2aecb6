-- The rank of a network is from 1 to the lesser of the numbers of its species and of its reactions.
use Rattle.crn_solve.proofs.Prelude.{◌≡◌, ℕ, ◌<◌, ◌≤◌, inl, inr, List, [], ◌∷◌, length, get_or, refl, sym, ap, ◌∙◌, arith, ℤ, pos, min, length-map, IsIn, Net, IsNetwork, JoinsTwo, entry, AreOfLength, IsChoice, IsRank, chosen, vectors, all_at, same_place, vector_long, lt_or, ascending_few, few_independent, same_if_none, one_independent, IsFrom, vectors_count, vector_at, vector_width}

-- ---- ascending numbers below n are at most n

-- ---- independent vectors of n entries are at most n

chosen_long : (n : ℕ) (vs : List (List ℤ)) (places : List ℕ) → ((k : ℕ) → IsIn k places → length (get_or vs k []) ≡ n) → AreOfLength n (chosen places vs)
chosen_long n vs [] h = tt
chosen_long n vs (p ∷ places) h = (h p (inl refl), chosen_long n vs places (λ k i. h k (inr i)))

-- ---- a reaction vector is not zero, and so one alone is independent

vector_nonzero : (net : Net) → IsNetwork net → (r : ℕ) → r < length net.reactions → ((k : ℕ) → entry (get_or (vectors net) r []) k ≡ pos 0) → ⊥
vector_nonzero net n r lt h =
    let q = get_or net.reactions r (0, 0) in
    let j : JoinsTwo (length net.complexes) q = all_at (JoinsTwo (length net.complexes)) net.reactions r (0, 0) n.partial.apart lt in
    let to = get_or net.complexes q.1 [] in
    let from = get_or net.complexes q.0 [] in
    let long : length to ≡ length from = vector_long (length net.names) net.complexes n.partial.vectors q.1 j.2 ∙ sym (vector_long (length net.names) net.complexes n.partial.vectors q.0 j.1) in
    let same : to ≡ from = same_if_none to from long (λ k. ap (λ (v : List ℤ). entry v k) (sym (vector_at net r lt)) ∙ h k) in
    j.0 (same_place net.complexes q.0 q.1 [] n.partial.complexes j.1 j.2 (sym same))

-- ---- the rank

pub rank_from : (net : Net) (s : ℕ) → IsNetwork net → IsRank (vectors net) s → IsFrom 1 (min (length net.names) (length net.reactions)) s
rank_from net s n r =
    let vs = vectors net in
    let count = vectors_count net in
    let first : 0 < length net.reactions = omega (arith, n.some) in
    let one : IsChoice (length vs) (0 ∷ []) = record { ascending = tt; below = λ k i. elim i [ inl e ↦ omega (arith, e, first, count) | inr f ↦ absurd f ] } in
    let some : 1 ≤ s = elim (lt_or 0 s) as (λ _. 1 ≤ s) [
      | inl lt ↦ omega (arith, lt)
      | inr le ↦ absurd (r.greatest (0 ∷ []) one (omega (arith, le)) (one_independent (get_or vs 0 []) (vector_nonzero net n 0 first)))
    ] in
    let by_reactions : length r.places ≤ length vs = ascending_few r.places (length vs) r.choice.ascending r.choice.below in
    let wide : AreOfLength (length net.names) (chosen r.places vs) = chosen_long (length net.names) vs r.places (λ k i. vector_width net n k (omega (arith, r.choice.below k i, count))) in
    let by_species : length (chosen r.places vs) ≤ length net.names = few_independent (length net.names) (chosen r.places vs) wide r.independent in
    let places : length (chosen r.places vs) ≡ length r.places = length-map r.places (λ k. get_or vs k []) in
    (some, omega (arith, by_reactions, by_species, places, r.count, count))
