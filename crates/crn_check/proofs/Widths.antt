-- The vectors of reactions have an entry for each species, and combinations of them are zero past these.
use Rattle.crn_check.proofs.Prelude.{◌≡◌, inl, inr, ℕ, zero, suc, ◌<◌, ◌≤◌, List, [], ◌∷◌, length, get_or, map, refl, ap, ◌∙◌, arith, ℤ, pos, ◌*ℤ◌, AllByRecursion, *ℤ-zero, IsIn, Net, IsNetwork, reaction_vector, entry, column, combination_at, vectors, at_in, dot_zero, reaction_long, vectors_count, width_at, column_past}

pub vector_width : (net : Net) → IsNetwork net → (r : ℕ) → r < length net.reactions → length (reaction_vector net (get_or net.reactions r (0, 0))) ≡ length net.names
vector_width net n r lt = reaction_long net n (get_or net.reactions r (0, 0)) (at_in net.reactions r (0, 0) lt)

-- no combination of vectors has an entry past their width
pub combination_past : (c : List ℤ) (vs : List (List ℤ)) (n s : ℕ) → ((j : ℕ) → j < length vs → length (get_or vs j []) ≡ n) → n ≤ s → combination_at c vs s ≡ pos 0
combination_past c vs n s h le = dot_zero c (column vs s) (λ i. ap (λ (x : ℤ). entry c i *ℤ x) (column_past vs n s h le i) ∙ *ℤ-zero (entry c i))

-- ---- all reactions

pub widths_of_all : (net : Net) → IsNetwork net → (j : ℕ) → j < length (vectors net) → length (get_or (vectors net) j []) ≡ length net.names
widths_of_all net n j lt = width_at net n j (omega (arith, lt, vectors_count net))

pub all_reactions : (net : Net) (P : List ℤ → Type 0) → ((r : ℕ) → r < length net.reactions → P (reaction_vector net (get_or net.reactions r (0, 0)))) → AllByRecursion P (vectors net)
all_reactions net P h = go net.reactions h
  where
    go : (rs : List (ℕ × ℕ)) → ((r : ℕ) → r < length rs → P (reaction_vector net (get_or rs r (0, 0)))) → AllByRecursion P (map (reaction_vector net) rs)
    go [] h = tt
    go (e ∷ rs) h = (h 0 (omega arith), go rs (λ r lt. h (suc r) (omega (arith, lt))))

pub each_reaction : (net : Net) (P : List ℤ → Type 0) → AllByRecursion P (vectors net) → (r : ℕ) → r < length net.reactions → P (reaction_vector net (get_or net.reactions r (0, 0)))
each_reaction net P h r lt = go net.reactions h r lt
  where
    go : (rs : List (ℕ × ℕ)) → AllByRecursion P (map (reaction_vector net) rs) → (r : ℕ) → r < length rs → P (reaction_vector net (get_or rs r (0, 0)))
    go [] h r lt = absurd (omega arith)
    go (e ∷ rs) h zero lt = h.0
    go (e ∷ rs) h (suc r) lt = go rs h.1 r (omega (arith, lt))

pub vector_in : (net : Net) (r : ℕ) → r < length net.reactions → IsIn (reaction_vector net (get_or net.reactions r (0, 0))) (vectors net)
vector_in net r lt = go net.reactions r lt
  where
    go : (rs : List (ℕ × ℕ)) (r : ℕ) → r < length rs → IsIn (reaction_vector net (get_or rs r (0, 0))) (map (reaction_vector net) rs)
    go [] r lt = absurd (omega arith)
    go (e ∷ rs) zero lt = inl refl
    go (e ∷ rs) (suc r) lt = inr (go rs r (omega (arith, lt)))

pub place_of_vector : (net : Net) (v : List ℤ) → IsIn v (vectors net) → (r : ℕ) × (r < length net.reactions) × (v ≡ reaction_vector net (get_or net.reactions r (0, 0)))
place_of_vector net v h = go net.reactions h
  where
    go : (rs : List (ℕ × ℕ)) → IsIn v (map (reaction_vector net) rs) → (r : ℕ) × (r < length rs) × (v ≡ reaction_vector net (get_or rs r (0, 0)))
    go [] h = absurd h
    go (e ∷ rs) (inl is) = (0, omega arith, is)
    go (e ∷ rs) (inr later) = let f = go rs later in (suc f.0, omega (arith, f.1), f.2)
