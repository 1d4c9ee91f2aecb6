-- The entries of the sum of the reaction vectors with weights.
use Rattle.crn_render.proofs.Prelude.{◌≡◌, ◌<◌, ◌∙◌, ℕ, List, [], length, get_or, ap, arith, ℤ, pos, map, range_with_len, get_or-map, length-map, get_or-range_with_len, length-range_with_len, Net, dot, column, vectors, sigma}

-- the sum has an entry for each species
pub sigma_count : (net : Net) (weights : List ℤ) → length (sigma net weights) ≡ length net.names
sigma_count net weights = simp (length-map, length-range_with_len)

-- the entry of a species is the sum of its entries with the weights
pub sigma_entry : (net : Net) (weights : List ℤ) (s : ℕ) → s < length net.names → get_or (sigma net weights) s (pos 0) ≡ dot (column (vectors net) s) weights
sigma_entry net weights s lt =
    let columns = map (column (vectors net)) (range_with_len 0 (length net.names)) in
    let many : s < length (range_with_len 0 (length net.names)) = simp length-range_with_len lt in
    let many' : s < length columns = simp (length-map, length-range_with_len) lt in
    let at : get_or (range_with_len 0 (length net.names)) s 0 ≡ s = get_or-range_with_len 0 (length net.names) s 0 lt ∙ omega arith in
    get_or-map (λ (row : List ℤ). dot row weights) columns s [] (pos 0) many'
    ∙ ap (λ (row : List ℤ). dot row weights) (get_or-map (column (vectors net)) (range_with_len 0 (length net.names)) s 0 [] many ∙ ap (column (vectors net)) at)
