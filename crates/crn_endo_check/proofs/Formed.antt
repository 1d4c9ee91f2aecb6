-- Valid trees of narrow numbers have the form that lines may have.
use Rattle.crn_endo_check.proofs.Prelude.{◌≡◌, ◌≢◌, ℕ, zero, suc, ◌+◌, ◌<◌, inl, inr, List, [], ◌∷◌, ◌++◌, length, get_or, replicate, true, refl, sym, ap, subst, ◌∙◌, arith, not, ◌==◌, AllByRecursion, filter, range_with_len, false≢true, eq-eqb, Sign, Zero, Plus, Minus, Free, IsIn, IsAscending, NamesWide, width, Net, IsNetwork, is_signed, kind_at, above_ascending, above_in, all_at, eq_or, filter_ascending, first_goes, first_stays, range_ascending, IsBasisOf, Plan, Both, Three, RulesA, RulesB, Level, IsFormedTree, IsValid, AreNarrow, formed_tree, wide_basis, reaction_at, is_reactant, others, reactants, slope_matrix, slopes, AreFormedTrees, AreValidTrees, CutsPartA, row_count}
use Rattle.crn_endo_check.proofs.Against.{in_reactants, not_eqb}
use Rattle.crn_endo_check.proofs.SlopeLawful.{slope_width}

-- ---- the further complexes are all reactant complexes but one

all_stay : (y : ℕ) (xs : List ℕ) → (IsIn y xs → ⊥) → length (filter (λ c. not (c == y)) xs) ≡ length xs
all_stay y [] out = refl
all_stay y (x ∷ xs) out = ap length (first_stays (λ c. not (c == y)) x xs (not_eqb x y (λ e. out (inl (sym e))))) ∙ ap suc (all_stay y xs (λ i. out (inr i)))

one_goes : (y : ℕ) (xs : List ℕ) → IsAscending xs → IsIn y xs → suc (length (filter (λ c. not (c == y)) xs)) ≡ length xs
one_goes y [] up i = absurd i
one_goes y (x ∷ xs) up i = elim (eq_or x y) as (λ _. suc (length (filter (λ c. not (c == y)) (x ∷ xs))) ≡ length (x ∷ xs)) [
  | inl e ↦ ap suc (ap length (first_goes (λ c. not (c == y)) x xs (ap not (eq-eqb x y e))) ∙ all_stay y xs (λ j. omega (arith, e, above_in x xs up y j)))
  | inr ne ↦ ap suc (ap length (first_stays (λ c. not (c == y)) x xs (not_eqb x y ne)) ∙ one_goes y xs (above_ascending x xs up) (elim i [ inl e ↦ absurd (ne (sym e)) | inr j ↦ j ]))
]

pub others_count : (net : Net) → IsNetwork net → (r : ℕ) → r < length net.reactions → suc (length (others net r)) ≡ length (reactants net)
others_count net n r lt =
    one_goes (reaction_at net r).0 (reactants net) (filter_ascending (is_reactant net) (range_with_len 0 (length net.complexes)) (range_ascending 0 (length net.complexes))) (in_reactants net n r lt)

pub rows_counted : (net : Net) → IsNetwork net → (r : ℕ) → r < length net.reactions → length (slope_matrix net r).rows ≡ row_count net
rows_counted net n r lt = omega (arith, slope_width net r, others_count net n r lt)

-- ---- nothing is required of part B, so that no cut excludes it

frees_are_free : (n k : ℕ) → kind_at (replicate n Free) k ≡ Free
frees_are_free zero k = refl
frees_are_free (suc n) zero = refl
frees_are_free (suc n) (suc k) = frees_are_free n k

cuts_part_a : (net : Net) (r : ℕ) (p : List Sign) (tree : Plan) → IsValid (slopes net r) p tree → CutsPartA tree
cuts_part_a net r p (Both z q) v = (cuts_part_a net r (p ++ Zero ∷ []) z v.2, cuts_part_a net r (p ++ Plus ∷ []) q v.3)
cuts_part_a net r p (Three z q m) v = (cuts_part_a net r (p ++ Zero ∷ []) z v.2, cuts_part_a net r (p ++ Plus ∷ []) q v.3, cuts_part_a net r (p ++ Minus ∷ []) m v.4)
cuts_part_a net r p (RulesA u) v = tt
cuts_part_a net r p (RulesB u) v = let h = v.1.some in false≢true (sym (ap is_signed (frees_are_free (width (slope_matrix net r)) h.0)) ∙ h.1)
cuts_part_a net r p Level v = tt

-- ---- trees, and the basis of a wide vector

pub trees_formed : (net : Net) → IsNetwork net → (trees : List Plan) → AreValidTrees net trees → AllByRecursion AreNarrow trees → AreFormedTrees net trees
trees_formed net n trees v narrow = record {
  count = v.count;
  each = λ r lt.
      let tree = get_or trees r Level in
      let w = slopes net r in
      let formed : IsFormedTree w.choices (length w.matrix_a.rows) (length w.matrix_b.rows) [] tree = formed_tree w [] tree (v.each r lt) (all_at AreNarrow trees r Level narrow (omega (arith, lt, v.count))) in
      (subst (λ (m : ℕ). IsFormedTree w.choices m m [] tree) (rows_counted net n r lt) formed, cuts_part_a net r [] tree (v.each r lt));
}

pub slope_basis : (net : Net) → IsNetwork net → (r index : ℕ) (basis : List ℕ) → r < length net.reactions → NamesWide (slope_matrix net r) index basis → IsBasisOf (length net.names) (row_count net) index basis
slope_basis net n r index basis lt h = wide_basis (slope_matrix net r) (length net.names) (row_count net) index basis refl (rows_counted net n r lt) h
