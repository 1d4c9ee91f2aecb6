-- The kinds of the coordinates of part A, and the rows of system 5.
use Rattle.crn_shape.proofs.Prelude.{◌≡◌, ℕ, ◌+◌, ◌-◌, ◌<◌, ◌≤◌, List, [], ◌∷◌, ◌++◌, length, map, get_or, take, drop, sym, ap, ◌∙◌, arith, None, get_or-map, get_or_append_left, get_or-append_right, length-map, length-append, Sign, Kind, Free, row_kinds, width, kind_at, Shape, complex_row, pair_row, pair_kind, shelf_kinds, shelf_matrix, top_kind, length-rows, no_pair}

-- ---- kinds

columns_long : (s : Shape) (p : List Sign) → length (row_kinds s.species (drop s.count p) ++ Free ∷ []) ≡ s.species + 1
columns_long s p = length-append (row_kinds s.species (drop s.count p)) (Free ∷ []) ∙ ap (λ (n : ℕ). n + 1) (length-rows s.species (drop s.count p))

abbrev complexes_of : Shape → List Sign → List Kind
complexes_of s p = map (top_kind (take s.count p)) s.tops

abbrev pairs_of : Shape → List Sign → List Kind
pairs_of s p = map (pair_kind (take s.count p)) s.pairs

pub species_kind : (s : Shape) (p : List Sign) (k : ℕ) → k < s.species → kind_at (row_kinds s.species (drop s.count p)) k ≡ kind_at (shelf_kinds s p) k
species_kind s p k lt =
    let rows = row_kinds s.species (drop s.count p) in
    sym (get_or_append_left rows (Free ∷ []) Free k (omega (arith, lt, length-rows s.species (drop s.count p))))
    ∙ sym (get_or_append_left (rows ++ Free ∷ []) (complexes_of s p ++ pairs_of s p) Free k (omega (arith, lt, columns_long s p)))

pub level_kind : (s : Shape) (p : List Sign) (k : ℕ) → k ≡ s.species → Free ≡ kind_at (shelf_kinds s p) k
level_kind s p k e =
    let rows = row_kinds s.species (drop s.count p) in
    let zero : k - s.species ≡ 0 = omega (arith, e) in
    ap (λ (n : ℕ). get_or (Free ∷ []) n Free) (sym zero)
    ∙ sym (get_or-append_right rows (Free ∷ []) s.species k Free (length-rows s.species (drop s.count p)) (omega (arith, e)))
    ∙ sym (get_or_append_left (rows ++ Free ∷ []) (complexes_of s p ++ pairs_of s p) Free k (omega (arith, e, columns_long s p)))

-- the kind of a row
row_kind : (s : Shape) (p : List Sign) (k row : ℕ) → s.species + 1 ≤ k → row ≡ k - (s.species + 1) → get_or (complexes_of s p ++ pairs_of s p) row Free ≡ kind_at (shelf_kinds s p) k
row_kind s p k row le e =
    ap (λ (n : ℕ). get_or (complexes_of s p ++ pairs_of s p) n Free) e
    ∙ sym (get_or-append_right (row_kinds s.species (drop s.count p) ++ Free ∷ []) (complexes_of s p ++ pairs_of s p) (s.species + 1) k Free (columns_long s p) le)

pub complex_kind : (s : Shape) (p : List Sign) (k row : ℕ) → s.species + 1 ≤ k → row ≡ k - (s.species + 1) → row < length s.tops → top_kind (take s.count p) (get_or s.tops row None) ≡ kind_at (shelf_kinds s p) k
complex_kind s p k row le e lt =
    sym (get_or-map (top_kind (take s.count p)) s.tops row None Free lt)
    ∙ sym (get_or_append_left (complexes_of s p) (pairs_of s p) Free row (omega (arith, lt, length-map s.tops (top_kind (take s.count p)))))
    ∙ row_kind s p k row le e

pub linked_kind : (s : Shape) (p : List Sign) (k row i : ℕ) → s.species + 1 ≤ k → row ≡ k - (s.species + 1) → length s.tops ≤ row → i ≡ row - length s.tops → i < length s.pairs → pair_kind (take s.count p) (get_or s.pairs i no_pair) ≡ kind_at (shelf_kinds s p) k
linked_kind s p k row i le e past f lt =
    sym (get_or-map (pair_kind (take s.count p)) s.pairs i no_pair Free lt)
    ∙ ap (λ (n : ℕ). get_or (pairs_of s p) n Free) f
    ∙ sym (get_or-append_right (complexes_of s p) (pairs_of s p) (length s.tops) row Free (length-map s.tops (top_kind (take s.count p))) past)
    ∙ row_kind s p k row le e

-- there is a kind for each coordinate
pub shelf_kinds_long : (s : Shape) (p : List Sign) → length s.tops ≡ length s.complexes → length (shelf_kinds s p) ≡ width (shelf_matrix s)
shelf_kinds_long s p even =
    omega (
      arith,
      even,
      columns_long s p,
      length-append (row_kinds s.species (drop s.count p) ++ Free ∷ []) (complexes_of s p ++ pairs_of s p),
      length-append (complexes_of s p) (pairs_of s p),
      length-map s.tops (top_kind (take s.count p)),
      length-map s.pairs (pair_kind (take s.count p)),
      length-append (map complex_row s.complexes) (map (pair_row s) s.pairs),
      length-map s.complexes complex_row,
      length-map s.pairs (pair_row s),
    )

-- ---- rows

pub rows_are : (s : Shape) → length (shelf_matrix s).rows ≡ length s.complexes + length s.pairs
rows_are s = length-append (map complex_row s.complexes) (map (pair_row s) s.pairs) ∙ counts (length-map s.complexes complex_row) (length-map s.pairs (pair_row s))
  where
    counts : {a b c d : ℕ} → a ≡ b → c ≡ d → a + c ≡ b + d
    counts e f = omega (arith, e, f)

pub complex_row_at : (s : Shape) (row : ℕ) → row < length s.complexes → complex_row (get_or s.complexes row []) ≡ get_or (shelf_matrix s).rows row []
complex_row_at s row lt =
    sym (get_or-map complex_row s.complexes row [] [] lt)
    ∙ sym (get_or_append_left (map complex_row s.complexes) (map (pair_row s) s.pairs) [] row (omega (arith, lt, length-map s.complexes complex_row)))

pub pair_row_at : (s : Shape) (row i : ℕ) → length s.complexes ≤ row → i ≡ row - length s.complexes → i < length s.pairs → pair_row s (get_or s.pairs i no_pair) ≡ get_or (shelf_matrix s).rows row []
pair_row_at s row i le e lt =
    sym (get_or-map (pair_row s) s.pairs i no_pair [] lt)
    ∙ ap (λ (n : ℕ). get_or (map (pair_row s) s.pairs) n []) e
    ∙ sym (get_or-append_right (map complex_row s.complexes) (map (pair_row s) s.pairs) (length s.complexes) row [] (length-map s.complexes complex_row) le)
