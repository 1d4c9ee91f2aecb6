-- The rows of system 5, one after another.
use Rattle.crn_shelf.proofs.Prelude.{◌≡◌, ◌+◌, ◌*◌, List, [], ◌∷◌, ◌++◌, length, map, refl, ap, ◌∙◌, append_assoc, ℤ, AllByRecursion, flat_map, IsIn, Mat, rows_of, mat_of, Shape, complex_row, pair_row, shelf_matrix, all_in, length-rows_after, rows_after}

abbrev itself : List ℤ → List ℤ
itself r = r

rows_itself : (rs : List (List ℤ)) → map itself rs ≡ rs
rows_itself [] = refl
rows_itself (r ∷ rs) = ap (λ (t : List (List ℤ)). r ∷ t) (rows_itself rs)

-- one list of rows after the other
joined : {A B : Type 0} (f : A → List ℤ) (g : B → List ℤ) (xs : List A) (ys : List B) → flat_map f xs ++ flat_map g ys ≡ flat_map itself (map f xs ++ map g ys)
joined f g [] [] = refl
joined f g [] (y ∷ ys) = ap (λ (t : List ℤ). g y ++ t) (joined f g [] ys)
joined f g (x ∷ xs) ys = append_assoc (f x) (flat_map f xs) (flat_map g ys) ∙ ap (λ (t : List ℤ). f x ++ t) (joined f g xs ys)

-- the rows of system 5 of a shape
abbrev entries_of : Shape → List ℤ
entries_of s = flat_map complex_row s.complexes ++ flat_map (pair_row s) s.pairs

row_long : (s : Shape) → AllByRecursion (λ r. length r ≡ s.species + 1) (shelf_matrix s).rows → (r : List ℤ) → IsIn r (shelf_matrix s).rows → length r ≡ s.species + 1
row_long s h r i = all_in (λ (x : List ℤ). length x ≡ s.species + 1) (shelf_matrix s).rows r h i

pub entries_long : (s : Shape) → AllByRecursion (λ r. length r ≡ s.species + 1) (shelf_matrix s).rows → length (entries_of s) ≡ length (shelf_matrix s).rows * (s.species + 1)
entries_long s h =
    ap length (joined complex_row (pair_row s) s.complexes s.pairs)
    ∙ length-rows_after (s.species + 1) itself (shelf_matrix s).rows (row_long s h)

pub matrix_is : (s : Shape) → AllByRecursion (λ r. length r ≡ s.species + 1) (shelf_matrix s).rows → mat_of (length (shelf_matrix s).rows) (s.species + 1) (entries_of s) ≡ shelf_matrix s
matrix_is s h =
    let width = s.species + 1 in
    let rows = (shelf_matrix s).rows in
    let cut : rows_of (length rows) width (entries_of s) ≡ rows =
    ap (λ (l : List ℤ). rows_of (length rows) width l) (joined complex_row (pair_row s) s.complexes s.pairs)
    ∙ rows_after width itself rows (row_long s h)
    ∙ rows_itself rows in
    ap (λ (rs : List (List ℤ)). let a : Mat = record { cols = width; rows = rs } in a) cut
