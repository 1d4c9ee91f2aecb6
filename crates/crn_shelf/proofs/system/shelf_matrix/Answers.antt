use Rattle.crn_shelf.proofs.Prelude.{◌≡◌, ◌+◌, ◌*◌, ◌++◌, ℕ, List, length, ap, ap₂, sym, ◌∙◌, ℤ, flat_map, Mat, mat_of, complex_row, pair_row, shelf_matrix, if_ok}
use Rattle.crn_shelf.proofs.SystemRows.{entries_long, matrix_is}
use Rattle.crn_shelf.proofs.system.shelf_matrix.Goals as goal

pub from_entries-requires-clause-count : goal.from_entries-requires-clause-count
from_entries-requires-clause-count c =
    let s = c.args.shape.now in
    let one = c.in_ok-put_complexes.ensures.value ∙ ap (λ (l : List ℤ). l ++ flat_map complex_row s.complexes) c.in_ok-entries.ensures.items in
    let entries = c.in_ok-put_pairs.ensures.value ∙ ap (λ (l : List ℤ). l ++ flat_map (pair_row s) s.pairs) one in
    ap length entries ∙ entries_long s c.rows-rows.ensures.widths
    ∙ ap₂ (λ (m n : ℕ). m * (n + 1)) (sym c.rows-rows.ensures.count) (sym c.species-cols.ensures.count)

pub returns : goal.returns
returns c =
    let s = c.args.shape.now in
    let one = c.in_ok-put_complexes.ensures.value ∙ ap (λ (l : List ℤ). l ++ flat_map complex_row s.complexes) c.in_ok-entries.ensures.items in
    let entries = c.in_ok-put_pairs.ensures.value ∙ ap (λ (l : List ℤ). l ++ flat_map (pair_row s) s.pairs) one in
    let made = mat_of c.rows-rows.result (c.species-cols.result + 1) c.put_pairs.new.entries.items in
    let same : made ≡ shelf_matrix s =
    ap₂ (λ (m n : ℕ). mat_of m (n + 1) c.put_pairs.new.entries.items) c.rows-rows.ensures.count c.species-cols.ensures.count
    ∙ ap (λ (l : List ℤ). mat_of (length (shelf_matrix s).rows) (s.species + 1) l) entries
    ∙ matrix_is s c.rows-rows.ensures.widths in
    if_ok (λ (a : Mat). a ≡ made) (λ (a : Mat). a ≡ shelf_matrix s) c.from_entries.result (λ a e. e ∙ same) c.from_entries.ensures
