-- For the contracts of private functions alone.
-- The strong classes that have a complex in a linkage class.
-- Shapes: labels count from 1, complexes from 0. `strong` and `linkage` hold a label for each complex.
use Rattle.std.specs.Prelude.{◌≡◌, ◌≤◌, ℕ, Bool, false, List, length, slice_index_or}
use Rattle.std.specs.List.{list_any, range_with_len}
use Rattle.crn_vec.specs.declared.limits.TheConstants.{MAX_COMPLEXES}
use Rattle.crn_cert.specs.Valid.{is_in_both}

-- a label up to the most complexes is marked if and only if some complex with linkage label k has it
abbrev pub AreMarksIn : List ℕ → List ℕ → ℕ → List Bool → Type 0
AreMarksIn strong linkage k marks = (m : ℕ) → m ≤ MAX_COMPLEXES
    → slice_index_or marks m false ≡ list_any (is_in_both strong linkage m k) (range_with_len 0 (length strong))
