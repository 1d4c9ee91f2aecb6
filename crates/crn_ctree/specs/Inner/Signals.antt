-- For the contracts of private functions alone.
-- The complexes and the linked pairs of a shape under a shelving.
-- Source: this project's own.
use Rattle.std.specs.Prelude.{ℤ, ◌-ℤ◌, List}
use Rattle.std.specs.List.{AllZip, AllByRecursion}
use Rattle.crn_vec.specs.declared.signs.Sign.{Sign}
use Rattle.crn_vec.specs.Systems.{HasKind}
use Rattle.crn_vec.specs.Vectors.{dot}
use Rattle.crn_vec.specs.Signals.{Shape, complex_at, top_kind, pair_kind}

-- over the level each complex is of the kind of its row
abbrev pub AreOnShelves : Shape → List Sign → List ℤ → ℤ → Type 0
AreOnShelves s shelves mu level = AllZip (λ top y.
    HasKind (top_kind shelves top) (dot y mu -ℤ level)) s.tops s.complexes

-- over each linked pair the difference is of the kind of its row
abbrev pub AreRightRises : Shape → List Sign → List ℤ → Type 0
AreRightRises s shelves mu = AllByRecursion (λ pair. HasKind (pair_kind shelves pair)
    (dot (complex_at s pair.high) mu -ℤ dot (complex_at s pair.low) mu)) s.pairs
