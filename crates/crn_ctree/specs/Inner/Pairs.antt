-- For the contracts of private functions alone.
-- Numbers that agree with the columns of a table.
-- Source: this project's own.
use Rattle.std.specs.Prelude.{ℤ, List}
use Rattle.std.specs.List.{AllZip}
use Rattle.crn_vec.specs.declared.signs.Sign.{Sign}
use Rattle.crn_vec.specs.Systems.{HasKind}
use Rattle.crn_vec.specs.Concordance.{column_kind}

-- each number is of the kind that its column has at the prefix
abbrev pub AreOfColumns : List (List Sign) → List Sign → List ℤ → Type 0
AreOfColumns table p alpha = AllZip (λ signs x. HasKind (column_kind signs p) x) table alpha
