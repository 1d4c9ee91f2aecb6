-- The nodes of a tree in preorder, and the prefixes that are due while they are read one by one.
-- Source: this project's own.
-- Shapes: `due` lists the prefixes whose trees are still to come, the next one first.
use Rattle.std.specs.Prelude.{◌≡◌, ◌<◌, ℤ, true, List, [], ◌∷◌, ◌++◌, length}
use Rattle.crn_vec.specs.declared.signs.Sign.{Sign}
use Rattle.crn_vec.specs.Systems.{IsCut}
use Rattle.crn_vec.specs.Problems.{Signed, children}
use Rattle.crn_vec.specs.Visits.{root}
use Rattle.crn_cert.specs.Ranges.{AreFree}
use Rattle.crn_cert.specs.Trees.{Plan, Both, Three, RulesA, RulesB, Level, IsValid}

-- what a line of a tree says
pub data Said : Type 0 where
  Splits : Said
  Flats : Said
  CutsA : List ℤ → Said
  CutsB : List ℤ → Said

-- the nodes of a tree in preorder
abbrev pub nodes : Plan → List Said
nodes (Both zero plus) = Splits ∷ (nodes zero ++ nodes plus)
nodes (Three zero plus minus) = Splits ∷ (nodes zero ++ nodes plus ++ nodes minus)
nodes (RulesA u) = CutsA u ∷ []
nodes (RulesB u) = CutsB u ∷ []
nodes Level = Flats ∷ []

-- the test of a node at its prefix
abbrev pub Fits : Signed → List Sign → Said → Type 0
Fits w p Splits = length p < w.choices
Fits w p Flats = w.closed p ≡ true
Fits w p (CutsA u) = IsCut w.matrix_a (w.kinds_a p) u
Fits w p (CutsB u) = IsCut w.matrix_b (w.kinds_b p) u

-- a cut has as many numbers of a certificate as its part has rows
abbrev pub AreNumbersFor : Signed → Said → Type 0
AreNumbersFor w Splits = Unit {0}
AreNumbersFor w Flats = Unit {0}
AreNumbersFor w (CutsA u) = AreFree (length w.matrix_a.rows) u
AreNumbersFor w (CutsB u) = AreFree (length w.matrix_b.rows) u

-- the prefixes that are due after a node at the prefix p, before which `rest` were due as well
abbrev pub rest_after : List Sign → List (List Sign) → Said → List (List Sign)
rest_after p rest Splits = children p ++ rest
rest_after p rest Flats = rest
rest_after p rest (CutsA u) = rest
rest_after p rest (CutsB u) = rest

-- the nodes fit the prefixes that are due first, one after another, and leave those that are due last
pub data Passing (w : Signed) : List (List Sign) → List Said → List (List Sign) → Type 0 where
  done : {due : List (List Sign)} → Passing w due [] due
  then : {p : List Sign} {rest last : List (List Sign)} {node : Said} {more : List Said}
      → Fits w p node → Passing w (rest_after p rest node) more last
      → Passing w (p ∷ rest) (node ∷ more) last

-- the nodes are those of a valid tree at a prefix
pub record AreOfTree (w : Signed) (p : List Sign) (said : List Said) : Type 0 where
  pub tree : Plan
  pub valid : IsValid w p tree
  pub are : said ≡ nodes tree

-- nodes fit from the root and leave nothing due if and only if they are those of a valid tree
pub record AreThoseOfTrees (w : Signed) : Type 0 where
  pub leaves : (tree : Plan) → IsValid w [] tree → Passing w root (nodes tree) []
  pub tree : (said : List Said) → Passing w root said [] → AreOfTree w [] said

-- in each sign problem nodes leave nothing due if and only if they are those of a valid tree
abbrev pub NodesOfValidTrees : Type 0
NodesOfValidTrees = (w : Signed) → AreThoseOfTrees w
