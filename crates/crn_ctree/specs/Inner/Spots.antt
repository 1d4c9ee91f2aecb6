-- For the contracts of private functions alone.
-- Lists of signs by the places at which they are not zero.
-- Source: this project's own.
-- Shapes: places count from 0.
use Rattle.std.specs.Prelude.{◌≡◌, ◌<◌, ◌⊎◌, ◌==◌, ◌||◌, nat_lt, ℕ, suc, ℤ, pos, negsuc, Bool, true, if◌then◌else◌, List, [], ◌∷◌, length, map, slice_index_or}
use Rattle.std.specs.List.{AllByRecursion}
use Rattle.crn_vec.specs.declared.signs.Sign.{Sign}
use Rattle.crn_vec.specs.declared.signs.Sign.TheVariants.{Zero, Plus, Minus}
use Rattle.crn_vec.specs.declared.signs.Kind.{Kind}
use Rattle.crn_vec.specs.declared.signs.Kind.TheVariants.{Free}
use Rattle.crn_vec.specs.Network.{Net, reaction_vector, sides_of}
use Rattle.crn_vec.specs.Vectors.{Mat}
use Rattle.crn_vec.specs.Concordance.{kind_of_sum, is_plus, is_minus, product, sign}
use Rattle.crn_vec.specs.Signals.{shelf_matrix}
use Rattle.crn_vec.specs.Systems.{MayWeigh, is_signed, kind_at}
use Rattle.crn_ctree.specs.declared.problem.InfluenceTable.{InfluenceTable}
use Rattle.crn_ctree.specs.declared.problem.InfluenceTable.TheVariants.{Plain, Strong}
use Rattle.crn_ctree.specs.declared.problem.Problem.{Problem}
use Rattle.crn_ctree.specs.declared.problem.Problem.TheVariants.{Concordance, Signals}
use Rattle.crn_ctree.specs.declared.spots.Spot.{Spot}
use Rattle.crn_ctree.specs.Inner.Kinds.{weights_of}

-- the places from this one on at which the signs are not zero, with the signs
abbrev pub spots_from : ℕ → List Sign → List Spot
spots_from k [] = []
spots_from k (Zero ∷ ss) = spots_from (suc k) ss
spots_from k (Plus ∷ ss) = record { place = k; sign = Plus } ∷ spots_from (suc k) ss
spots_from k (Minus ∷ ss) = record { place = k; sign = Minus } ∷ spots_from (suc k) ss

-- the kind of a column with these spots, if species before these have raised or lowered it
abbrev pub spots_kind : Bool → Bool → List Spot → List Sign → Kind
spots_kind raised lowered [] p = kind_of_sum raised lowered
spots_kind raised lowered (s ∷ spots) p =
    if nat_lt s.place (length p)
    then spots_kind (raised || is_plus (product s.sign (slice_index_or p s.place Zero)))
    (lowered || is_minus (product s.sign (slice_index_or p s.place Zero))) spots p
    else Free

-- a number of each sign
abbrev pub number_of : Sign → ℤ
number_of Zero = pos 0
number_of Plus = pos 1
number_of Minus = negsuc 0

-- each place is below n
abbrev pub AreBelow : ℕ → List Spot → Type 0
AreBelow n spots = AllByRecursion (λ (s : Spot). s.place < n) spots

-- each place has a kind that may have a weight of its sign
abbrev pub AllWeigh : List Kind → List Spot → Type 0
AllWeigh kinds spots =
    AllByRecursion (λ (s : Spot). MayWeigh (kind_at kinds s.place) (number_of s.sign)) spots

-- some place has to be positive or negative
abbrev pub SomeSigned : List Kind → List Spot → Type 0
SomeSigned kinds [] = ⊥
SomeSigned kinds (s ∷ spots) =
    (is_signed (kind_at kinds s.place) ≡ true) ⊎ SomeSigned kinds spots

-- the places at which multipliers weigh the coordinates of a matrix, none if they are not as many
-- as its rows
abbrev pub row_spots : Mat → List ℤ → List Spot
row_spots a u =
    if length u == length a.rows then spots_from 0 (map sign (weights_of a u)) else []

-- the numbers whose signs decide the kind of a reaction's column: the amounts of its reactant for
-- the plain table, and its vector, which has the opposite signs, for the strong one
abbrev pub column_numbers : Net → InfluenceTable → ℕ × ℕ → List ℤ
column_numbers net Plain r = (sides_of net r).0
column_numbers net Strong r = reaction_vector net r

-- the places at which they are not zero, for each reaction, and none for signals
abbrev pub columns_of : Net → Problem → List (List Spot)
columns_of net (Concordance table) =
    map (λ (r : ℕ × ℕ). spots_from 0 (map sign (column_numbers net table r))) net.reactions
columns_of net (Signals shape) = []

-- the places at which vectors weigh the coordinates of a matrix
abbrev pub rows_by : Mat → List (List ℤ) → List (List Spot)
rows_by a table = map (λ (u : List ℤ). row_spots a u) table

-- the same for system 5 of a shape, and none for tables
abbrev pub shelf_rows : Problem → List (List ℤ) → List (List Spot)
shelf_rows (Concordance influence) table = []
shelf_rows (Signals shape) table = rows_by (shelf_matrix shape.now) table
