-- Signals of a confluence vector over the shape of a network, and their sign problem.
-- Source: this project's own, after the Deficiency One Algorithm of Feinberg (1988, 1995).
-- Shapes: complexes, species and reactions count from 0, and so do terminal strong classes, by
-- first appearance.
use Rattle.std.specs.Prelude.{◌≡◌, ◌≢◌, ◌<◌, ◌+◌, ◌==◌, ◌&&◌, ◌||◌, nat_le, nat_lt, ℕ, ℤ, pos, negsuc, ◌-ℤ◌, Bool, if◌then◌else◌, Option, Some, None, List, [], ◌∷◌, ◌++◌, length, map, take, drop, slice_index_or}
use Rattle.std.specs.List.{AllZip, AllByRecursion}
use Rattle.crn_vec.specs.declared.signs.Sign.{Sign}
use Rattle.crn_vec.specs.declared.signs.Sign.TheVariants.{Zero, Plus, Minus}
use Rattle.crn_vec.specs.declared.signs.Kind.{Kind}
use Rattle.crn_vec.specs.declared.signs.Kind.TheVariants.{Free, Zero as ZeroKind}
use Rattle.crn_vec.specs.Vectors.{Mat, dot, entry, HasSign, column}
use Rattle.crn_vec.specs.Network.{Net, minus, reaction_vector}
use Rattle.crn_vec.specs.Problems.{Signed, opposite, all_zero}
use Rattle.crn_vec.specs.Concordance.{sign, image, kind_of_sign, row_kinds, kinds_b_of}

-- a cut pair of a terminal strong class, and the sum of the confluence vector over the side of its
-- second complex
pub record Pair : Type 0 where
  pub low : ℕ
  pub high : ℕ
  pub top : ℕ
  pub sum : ℤ

-- what the sign problem of signals depends on: the complexes, the terminal strong class of each
-- complex if it is in one, their number, and the cut pairs
pub record Shape : Type 0 where
  pub species : ℕ
  pub complexes : List (List ℤ)
  pub tops : List (Option ℕ)
  pub count : ℕ
  pub pairs : List Pair

-- the amounts of complex c
abbrev pub complex_at : Shape → ℕ → List ℤ
complex_at s c = slice_index_or s.complexes c []

-- the shelf of terminal class k: plus is upper, zero middle, minus lower
abbrev pub shelf_at : List Sign → ℕ → Sign
shelf_at shelves k = slice_index_or shelves k Zero

-- the shelf of a complex, by its terminal class
abbrev pub shelf_of : List Sign → Option ℕ → Sign
shelf_of shelves None = Zero
shelf_of shelves (Some k) = shelf_at shelves k

-- the difference x over a cut pair has the sign of the sum h in an upper class, the opposite sign
-- in a lower class, and any sign in a middle class
abbrev pub HasPairSign : Sign → ℤ → ℤ → Type 0
HasPairSign Zero h x = Unit {0}
HasPairSign Plus h x = HasSign (sign h) x
HasPairSign Minus h x = HasSign (opposite (sign h)) x

-- a signal over a shape: a shelving, numbers mu of the species, a level, and weights of the
-- reactions
pub record IsSignal (s : Shape) (m : Mat) (shelves : List Sign) (mu : List ℤ) (level : ℤ)
    (weights : List ℤ) : Type 0 where
  pub long_shelves : length shelves ≡ s.count
  pub long_mu : length mu ≡ s.species
  pub long_weights : length weights ≡ m.cols
  -- each complex is above, on or below the level by its shelf
  pub lies : AllZip (λ top y. HasSign (shelf_of shelves top) (dot y mu -ℤ level)) s.tops s.complexes
  pub over_pairs : AllByRecursion (λ pair. HasPairSign (shelf_at shelves pair.top) pair.sum
      (dot (complex_at s pair.high) mu -ℤ dot (complex_at s pair.low) mu)) s.pairs
  pub some : (k : ℕ) × (entry mu k ≢ pos 0)
  -- mu has at each species the sign of the change that the weights make
  pub same : map sign mu ≡ map sign (image m weights)

-- ---- the sign problem

-- the row of a complex in system 5: its amounts, then -1
abbrev pub complex_row : List ℤ → List ℤ
complex_row y = y ++ negsuc 0 ∷ []

-- the row of a cut pair in system 5: the difference of its complexes, then 0
abbrev pub pair_row : Shape → Pair → List ℤ
pair_row s pair = minus (complex_at s pair.high) (complex_at s pair.low) ++ pos 0 ∷ []

-- system 5: a column for each species and one for the level; a row for each complex and for each
-- cut pair
abbrev pub shelf_matrix : Shape → Mat
shelf_matrix s = record {
  cols = s.species + 1;
  rows = map complex_row s.complexes
      ++ map (pair_row s) s.pairs;
}

-- the kind of a complex' row, by the shelf of its class
abbrev pub top_kind : List Sign → Option ℕ → Kind
top_kind p None = ZeroKind
top_kind p (Some k) = if nat_lt k (length p) then kind_of_sign (shelf_at p k) else Free

-- the kind of a cut pair's row, by the shelf of its class and its sum
abbrev pub pair_kind_by : Sign → ℤ → Kind
pair_kind_by Zero h = Free
pair_kind_by Plus h = kind_of_sign (sign h)
pair_kind_by Minus h = kind_of_sign (opposite (sign h))

-- the kind of a cut pair's row, free if the shelf of its class is not chosen yet
abbrev pub pair_kind : List Sign → Pair → Kind
pair_kind p pair =
    if nat_lt pair.top (length p) then pair_kind_by (shelf_at p pair.top) pair.sum else Free

-- the kinds of part A: species, level, complexes, cut pairs
abbrev pub shelf_kinds : Shape → List Sign → List Kind
shelf_kinds s p = (row_kinds s.species (drop s.count p) ++ Free ∷ [])
    ++ (map (top_kind (take s.count p)) s.tops ++ map (pair_kind (take s.count p)) s.pairs)

-- a closed prefix: all shelves are chosen and middle, or all choices are made and every species is
-- zero
abbrev pub is_shelf_closed : Shape → List Sign → Bool
is_shelf_closed s p = (nat_le s.count (length p) && all_zero (take s.count p))
    || ((length p == s.count + s.species) && all_zero (drop s.count p))

-- the sign problem of signals: the choices are the shelves of the terminal strong classes, then the
-- signs of mu
abbrev pub signals : Shape → Mat → Signed
signals s m = record {
  choices = s.count + s.species;
  matrix_a = shelf_matrix s;
  matrix_b = m;
  kinds_a = shelf_kinds s;
  kinds_b = λ p. kinds_b_of m (drop s.count p);
  closed = is_shelf_closed s;
}

-- ---- what ties a shape to a network

-- the columns of the matrix are the reaction vectors
pub record IsStoichiometric (net : Net) (m : Mat) : Type 0 where
  pub reactions : m.cols ≡ length net.reactions
  pub species : length m.rows ≡ length net.names
  pub rows_long : AllByRecursion (λ row. length row ≡ m.cols) m.rows
  pub columns : (r : ℕ) → r < m.cols
      → column m.rows r ≡ reaction_vector net (slice_index_or net.reactions r (0, 0))

-- the shape is of a network's complexes; classes and pairs are in range
pub record IsShape (net : Net) (s : Shape) : Type 0 where
  pub species : s.species ≡ length net.names
  pub complexes : s.complexes ≡ net.complexes
  pub widths : AllByRecursion (λ y. length y ≡ s.species) s.complexes
  pub tops : length s.tops ≡ length s.complexes
  pub tops_below : AllByRecursion (λ top. (k : ℕ) → top ≡ Some k → k < s.count) s.tops
  pub pairs_below : AllByRecursion (λ pair. (pair.top < s.count) × (pair.low < length s.complexes)
      × (pair.high < length s.complexes)) s.pairs
