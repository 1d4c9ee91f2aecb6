-- For the contracts of private functions alone.
-- What is required of part A of a table's problem, by words.
-- Source: this project's own.
-- Shapes: coordinates count from 0; coordinate k is bit k % 64 of word k / 64. The choices are the
-- species in order.
use Rattle.std.specs.Prelude.{◌≡◌, ◌<◌, ◌+◌, ℕ, zero, suc, Bool, true, false, if◌then◌else◌, List, [], drop, length, slice_index_or}
use Rattle.std.specs.Int.{bit_at}
use Rattle.crn_vec.specs.declared.signs.Sign.{Sign}
use Rattle.crn_vec.specs.declared.signs.Kind.TheVariants.{Free}
use Rattle.crn_vec.specs.Vectors.{Mat}
use Rattle.crn_vec.specs.Elementary.{width}
use Rattle.crn_vec.specs.Systems.{one_if}
use Rattle.crn_vec.specs.Problems.{all_zero}
use Rattle.crn_vec.specs.Concordance.{is_minus, is_plus, kind_of_sum, product, products, some_sign}
use Rattle.crn_sign.specs.declared.bits.Bits.{Bits}
use Rattle.crn_sign.specs.Options.{kind_of_bits, minus_at, plus_at, sign_at, word_at, word_count}
use Rattle.crn_conc.specs.declared.chosen.Chosen.{Chosen}

-- ---- 64 coordinates

-- a bit of each word says whether a sign is plus, and whether it is minus
pub record HasSignIn (signs : Bits) (i : ℕ) (s : Sign) : Type 0 where
  pub plus : bit_at signs.plus i ≡ one_if (is_plus s)
  pub minus : bit_at signs.minus i ≡ one_if (is_minus s)

-- the words of sums say whether some member is plus, and whether some is minus; these are those with
-- one member more, the product of a sign and the option
pub record IsExtended (above signs : Bits) (option : Sign) (new : Bits) : Type 0 where
  pub plus : (i : ℕ) (x : Bool) (s : Sign) → bit_at above.plus i ≡ one_if x → HasSignIn signs i s
      → bit_at new.plus i ≡ one_if (if x then true else is_plus (product s option))
  pub minus : (i : ℕ) (x : Bool) (s : Sign) → bit_at above.minus i ≡ one_if x → HasSignIn signs i s
      → bit_at new.minus i ≡ one_if (if x then true else is_minus (product s option))

-- the kind of the sum is required of each coordinate that is settled, and nothing of the others
abbrev pub IsAskedOf : Bits → Bits → Bits → Type 0
IsAskedOf settled sums new = (i : ℕ) (b x y : Bool) → bit_at settled.plus i ≡ one_if b
    → bit_at settled.minus i ≡ one_if b → bit_at sums.plus i ≡ one_if x
    → bit_at sums.minus i ≡ one_if y
    → kind_of_bits (bit_at new.plus i) (bit_at new.minus i) ≡ (if b then kind_of_sum x y else Free)

-- each word is of this form
pub record AreMade (form : ℕ → Bits → Type 0) (old new : List Bits) : Type 0 where
  pub count : length new ≡ length old
  pub each : (w : ℕ) → w < length old → form w (word_at new w)

-- ---- all coordinates of a matrix

-- the signs of the species for a coordinate: for a reaction its row of the table, and none for a
-- row of the matrix
abbrev pub signs_at : List (List Sign) → ℕ → List Sign
signs_at table k = slice_index_or table k []

-- the words say what sign species d has for each coordinate
pub record AreSignsOf (a : Mat) (table : List (List Sign)) (d : ℕ) (words : List Bits) : Type 0 where
  pub count : length words ≡ word_count a
  pub plus : (k : ℕ) → k < width a
      → plus_at words k ≡ one_if (is_plus (sign_at (signs_at table k) d))
  pub minus : (k : ℕ) → k < width a
      → minus_at words k ≡ one_if (is_minus (sign_at (signs_at table k) d))

-- both words say for which coordinates no species from n on has a sign
pub record AreSettled (a : Mat) (table : List (List Sign)) (n : ℕ) (words : List Bits) : Type 0 where
  pub count : length words ≡ word_count a
  pub plus : (k : ℕ) → k < width a
      → plus_at words k ≡ one_if (all_zero (drop n (signs_at table k)))
  pub minus : (k : ℕ) → k < width a
      → minus_at words k ≡ one_if (all_zero (drop n (signs_at table k)))

-- whether a coordinate is settled after fewer than n choices
abbrev pub settled_below : List (List Sign) → ℕ → ℕ → Bool
settled_below table zero k = false
settled_below table (suc n) k = all_zero (drop n (signs_at table k))

-- both words say which coordinates are settled after fewer than n choices
pub record AreSettledBelow (a : Mat) (table : List (List Sign)) (n : ℕ) (words : List Bits)
    : Type 0 where
  pub count : length words ≡ word_count a
  pub plus : (k : ℕ) → k < width a → plus_at words k ≡ one_if (settled_below table n k)
  pub minus : (k : ℕ) → k < width a → minus_at words k ≡ one_if (settled_below table n k)

-- what is kept for n choices: the signs of the species that is the last of them, and what is settled
pub record IsChosen (a : Mat) (table : List (List Sign)) (n : ℕ) (c : Chosen) : Type 0 where
  pub signs : (d : ℕ) → d + 1 ≡ n → AreSignsOf a table d c.signs.items
  pub settled : AreSettled a table n c.settled.items

-- what is kept for no choice, for one, and so on, to all
pub record AreChosen (a : Mat) (table : List (List Sign)) (columns : List Chosen) : Type 0 where
  pub count : length columns ≡ length a.rows + 1
  pub each : (n : ℕ) (c : Chosen) → n < length columns → slice_index_or columns n c ≡ c
      → IsChosen a table n c

-- the words say of each coordinate whether some product of its signs and the options of a prefix is
-- plus, and whether some is minus
pub record AreSums (a : Mat) (table : List (List Sign)) (p : List Sign) (words : List Bits)
    : Type 0 where
  pub plus : (k : ℕ) → k < width a
      → plus_at words k ≡ one_if (some_sign is_plus (products (signs_at table k) p))
  pub minus : (k : ℕ) → k < width a
      → minus_at words k ≡ one_if (some_sign is_minus (products (signs_at table k) p))
