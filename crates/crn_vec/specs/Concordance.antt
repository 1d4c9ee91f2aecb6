-- Discordant influence tables, and the sign problem of a table.
-- Source: Shinar and Feinberg, Concordant chemical reaction networks (2012). The strong table is
-- this project's own.
-- Shapes: the stoichiometric matrix has a row for each species and a column for each reaction. A
-- table has for each reaction a list of signs, one for each species.
use Rattle.std.specs.Prelude.{◌≡◌, ◌≤◌, ◌==◌, ◌&&◌, ◌⊎◌, ℕ, zero, suc, ℤ, pos, negsuc, neg_ℤ, ◌≤ℤ◌, Bool, true, false, if◌then◌else◌, List, [], ◌∷◌, ◌++◌, length, map, drop, replicate}
use Rattle.std.specs.List.{AllZip, AllByRecursion}
use Rattle.crn_vec.specs.declared.limits.TheConstants.{MAX_REACTIONS, MAX_SPECIES}
use Rattle.crn_vec.specs.declared.signs.Sign.{Sign}
use Rattle.crn_vec.specs.declared.signs.Sign.TheVariants.{Zero, Plus, Minus}
use Rattle.crn_vec.specs.declared.signs.Kind.{Kind}
use Rattle.crn_vec.specs.declared.signs.Kind.TheVariants.{Pos, Neg, Free, Zero as ZeroKind}
use Rattle.crn_vec.specs.Vectors.{Mat, dot, AreOfLength}
use Rattle.crn_vec.specs.Problems.{Signed, opposite, all_zero}

-- ---- discordance

-- the sign of a number
abbrev pub sign : ℤ → Sign
sign (pos zero) = Zero
sign (pos (suc n)) = Plus
sign (negsuc n) = Minus

-- a matrix times a list; of the stoichiometric matrix, the sum of the reaction vectors with these
-- weights
abbrev pub image : Mat → List ℤ → List ℤ
image m z = map (λ row. dot row z) m.rows

-- the number times the sign: the number itself, its negative or 0
abbrev pub signed_by : Sign → ℤ → ℤ
signed_by Zero x = pos 0
signed_by Plus x = x
signed_by Minus x = neg_ℤ x

-- the changes of the species times the signs of the table for one reaction
abbrev pub shares : List Sign → List ℤ → List ℤ
shares [] xs = []
shares (s ∷ ss) [] = []
shares (s ∷ ss) (x ∷ xs) = signed_by s x ∷ shares ss xs

-- some member is positive
abbrev pub HasPositive : List ℤ → Type 0
HasPositive [] = ⊥
HasPositive (x ∷ xs) = (pos 1 ≤ℤ x) ⊎ HasPositive xs

-- some member is negative
abbrev pub HasNegative : List ℤ → Type 0
HasNegative [] = ⊥
HasNegative (x ∷ xs) = (x ≤ℤ negsuc 0) ⊎ HasNegative xs

-- the number is 0
abbrev pub IsNought : ℤ → Type 0
IsNought x = x ≡ pos 0

-- the number x of a reaction agrees with its shares: if positive, some share is; if negative, some
-- share is; if 0, all shares are 0 or there are both signs
pub record GoesWith (shares : List ℤ) (x : ℤ) : Type 0 where
  pub up : pos 1 ≤ℤ x → HasPositive shares
  pub down : x ≤ℤ negsuc 0 → HasNegative shares
  pub still : x ≡ pos 0 → AllByRecursion IsNought shares ⊎ (HasPositive shares × HasNegative shares)

-- a discordance: alpha combines the reactions to zero, the weights combine them to changes that are
-- not all 0, and each entry of alpha agrees with its shares
pub record IsDiscordant (m : Mat) (table : List (List Sign)) (alpha weights : List ℤ) : Type 0 where
  pub long_alpha : length alpha ≡ m.cols
  pub long_weights : length weights ≡ m.cols
  pub balanced : AllByRecursion IsNought (image m alpha)
  pub some : HasPositive (image m weights) ⊎ HasNegative (image m weights)
  pub goes : AllZip (λ signs x. GoesWith (shares signs (image m weights)) x) table alpha

-- the table has no discordance
abbrev pub IsConcordant : Mat → List (List Sign) → Type 0
IsConcordant m table = (alpha weights : List ℤ) → IsDiscordant m table alpha weights → ⊥

-- ---- the sign problem

-- a table of a sign for each reaction and species, within the limits
pub record IsTable (m : Mat) (table : List (List Sign)) : Type 0 where
  pub reactions : length table ≡ m.cols
  pub species : AllByRecursion (λ signs. length signs ≡ length m.rows) table
  pub shape : AreOfLength m.cols m.rows
  pub few_reactions : m.cols ≤ MAX_REACTIONS
  pub few_species : length m.rows ≤ MAX_SPECIES

-- the sign of a product
abbrev pub product : Sign → Sign → Sign
product Zero t = Zero
product Plus t = t
product Minus t = opposite t

-- the products of signs, place by place
abbrev pub products : List Sign → List Sign → List Sign
products [] p = []
products (s ∷ ss) [] = []
products (s ∷ ss) (t ∷ p) = product s t ∷ products ss p

-- the sign is plus
abbrev pub is_plus : Sign → Bool
is_plus Zero = false
is_plus Plus = true
is_plus Minus = false

-- the sign is minus
abbrev pub is_minus : Sign → Bool
is_minus Zero = false
is_minus Plus = false
is_minus Minus = true

-- some sign passes the test
abbrev pub some_sign : (Sign → Bool) → List Sign → Bool
some_sign test [] = false
some_sign test (s ∷ ss) = if test s then true else some_sign test ss

-- the kind of a sum with or without positive members, and with or without negative ones
abbrev pub kind_of_sum : Bool → Bool → Kind
kind_of_sum false false = ZeroKind
kind_of_sum true false = Pos
kind_of_sum false true = Neg
kind_of_sum true true = Free

-- the kind of a reaction's column in part A: free until each species with a nonzero sign there is
-- chosen
abbrev pub column_kind : List Sign → List Sign → Kind
column_kind signs p =
    if all_zero (drop (length p) signs)
    then kind_of_sum (some_sign is_plus (products signs p)) (some_sign is_minus (products signs p))
    else Free

-- the kind of the numbers of this sign
abbrev pub kind_of_sign : Sign → Kind
kind_of_sign Zero = ZeroKind
kind_of_sign Plus = Pos
kind_of_sign Minus = Neg

-- the kinds of the species' rows in part B: by their options, and free if not chosen yet
abbrev pub row_kinds : ℕ → List Sign → List Kind
row_kinds zero p = []
row_kinds (suc n) [] = Free ∷ row_kinds n []
row_kinds (suc n) (s ∷ p) = kind_of_sign s ∷ row_kinds n p

-- the kinds of part A: those of the reactions' columns, and zero on the rows
abbrev pub kinds_a_of : Mat → List (List Sign) → List Sign → List Kind
kinds_a_of m table p = map (λ signs. column_kind signs p) table
    ++ replicate (length m.rows) ZeroKind

-- the kinds of part B: free on the columns, and those of the species' rows
abbrev pub kinds_b_of : Mat → List Sign → List Kind
kinds_b_of m p = replicate m.cols Free ++ row_kinds (length m.rows) p

-- the sign problem of a table: the choices are the species in order, an option is the sign of a
-- species' change
abbrev pub concordance : Mat → List (List Sign) → Signed
concordance m table = record {
  choices = length m.rows;
  matrix_a = m;
  matrix_b = m;
  kinds_a = kinds_a_of m table;
  kinds_b = kinds_b_of m;
  closed = λ p. (length p == length m.rows) && all_zero p;
}
