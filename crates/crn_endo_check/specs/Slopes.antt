-- The sign problem of a reaction: which slopes are against it.
-- Source: this project's own.
-- Shapes: species, complexes and reactions count from 0. The first choice is the sign of the rise along
-- the reaction. The others are, for each further reactant complex in order, the sign of its height above
-- the reactant of the reaction.
use Rattle.std.specs.Prelude.{◌≡◌, ◌≢◌, ◌⊎◌, ◌==◌, ◌&&◌, ◌+◌, ◌≤◌, not, ℕ, ℤ, neg_ℤ, Bool, true, false, if◌then◌else◌, List, [], ◌∷◌, ◌++◌, length, map, replicate, filter}
use Rattle.std.specs.List.{list_any, range_with_len}
use Rattle.crn_vec.specs.declared.signs.Sign.{Sign}
use Rattle.crn_vec.specs.declared.signs.Sign.TheVariants.{Zero}
use Rattle.crn_vec.specs.declared.signs.Kind.{Kind}
use Rattle.crn_vec.specs.declared.signs.Kind.TheVariants.{NonNeg, Free}
use Rattle.crn_vec.specs.declared.limits.TheConstants.{MAX_COORDINATES}
use Rattle.crn_vec.specs.Vectors.{Mat}
use Rattle.crn_vec.specs.Elementary.{width}
use Rattle.crn_vec.specs.Network.{Net, minus}
use Rattle.crn_vec.specs.Deficiency.{vectors}
use Rattle.crn_vec.specs.Problems.{Signed, is_zero}
use Rattle.crn_vec.specs.Systems.{kind_at}
use Rattle.crn_vec.specs.Concordance.{kind_of_sign, row_kinds, is_plus, is_minus}
use Rattle.crn_endo_check.specs.Endotactic.{complex_at, reaction_at}

-- ---- the choices

-- complex c is the reactant of some reaction
abbrev pub is_reactant : Net → ℕ → Bool
is_reactant net c = list_any (λ q. q.0 == c) net.reactions

-- the reactant complexes, ascending
abbrev pub reactants : Net → List ℕ
reactants net = filter (is_reactant net) (range_with_len 0 (length net.complexes))

-- the reactant complexes other than that of reaction r, ascending
abbrev pub others : Net → ℕ → List ℕ
others net r = filter (λ c. not (c == (reaction_at net r).0)) (reactants net)

-- the options after the first
abbrev pub later : List Sign → List Sign
later [] = []
later (s ∷ p) = p

-- the option of complex c among those of these complexes, zero if it has none
abbrev pub option_of : List ℕ → List Sign → ℕ → Sign
option_of [] p c = Zero
option_of (o ∷ os) [] c = Zero
option_of (o ∷ os) (s ∷ p) c = if o == c then s else option_of os p c

-- ---- the matrix

-- the negative of a vector
abbrev pub negated : List ℤ → List ℤ
negated v = map neg_ℤ v

-- what is above the reactant of reaction r by the height of complex c
abbrev pub row_above : Net → ℕ → ℕ → List ℤ
row_above net r c = minus (complex_at net c) (complex_at net (reaction_at net r).0)

-- a column for each species; a row for each reaction, its vector, then one for each, its negative, and
-- one for each further reactant complex
abbrev pub slope_matrix : Net → ℕ → Mat
slope_matrix net r = record {
  cols = length net.names;
  rows = vectors net ++ (map negated (vectors net) ++ map (row_above net r) (others net r));
}

-- ---- the kinds

-- at least 0, or anything
abbrev pub at_least_zero_if : Bool → Kind
at_least_zero_if true = NonNeg
at_least_zero_if false = Free

-- the kind of the rise along reaction q: that of the first option at r; if the first option is plus, at
-- least 0 along the reactions whose reactant is above that of r
abbrev pub rise_kind : Net → ℕ → List Sign → ℕ → Kind
rise_kind net r [] q = Free
rise_kind net r (s ∷ p) q =
    if q == r then kind_of_sign s
    else at_least_zero_if (is_plus s && is_plus (option_of (others net r) p (reaction_at net q).0))

-- the kind of the fall along reaction q: if the first option is minus, at least 0 along the reactions
-- whose reactant is below that of r
abbrev pub fall_kind : Net → ℕ → List Sign → ℕ → Kind
fall_kind net r [] q = Free
fall_kind net r (s ∷ p) q =
    at_least_zero_if (is_minus s && is_minus (option_of (others net r) p (reaction_at net q).0))

-- the kinds of part A: free for the species, then those of the rises, of the falls and of the heights
abbrev pub slope_kinds : Net → ℕ → List Sign → List Kind
slope_kinds net r p = replicate (length net.names) Free
    ++ (map (rise_kind net r p) (range_with_len 0 (length net.reactions))
    ++ (map (fall_kind net r p) (range_with_len 0 (length net.reactions))
    ++ row_kinds (length (others net r)) (later p)))

-- coordinate k of part A is free or at least 0 at each prefix
abbrev pub AtLeastZeroOrFree : Net → ℕ → ℕ → Type 0
AtLeastZeroOrFree net r k = (p : List Sign) → (kind_at (slope_kinds net r p) k ≡ NonNeg)
    ⊎ (kind_at (slope_kinds net r p) k ≡ Free)

-- coordinate k of part A is at least 0 at no prefix
abbrev pub NeverAtLeastZero : Net → ℕ → ℕ → Type 0
NeverAtLeastZero net r k = (p : List Sign) → kind_at (slope_kinds net r p) k ≢ NonNeg

-- a prefix is closed if its first option is zero
abbrev pub is_slope_closed : List Sign → Bool
is_slope_closed [] = false
is_slope_closed (s ∷ p) = is_zero s

-- the sign problem of reaction r; part B requires nothing
abbrev pub slopes : Net → ℕ → Signed
slopes net r = record {
  choices = 1 + length (others net r);
  matrix_a = slope_matrix net r;
  matrix_b = slope_matrix net r;
  kinds_a = slope_kinds net r;
  kinds_b = λ p. replicate (width (slope_matrix net r)) Free;
  closed = is_slope_closed;
}

-- the species, twice the reactions and the reactant complexes
abbrev pub slope_size : Net → ℕ
slope_size net = length net.names + (length net.reactions + length net.reactions)
    + length (reactants net)

-- the sizes are within what a system may have: exactly then the network is tested at all
abbrev pub IsSmallEnough : Net → Type 0
IsSmallEnough net = slope_size net ≤ MAX_COORDINATES
