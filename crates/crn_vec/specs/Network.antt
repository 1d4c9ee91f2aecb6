-- Reaction networks, and the reactions that a statement says.
-- Source: Feinberg, Foundations of Chemical Reaction Network Theory (2019). The limits and the
-- numbering are this project's own.
-- Shapes: species, complexes and reactions count from 0. A complex is the list of its amounts, one
-- for each species.
use Rattle.std.specs.Prelude.{◌≡◌, ◌≤◌, ◌<◌, ◌==◌, ◌&&◌, ◌||◌, nat_le, ℕ, ℤ, pos, ◌≤ℤ◌, ◌-ℤ◌, Bool, false, IsTrue, if◌then◌else◌, List, [], ◌∷◌, ◌++◌, length, map, slice_index, slice_index_or}
use Rattle.std.specs.List.{AllByRecursion, list_all, sum_by}
use Rattle.std.specs.Str.{bytes_eq}
use Rattle.std.specs.Ordering.{int_eq}
use Rattle.std.specs.Cmp.Lexicographic.{pointwise}
use Rattle.crn_vec.specs.Lists.{IsIn, AreDistinct}
use Rattle.crn_vec.specs.declared.limits.TheConstants.{MAX_SPECIES, MAX_COMPLEXES, MAX_REACTIONS, MAX_AMOUNT, MAX_NAME}

-- a network: the names of its species, its complexes and its reactions
pub record Net : Type 0 where
  -- the names of the species
  pub names : List (List ℕ)
  -- each complex gives each species an amount
  pub complexes : List (List ℤ)
  -- each reaction goes from a complex, its reactant, to another, its product
  pub reactions : List (ℕ × ℕ)

-- ---- names

-- a letter or an underscore
abbrev pub is_letter : ℕ → Bool
is_letter b = (nat_le 97 b && nat_le b 122) || (nat_le 65 b && nat_le b 90) || b == 95

-- a letter, an underscore or a digit
abbrev pub is_name_byte : ℕ → Bool
is_name_byte b = is_letter b || (nat_le 48 b && nat_le b 57)

-- a letter or an underscore, then bytes of a name
abbrev pub begins_name : List ℕ → Bool
begins_name [] = false
begins_name (b ∷ bs) = is_letter b && list_all is_name_byte bs

-- a letter or an underscore, then letters, underscores and digits, no more than the limit
abbrev pub IsName : List ℕ → Type 0
IsName name = IsTrue (begins_name name) × (length name ≤ MAX_NAME)

-- ---- networks

-- the ends of the reactions in order, the reactant before the product
abbrev pub ends : List (ℕ × ℕ) → List ℕ
ends [] = []
ends (r ∷ rs) = r.0 ∷ r.1 ∷ ends rs

-- numbered by first appearance: each number is preceded by every smaller one
abbrev pub IsFirstAppearance : List ℕ → Type 0
IsFirstAppearance ys = (i k : ℕ) → i < length ys → k < slice_index ys i
    → (j : ℕ) × (j < i) × (slice_index ys j ≡ k)

-- from 0 to the limit
abbrev pub IsAmount : ℤ → Type 0
IsAmount a = (pos 0 ≤ℤ a) × (a ≤ℤ pos MAX_AMOUNT)

-- the amounts of a complex, one for each species
abbrev pub IsVector : ℕ → List ℤ → Type 0
IsVector width v = (length v ≡ width) × AllByRecursion IsAmount v

-- the amount of species s in complex c
abbrev pub amount_at : Net → ℕ → ℕ → ℤ
amount_at net c s = slice_index_or (slice_index_or net.complexes c []) s (pos 0)

-- complex c holds species s
abbrev pub Holds : Net → ℕ → ℕ → Type 0
Holds net c s = pos 1 ≤ℤ amount_at net c s

-- a complex before c holds species s
abbrev pub IsHeldBefore : Net → ℕ → ℕ → Type 0
IsHeldBefore net c s = (b : ℕ) × (b < c) × Holds net b s

-- the reaction joins two different complexes of this many
abbrev pub JoinsTwo : ℕ → ℕ × ℕ → Type 0
JoinsTwo count r = (r.0 ≡ r.1 → ⊥) × (r.0 < count) × (r.1 < count)

-- what a network keeps while reactions are added, from no reaction on
pub record IsPartialNetwork (net : Net) : Type 0 where
  pub names : AreDistinct net.names
  pub names_spelled : AllByRecursion IsName net.names
  pub complexes : AreDistinct net.complexes
  pub vectors : AllByRecursion (IsVector (length net.names)) net.complexes
  pub reactions : AreDistinct net.reactions
  pub apart : AllByRecursion (JoinsTwo (length net.complexes)) net.reactions
  -- complexes are numbered by first appearance in the reactions, and each appears
  pub numbered : IsFirstAppearance (ends net.reactions)
  pub each_in_a_reaction : (c : ℕ) → c < length net.complexes → IsIn c (ends net.reactions)
  -- each species is in a complex, and those in the first complexes are the first species
  pub each_in_a_complex : (s : ℕ) → s < length net.names
      → IsHeldBefore net (length net.complexes) s
  pub species_in_order : (c s t : ℕ) → c ≤ length net.complexes → s < t → t < length net.names
      → IsHeldBefore net c t → IsHeldBefore net c s
  pub species_limit : length net.names ≤ MAX_SPECIES
  pub complexes_limit : length net.complexes ≤ MAX_COMPLEXES
  pub reactions_limit : length net.reactions ≤ MAX_REACTIONS

-- a network: at least one reaction, and all that is kept
pub record IsNetwork (net : Net) : Type 0 where
  pub partial : IsPartialNetwork net
  pub some : 1 ≤ length net.reactions

-- the amounts of a reaction's reactant and of its product
abbrev pub sides_of : Net → ℕ × ℕ → List ℤ × List ℤ
sides_of net r = (slice_index_or net.complexes r.0 [], slice_index_or net.complexes r.1 [])

-- the same reactant and the same product, by amounts
abbrev pub sides_eq : List ℤ × List ℤ → List ℤ × List ℤ → Bool
sides_eq a b = pointwise int_eq a.0 b.0 && pointwise int_eq a.1 b.1

-- the differences, place by place
abbrev pub minus : List ℤ → List ℤ → List ℤ
minus [] ys = []
minus (x ∷ xs) [] = []
minus (x ∷ xs) (y ∷ ys) = (x -ℤ y) ∷ minus xs ys

-- the vector of a reaction: product minus reactant
abbrev pub reaction_vector : Net → ℕ × ℕ → List ℤ
reaction_vector net r = minus (sides_of net r).1 (sides_of net r).0

-- ---- statements

-- two sides, each a list of names with numbers, as a text says them
abbrev pub Statement : Type 0
Statement = List (List ℕ × ℕ) × List (List ℕ × ℕ)

-- how much of a name a side says: the sum of the numbers of the name
abbrev pub amount_in : List (List ℕ × ℕ) → List ℕ → ℕ
amount_in side name = sum_by (λ t. if bytes_eq t.0 name then t.1 else 0) side

-- the amounts that a side says, one for each name
abbrev pub amounts_in : List (List ℕ) → List (List ℕ × ℕ) → List ℤ
amounts_in names side = map (λ name. pos (amount_in side name)) names

-- the two sides of a statement as amounts of these names
abbrev pub said_by : List (List ℕ) → Statement → List ℤ × List ℤ
said_by names s = (amounts_in names s.0, amounts_in names s.1)

-- the names of a statement from left to right
abbrev pub names_in : Statement → List (List ℕ)
names_in s = map (λ t. t.0) s.0 ++ map (λ t. t.0) s.1
