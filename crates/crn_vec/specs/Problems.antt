-- Sign problems: signs are chosen one after another, and each choice fixes more kinds of two linear
-- systems.
-- Source: this project's own; Minty (1974) for the systems. Shinar and Feinberg (2012) for the
-- problem of concordance.
-- Shapes: a prefix lists the options of the first choices.
use Rattle.std.specs.Prelude.{◌≡◌, ◌≤◌, ℕ, ℤ, neg_ℤ, Bool, true, false, List, [], ◌∷◌, ◌++◌, length, map}
use Rattle.std.specs.List.{list_all}
use Rattle.crn_vec.specs.declared.limits.TheConstants.{MAX_SIGNED}
use Rattle.crn_vec.specs.declared.signs.Sign.{Sign}
use Rattle.crn_vec.specs.declared.signs.Sign.TheVariants.{Zero, Plus, Minus}
use Rattle.crn_vec.specs.declared.signs.Kind.{Kind}
use Rattle.crn_vec.specs.Vectors.{Mat}
use Rattle.crn_vec.specs.Elementary.{width}
use Rattle.crn_vec.specs.Systems.{IsSolution, signed_count}

-- a sign problem: the number of its choices, the matrices of its two parts, the kinds of each by
-- prefix, and which prefixes are closed
pub record Signed : Type 0 where
  pub choices : ℕ
  pub matrix_a : Mat
  pub matrix_b : Mat
  pub kinds_a : List Sign → List Kind
  pub kinds_b : List Sign → List Kind
  pub closed : List Sign → Bool

-- a prefix: options of at most all choices
abbrev pub IsPrefix : Signed → List Sign → Type 0
IsPrefix w p = length p ≤ w.choices

-- all choices are made
abbrev pub IsFull : Signed → List Sign → Type 0
IsFull w p = length p ≡ w.choices

-- the sign of the negative
abbrev pub opposite : Sign → Sign
opposite Zero = Zero
opposite Plus = Minus
opposite Minus = Plus

-- the mirror of a prefix: plus and minus exchanged
abbrev pub mirror : List Sign → List Sign
mirror p = map opposite p

-- the sign is zero
abbrev pub is_zero : Sign → Bool
is_zero Zero = true
is_zero Plus = false
is_zero Minus = false

-- every option is zero
abbrev pub all_zero : List Sign → Bool
all_zero p = list_all is_zero p

-- the last options of the children: below a prefix of zeros minus is omitted, as it mirrors plus
abbrev pub options_below : Bool → List Sign
options_below true = Zero ∷ Plus ∷ []
options_below false = Zero ∷ Plus ∷ Minus ∷ []

-- the children of a prefix: one choice more, in the order in which they are visited
abbrev pub children : List Sign → List (List Sign)
children p = map (λ s. p ++ s ∷ []) (options_below (all_zero p))

-- x solves part A of a prefix
abbrev pub SolvesA : Signed → List Sign → List ℤ → Type 0
SolvesA w p x = IsSolution w.matrix_a (w.kinds_a p) x

-- x solves part B of a prefix
abbrev pub SolvesB : Signed → List Sign → List ℤ → Type 0
SolvesB w p x = IsSolution w.matrix_b (w.kinds_b p) x

-- a prefix is feasible: it is not closed, and both its parts have solutions
pub record IsFeasible (w : Signed) (p : List Sign) : Type 0 where
  pub opened : w.closed p ≡ false
  pub part_a : (x : List ℤ) × SolvesA w p x
  pub part_b : (x : List ℤ) × SolvesB w p x

-- the laws of sign problems
pub record IsLawful (w : Signed) : Type 0 where
  -- there is a kind for each coordinate
  pub long_a : (p : List Sign) → IsPrefix w p → length (w.kinds_a p) ≡ width w.matrix_a
  pub long_b : (p : List Sign) → IsPrefix w p → length (w.kinds_b p) ≡ width w.matrix_b
  -- a solution of a part of a longer prefix solves that part of each prefix of it
  pub shorter_a : (p rest : List Sign) (x : List ℤ) → IsPrefix w (p ++ rest)
      → SolvesA w (p ++ rest) x → SolvesA w p x
  pub shorter_b : (p rest : List Sign) (x : List ℤ) → IsPrefix w (p ++ rest)
      → SolvesB w (p ++ rest) x → SolvesB w p x
  -- the negative of a solution of a part solves that part of the mirrored prefix
  pub mirrored_a : (p : List Sign) (x : List ℤ) → IsPrefix w p → SolvesA w p x
      → SolvesA w (mirror p) (map neg_ℤ x)
  pub mirrored_b : (p : List Sign) (x : List ℤ) → IsPrefix w p → SolvesB w p x
      → SolvesB w (mirror p) (map neg_ℤ x)
  -- every longer prefix of a closed prefix is closed, and its mirror is closed with it
  pub longer_closed : (p rest : List Sign) → IsPrefix w (p ++ rest) → w.closed p ≡ true
      → w.closed (p ++ rest) ≡ true
  pub mirror_closed : (p : List Sign) → IsPrefix w p → w.closed (mirror p) ≡ w.closed p
  -- few coordinates of a part have to be positive or negative
  pub few_a : (p : List Sign) → IsPrefix w p → signed_count (w.kinds_a p) ≤ MAX_SIGNED
  pub few_b : (p : List Sign) → IsPrefix w p → signed_count (w.kinds_b p) ≤ MAX_SIGNED

-- the laws of sign problems that trees depend on
pub record IsSteady (w : Signed) : Type 0 where
  pub shorter_a : (p rest : List Sign) (x : List ℤ) → IsPrefix w (p ++ rest)
      → SolvesA w (p ++ rest) x → SolvesA w p x
  pub shorter_b : (p rest : List Sign) (x : List ℤ) → IsPrefix w (p ++ rest)
      → SolvesB w (p ++ rest) x → SolvesB w p x
  pub mirrored_a : (p : List Sign) (x : List ℤ) → IsPrefix w p → SolvesA w p x
      → SolvesA w (mirror p) (map neg_ℤ x)
  pub mirrored_b : (p : List Sign) (x : List ℤ) → IsPrefix w p → SolvesB w p x
      → SolvesB w (mirror p) (map neg_ℤ x)
  pub longer_closed : (p rest : List Sign) → IsPrefix w (p ++ rest) → w.closed p ≡ true
      → w.closed (p ++ rest) ≡ true
  pub mirror_closed : (p : List Sign) → IsPrefix w p → w.closed (mirror p) ≡ w.closed p
