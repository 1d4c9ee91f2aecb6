-- For the contracts of private functions alone.
-- What the bytes of a line say, read from left to right.
-- Source: this project's own. Shapes: words and lines are lists of bytes; 32 is a space.
use Rattle.std.specs.Prelude.{◌≡◌, ◌≤◌, ◌<◌, ◌⊎◌, ◌-◌, ◌++◌, ℕ, suc, ℤ, pos, negsuc, min, List, [], ◌∷◌, length, take, slice_index}
use Rattle.std.specs.List.{AllZip, flat_map}
use Rattle.std.specs.Char.{digit_value}
use Rattle.std.specs.Str.Parse.{AllDigits, digits_value}
use Rattle.crn_vec.specs.declared.limits.TheConstants.{WIDE_SOLUTION}
use Rattle.crn_ctext.specs.Records.{IsNatural, IsSpelled, BeginsWith}

-- this many digits begin the bytes, and no more; their value is this, but for one that is too great
pub record HasDigits (bytes : List ℕ) (value count : ℕ) : Type 0 where
  pub within : count ≤ length bytes
  pub digits : AllDigits 10 (take count bytes)
  pub is : value ≡ min (digits_value 10 (take count bytes)) WIDE_SOLUTION
  pub stops : count < length bytes → digit_value (slice_index bytes count) < 10 → ⊥

-- after this many bytes there is a space, or nothing
abbrev pub EndsAt : List ℕ → ℕ → Type 0
EndsAt bytes count = count < length bytes → slice_index bytes count ≡ 32

-- nothing, or a space and more
abbrev pub IsTail : List ℕ → Type 0
IsTail bytes = (bytes ≡ []) ⊎ ((rest : List ℕ) × (bytes ≡ 32 ∷ rest))

-- a number as it is held while a line is read: one that is too great is the least such number of its sign
abbrev pub capped : ℤ → ℤ
capped (pos n) = pos (min n WIDE_SOLUTION)
capped (negsuc n) = negsuc (min n (WIDE_SOLUTION - 1))

-- the bytes before the first space, which are this many, are a natural number above 0, held as this
pub record HasNatural (bytes : List ℕ) (value count : ℕ) : Type 0 where
  pub within : count ≤ length bytes
  pub ends : EndsAt bytes count
  pub above : ℕ
  pub natural : IsNatural (take count bytes) (suc above)
  pub is : value ≡ min (suc above) WIDE_SOLUTION

-- the bytes before the first space are no natural number
abbrev pub HasNoNatural : List ℕ → Type 0
HasNoNatural bytes = (word : List ℕ) (n : ℕ) → BeginsWith bytes word → IsNatural word n → ⊥

-- the bytes before the first space, which are this many, are a number, held as this
pub record HasNumber (bytes : List ℕ) (value : ℤ) (count : ℕ) : Type 0 where
  pub within : count ≤ length bytes
  pub ends : EndsAt bytes count
  pub number : ℤ
  pub spelled : IsSpelled (take count bytes) number
  pub is : value ≡ capped number

-- the bytes before the first space are no number
abbrev pub HasNoNumber : List ℕ → Type 0
HasNoNumber bytes = (word : List ℕ) (z : ℤ) → BeginsWith bytes word → IsSpelled word z → ⊥

-- the bytes are a space, a 0 that is a number, and these
pub record BeginsWithZero (bytes after : List ℕ) : Type 0 where
  pub is : bytes ≡ 32 ∷ 48 ∷ after
  pub tail : IsTail after

-- the bytes are four zeros that are numbers, each after a space, and these
pub record BeginsWithZeros (bytes after : List ℕ) : Type 0 where
  pub is : bytes ≡ 32 ∷ 48 ∷ 32 ∷ 48 ∷ 32 ∷ 48 ∷ 32 ∷ 48 ∷ after
  pub tail : IsTail after

-- each text after a space
abbrev pub spaced : List (List ℕ) → List ℕ
spaced texts = flat_map (λ t. 32 ∷ t) texts

-- the bytes are these numbers, each after a space
abbrev pub SaysNumbers : List ℕ → List ℤ → Type 0
SaysNumbers bytes zs = (texts : List (List ℕ)) × AllZip IsSpelled texts zs × (bytes ≡ spaced texts)

-- these numbers begin the bytes `before`, and `left` are after them
pub record Came (before left : List ℕ) (zs : List ℤ) : Type 0 where
  pub adds : (ys : List ℤ) → SaysNumbers left ys → SaysNumbers before (zs ++ ys)
  pub only : (ys : List ℤ) → SaysNumbers before ys → (more : List ℤ) × (ys ≡ zs ++ more) × SaysNumbers left more
