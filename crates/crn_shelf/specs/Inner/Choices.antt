-- For the contracts of private functions alone.
-- What an option adds to what is required of part A of the problem of signals, by words.
-- Source: this project's own.
-- Shapes: choices and coordinates count from 0; coordinate k is bit k % 64 of word k / 64.
use Rattle.std.specs.Prelude.{◌≡◌, ◌<◌, ◌+◌, ℕ, List, [], ◌∷◌, ◌++◌, drop, length, bit_or, slice_index_or}
use Rattle.crn_vec.specs.declared.signs.Sign.{Sign}
use Rattle.crn_vec.specs.declared.signs.Sign.TheVariants.{Zero, Plus, Minus}
use Rattle.crn_vec.specs.declared.signs.Kind.{Kind}
use Rattle.crn_vec.specs.declared.signs.Kind.TheVariants.{Pos, Neg, NonNeg, Zero as ZeroKind, Free}
use Rattle.crn_vec.specs.Concordance.{kinds_b_of}
use Rattle.crn_vec.specs.Elementary.{width}
use Rattle.crn_vec.specs.Signals.{Shape, shelf_kinds, shelf_matrix}
use Rattle.crn_vec.specs.Systems.{kind_at}
use Rattle.crn_vec.specs.Vectors.{Mat}
use Rattle.crn_sign.specs.declared.bits.Bits.{Bits}
use Rattle.crn_sign.specs.Options.{kind_in, word_at, word_count}
use Rattle.crn_shelf.specs.declared.choice.Choice.{Choice}

-- what an option adds to a kind: the kind that it requires if nothing was required before
abbrev pub added_kind : Kind → Kind → Kind
added_kind Free kind = kind
added_kind Pos kind = Free
added_kind Neg kind = Free
added_kind NonNeg kind = Free
added_kind ZeroKind kind = Free

-- a kind with what was added: where nothing was required it is what was added, and elsewhere nothing
-- was added and it stays
abbrev pub IsWith : Kind → Kind → Kind → Type 0
IsWith old added new = (old ≡ Free → new ≡ added)
    × ((old ≡ Free → ⊥) → (added ≡ Free) × (new ≡ old))

-- the words say what this option of choice d adds, whatever the options before are
pub record IsAdded (s : Shape) (d : ℕ) (option : Sign) (words : List Bits) : Type 0 where
  pub count : length words ≡ word_count (shelf_matrix s)
  pub each : (p : List Sign) (k : ℕ) → length p ≡ d → k < width (shelf_matrix s)
      → IsWith (kind_at (shelf_kinds s p) k) (kind_in words k)
      (kind_at (shelf_kinds s (p ++ option ∷ [])) k)

-- the words of an option
abbrev pub added_by : Choice → Sign → List Bits
added_by c Zero = c.zero.items
added_by c Plus = c.plus.items
added_by c Minus = c.minus.items

-- what each option of choice d adds
abbrev pub IsChoice : Shape → ℕ → Choice → Type 0
IsChoice s d c = (option : Sign) → IsAdded s d option (added_by c option)

-- what the options of all choices add
pub record AreChoices (s : Shape) (choices : List Choice) : Type 0 where
  pub count : length choices ≡ s.count + s.species
  pub each : (d : ℕ) (c : Choice) → d < length choices → slice_index_or choices d c ≡ c
      → IsChoice s d c

-- what two words require
abbrev pub joined : Bits → Bits → Bits
joined one other = record { plus = bit_or one.plus other.plus; minus = bit_or one.minus other.minus }

-- each word is joined of those of two lists
pub record AreJoined (above added new : List Bits) : Type 0 where
  pub count : length new ≡ length above
  pub each : (w : ℕ) → w < length above
      → word_at new w ≡ joined (word_at above w) (word_at added w)

-- the kinds of part B of a prefix: by the signs of the species
abbrev pub kinds_after : Shape → Mat → List Sign → List Kind
kinds_after s m p = kinds_b_of m (drop s.count p)
