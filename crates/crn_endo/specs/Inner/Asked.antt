-- For the contracts of private functions alone.
-- How the kinds of a reaction's problem are asked for by words.
-- Source: this project's own.
-- Shapes: coordinate k is bit k % 64 of word k / 64.
use Rattle.std.specs.Prelude.{◌≡◌, ◌≢◌, ◌<◌, ◌+◌, ℕ, List, length}
use Rattle.crn_vec.specs.declared.signs.Sign.{Sign}
use Rattle.crn_vec.specs.declared.signs.Kind.{Kind}
use Rattle.crn_vec.specs.declared.signs.Kind.TheVariants.{Pos, Neg, Zero, NonNeg, Free}
use Rattle.crn_vec.specs.Network.{Net}
use Rattle.crn_vec.specs.Elementary.{width}
use Rattle.crn_vec.specs.Systems.{kind_at}
use Rattle.crn_sign.specs.declared.bits.Bits.{Bits}
use Rattle.crn_sign.specs.Options.{bit_of, kind_in, weakened, word_count}
use Rattle.crn_endo_check.specs.Endotactic.{reaction_at}
use Rattle.crn_endo_check.specs.Slopes.{slope_kinds, slope_matrix}

-- the kind that is asked for, and weakly if the coordinate is weak: a positive number for one at least 0
abbrev pub firm_kind : Kind → Kind
firm_kind Pos = Pos
firm_kind Neg = Neg
firm_kind Zero = Zero
firm_kind NonNeg = Pos
firm_kind Free = Free

-- a kind is asked for at a coordinate with this bit
abbrev pub IsAskable : ℕ → Kind → Type 0
IsAskable weak kind = weakened (firm_kind kind) weak ≡ kind

-- the words are weak at each coordinate that is at least 0 at some prefix, and at none that is positive at one
abbrev pub ShowsWeak : Net → ℕ → List ℕ → Type 0
ShowsWeak net r words = (p : List Sign) (k : ℕ) → k < width (slope_matrix net r)
    → IsAskable (bit_of words k) (kind_at (slope_kinds net r p) k)

-- the words require the kinds of a prefix, but a positive number for one at least 0
pub record AskFirmly (net : Net) (r : ℕ) (p : List Sign) (words : List Bits) : Type 0 where
  pub count : length words ≡ word_count (slope_matrix net r)
  pub each : (k : ℕ) → k < width (slope_matrix net r)
      → kind_in words k ≡ firm_kind (kind_at (slope_kinds net r p) k)

-- a positive number is required of the rises along those of the first n reactions that go from complex c, and the
-- rest is as before
pub record AreRaised (net : Net) (c n : ℕ) (old new : List Bits) : Type 0 where
  pub count : length new ≡ length old
  pub here : (q : ℕ) → q < n → (reaction_at net q).0 ≡ c → kind_in new (length net.names + q) ≡ Pos
  pub others : (k : ℕ) → ((q : ℕ) → q < n → (reaction_at net q).0 ≡ c → k ≢ length net.names + q)
      → kind_in new k ≡ kind_in old k
