-- Laws of the sign problem of a reaction, and what trees show of a network.
-- Source: this project's own.
use Rattle.std.specs.Prelude.{◌≡◌, ◌<◌, ◌↔◌, ℕ, ℤ, neg_ℤ, false, List, [], ◌∷◌, length, map}
use Rattle.crn_vec.specs.declared.signs.Sign.{Sign}
use Rattle.crn_vec.specs.declared.signs.Sign.TheVariants.{Zero, Plus, Minus}
use Rattle.crn_vec.specs.Network.{Net, IsNetwork}
use Rattle.crn_vec.specs.Problems.{IsFull, IsFeasible, IsLawful, IsSteady, SolvesA}
use Rattle.crn_cert.specs.Trees.{Plan, IsValid}
use Rattle.crn_endo_check.specs.Endotactic.{IsAgainst, IsEndotactic, IsEndotacticAt}
use Rattle.crn_endo_check.specs.Slopes.{slopes}

-- the sign problem of a reaction meets the laws that trees depend on
abbrev pub SlopesAreSteady : Type 0
SlopesAreSteady = (net : Net) (r : ℕ) → IsSteady (slopes net r)

-- the sign problem of a reaction meets the laws of sign problems
abbrev pub SlopesAreLawful : Type 0
SlopesAreLawful = (net : Net) (r : ℕ) → IsNetwork net → IsLawful (slopes net r)

-- the slope of a solution of part A: its negative if the first option is plus
abbrev pub slope_by : List Sign → List ℤ → List ℤ
slope_by [] x = x
slope_by (Zero ∷ p) x = x
slope_by (Plus ∷ p) x = map neg_ℤ x
slope_by (Minus ∷ p) x = x

-- a slope is against the reaction if and only if some full prefix of its problem is feasible
pub record AgainstIfFeasible (net : Net) (r : ℕ) : Type 0 where
  pub feasible : (w : List ℤ) → IsAgainst net r w
      → (p : List Sign) × IsFull (slopes net r) p × IsFeasible (slopes net r) p
  -- a solution of part A of a full open prefix is such a slope, or its negative
  pub named : (p : List Sign) (x : List ℤ) → IsFull (slopes net r) p
      → (slopes net r).closed p ≡ false → SolvesA (slopes net r) p x → IsAgainst net r (slope_by p x)
  pub against : (p : List Sign) → IsFull (slopes net r) p → IsFeasible (slopes net r) p
      → (w : List ℤ) × IsAgainst net r w

-- slopes against a reaction and full feasible prefixes agree
abbrev pub FeasiblePrefixesDecideSlopes : Type 0
FeasiblePrefixesDecideSlopes = (net : Net) (r : ℕ) → IsNetwork net → r < length net.reactions
    → AgainstIfFeasible net r

-- a network with no slope against a reaction is endotactic at it
abbrev pub NoneAgainstIsEndotactic : Type 0
NoneAgainstIsEndotactic = (net : Net) (r : ℕ)
    → ((w : List ℤ) → IsAgainst net r w → ⊥) → IsEndotacticAt net r

-- a valid tree of a reaction's problem shows that the network is endotactic at it
abbrev pub ValidTreesShowEndotactic : Type 0
ValidTreesShowEndotactic = (net : Net) (r : ℕ) (tree : Plan) → IsNetwork net
    → r < length net.reactions → IsValid (slopes net r) [] tree → IsEndotacticAt net r

-- a slope against a reaction shows that the network is not endotactic at it
abbrev pub SlopesShowNotEndotactic : Type 0
SlopesShowNotEndotactic = (net : Net) (r : ℕ) (w : List ℤ) → IsAgainst net r w
    → IsEndotacticAt net r → ⊥

-- a network is endotactic if and only if no full prefix of a reaction's problem is feasible
abbrev pub FeasiblePrefixesDecideEndotactic : Type 0
FeasiblePrefixesDecideEndotactic = (net : Net) → IsNetwork net
    → IsEndotactic net ↔ ((r : ℕ) (p : List Sign) → r < length net.reactions
    → IsFull (slopes net r) p → IsFeasible (slopes net r) p → ⊥)
