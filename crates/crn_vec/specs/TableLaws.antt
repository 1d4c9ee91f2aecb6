-- Laws of the sign problem of an influence table.
use Rattle.std.specs.Prelude.{◌≡◌, ℤ, false, List}
use Rattle.crn_vec.specs.declared.signs.Sign.{Sign}
use Rattle.crn_vec.specs.Vectors.{Mat}
use Rattle.crn_vec.specs.Problems.{IsFull, IsLawful, IsSteady, IsFeasible, SolvesA, SolvesB}
use Rattle.crn_vec.specs.Concordance.{IsTable, IsDiscordant, concordance}

-- the sign problem of a table meets the laws of sign problems
abbrev pub TablesAreLawful : Type 0
TablesAreLawful = (m : Mat) (table : List (List Sign)) → IsTable m table
    → IsLawful (concordance m table)

-- the sign problem of any table meets the laws that trees depend on
abbrev pub TablesAreSteady : Type 0
TablesAreSteady = (m : Mat) (table : List (List Sign)) → IsSteady (concordance m table)

-- a table has a discordance if and only if some full prefix of its problem is feasible
pub record DiscordantIfFeasible (m : Mat) (table : List (List Sign)) : Type 0 where
  pub feasible : (alpha weights : List ℤ) → IsDiscordant m table alpha weights
      → (p : List Sign) × IsFull (concordance m table) p × IsFeasible (concordance m table) p
  -- the solutions of both parts of a full open prefix are a discordance
  pub named : (p : List Sign) (alpha weights : List ℤ) → IsFull (concordance m table) p
      → (concordance m table).closed p ≡ false → SolvesA (concordance m table) p alpha
      → SolvesB (concordance m table) p weights → IsDiscordant m table alpha weights
  pub discordant : (p : List Sign) → IsFull (concordance m table) p → IsFeasible (concordance m table) p
      → (alpha : List ℤ) × (weights : List ℤ) × IsDiscordant m table alpha weights

-- discordances and full feasible prefixes agree
abbrev pub FeasiblePrefixesDecideDiscordance : Type 0
FeasiblePrefixesDecideDiscordance = (m : Mat) (table : List (List Sign)) → IsTable m table
    → DiscordantIfFeasible m table
