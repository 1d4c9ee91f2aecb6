-- The influence tables of a network, and its concordance.
-- Source: Shinar and Feinberg, Concordant chemical reaction networks (2012). The strong table is
-- this project's own.
-- Shapes: a table has for each reaction a list of signs, one for each species.
use Rattle.std.specs.Prelude.{◌≡◌, ℕ, ℤ, List, map}
use Rattle.crn_vec.specs.declared.signs.Sign.{Sign}
use Rattle.crn_vec.specs.Network.{Net, IsNetwork, sides_of, minus}
use Rattle.crn_vec.specs.Vectors.{entry}
use Rattle.crn_vec.specs.Rank.{combination_at}
use Rattle.crn_vec.specs.Deficiency.{vectors}
use Rattle.crn_vec.specs.NetSystems.{reaction_system}
use Rattle.crn_vec.specs.Concordance.{sign, image, IsTable, IsConcordant}
use Rattle.crn_vec.specs.Signals.{IsStoichiometric}

-- the plain table: plus if the reactant holds the species, else zero
abbrev pub plain_table : Net → List (List Sign)
plain_table net = map (λ r. map sign (sides_of net r).0) net.reactions

-- the strong table: the sign of the reactant's amount less the product's amount
abbrev pub strong_table : Net → List (List Sign)
strong_table net = map (λ r. map sign (minus (sides_of net r).0 (sides_of net r).1)) net.reactions

-- a concordant network: the plain table has no discordance
abbrev pub IsConcordantNet : Net → Type 0
IsConcordantNet net = IsConcordant (reaction_system net) (plain_table net)

-- a strongly concordant network: the strong table has no discordance
abbrev pub IsStronglyConcordantNet : Net → Type 0
IsStronglyConcordantNet net = IsConcordant (reaction_system net) (strong_table net)

-- the columns of system 2 are the reaction vectors, so it combines them; and both tables fit it
pub record AreTablesOf (net : Net) : Type 0 where
  pub columns : IsStoichiometric net (reaction_system net)
  pub combines : (z : List ℤ) (s : ℕ)
      → entry (image (reaction_system net) z) s ≡ combination_at z (vectors net) s
  pub plain : IsTable (reaction_system net) (plain_table net)
  pub strong : IsTable (reaction_system net) (strong_table net)

-- both influence tables of a network fit its system 2
abbrev pub NetworksHaveTables : Type 0
NetworksHaveTables = (net : Net) → IsNetwork net → AreTablesOf net
