-- The matrix of some reactions, and what a proof of their rank shows.
-- Source: any book of linear algebra; the form of the proof is this project's own.
-- Shapes: reactions count from 1. The matrix has a row for each of these reactions, in order, and a
-- column for each species.
use Rattle.std.specs.Prelude.{◌≤◌, ℕ, List, length}
use Rattle.crn_vec.specs.Lists.{IsIn, IsAscending}
use Rattle.crn_vec.specs.Network.{Net}
use Rattle.crn_vec.specs.Vectors.{Mat}
use Rattle.crn_vec.specs.Elementary.{NamesWide}
use Rattle.crn_vec.specs.Rank.{IsRank}
use Rattle.crn_farkas.specs.declared.fault.Stop.{Stop}
use Rattle.crn_farkas.specs.declared.fault.Stop.TheVariants.{Wide, NoMemory}
use Rattle.crn_cert.specs.declared.answer.RankProof.{RankProof}
use Rattle.crn_cert.specs.Tests.{AllHold}
use Rattle.crn_cert.specs.Parts.{IsRankProof}
use Rattle.crn_cert.specs.RankTests.{vectors_of, rank_tests}

-- an ascending list of reactions of the network
pub record AreMembers (net : Net) (members : List ℕ) : Type 0 where
  pub ascending : IsAscending members
  pub each : (r : ℕ) → IsIn r members → (1 ≤ r) × (r ≤ length net.reactions)

-- the vectors of the members as the rows of a matrix
abbrev pub member_matrix : Net → List ℕ → Mat
member_matrix net members = record { cols = length net.names; rows = vectors_of net members }

-- a proof of the rank of the members' vectors: it has its form, its tests hold wherever its records
-- are, and the number of its base is the rank
pub record ProvesRank (net : Net) (members : List ℕ) (proof : RankProof) : Type 0 where
  pub formed : IsRankProof net members (length proof.base.list) proof
  pub holds : (part : ℕ)
      → AllHold (rank_tests net members part proof.base.list proof.duals proof.combs)
  pub rank : IsRank (vectors_of net members) (length proof.base.list)

-- a basis and an index name a wide vector of the matrix, or memory runs out
abbrev pub IsWideStop : Mat → Stop → Type 0
IsWideStop a (Wide index basis) = NamesWide a index basis.list
IsWideStop a NoMemory = Unit {0}
