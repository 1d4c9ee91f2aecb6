-- For the contracts of private functions alone. The reactions of linkage classes and their ranks.
-- Source: this project's own.
-- Shapes: reactions, labels and classes count from 1, complexes from 0.
use Rattle.std.specs.Prelude.{◌≡◌, ◌<◌, ◌+◌, ◌-◌, ◌==◌, ℕ, suc, List, [], ◌∷◌, length, filter, slice_index, slice_index_or}
use Rattle.std.specs.List.{range_with_len}
use Rattle.crn_vec.specs.Network.{Net}
use Rattle.crn_vec.specs.Elementary.{NamesWide}
use Rattle.crn_vec.specs.Deficiency.{class_members}
use Rattle.crn_vec.specs.NetSystems.{class_system}
use Rattle.crn_cert.specs.declared.answer.RankProof.{RankProof}
use Rattle.crn_cert.specs.Ranges.{IsFrom}
use Rattle.crn_rank.specs.Rank.{ProvesRank}
use Rattle.crn_defi.specs.declared.class_rank.ClassStop.{ClassStop}
use Rattle.crn_defi.specs.declared.class_rank.ClassStop.TheVariants.{Wide, NoMemory}

-- the reactions of linkage class k
abbrev pub reactions_of : Net → List ℕ → ℕ → List ℕ
reactions_of net labels k =
    filter (λ r. slice_index labels (slice_index_or net.reactions (r - 1) (0, 0)).0 == k)
    (range_with_len 1 (length net.reactions))

-- some complex has label k
abbrev pub IsClass : List ℕ → ℕ → Type 0
IsClass labels k = (y : ℕ) × (y < length labels) × (slice_index labels y ≡ k)

-- a proof of the rank of class k, and what is left of the number of its complexes less 1
pub record IsClassRank (net : Net) (labels : List ℕ) (k d : ℕ) (proof : RankProof) : Type 0 where
  pub proves : ProvesRank net (reactions_of net labels k) proof
  pub left : d + 1 + length proof.base.list ≡ length (class_members labels k)

-- a proof and a deficiency for each class from k on
abbrev pub AreClassRanks : Net → List ℕ → ℕ → List ℕ → List RankProof → Type 0
AreClassRanks net labels k [] [] = Unit {0}
AreClassRanks net labels k (d ∷ ds) (proof ∷ proofs) = IsClassRank net labels k d proof
    × AreClassRanks net labels (suc k) ds proofs
AreClassRanks net labels k ds proofs = ⊥

-- the system of class k is wide, or memory runs out
abbrev pub IsClassStop : Net → List ℕ → ℕ → ClassStop → Type 0
IsClassStop net labels k (Wide class index basis) = (class ≡ k)
    × NamesWide (class_system net labels k) index basis.list
IsClassStop net labels k NoMemory = Unit {0}

-- the system of a class up to the count is wide, or memory runs out
abbrev pub IsStop : Net → List ℕ → ℕ → ClassStop → Type 0
IsStop net labels count (Wide class index basis) = IsFrom 1 count class
    × NamesWide (class_system net labels class) index basis.list
IsStop net labels count NoMemory = Unit {0}
