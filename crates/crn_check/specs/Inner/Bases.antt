-- For the contracts of private functions alone.
-- Bases of reactions, and the reactions whose rank they show.
-- Shapes: reactions and linkage classes count from 1.
use Rattle.std.specs.Prelude.{◌≡◌, ◌≤◌, ◌-◌, ◌==◌, Bool, true, ℕ, suc, List, [], ◌∷◌, length, filter, slice_index, slice_index_or}
use Rattle.std.specs.List.{AllByRecursion, range_with_len}
use Rattle.crn_vec.specs.declared.limits.TheConstants.{MAX_REACTIONS}
use Rattle.crn_vec.specs.Network.{Net, IsNetwork}
use Rattle.crn_cert.specs.declared.answer.RankProof.{RankProof}
use Rattle.crn_cert.specs.Questions.{Earlier}
use Rattle.crn_cert.specs.Ranges.{IsFrom}
use Rattle.crn_cert.specs.Parts.{IsRankProof}
use Rattle.crn_cert.specs.Valid.{class_places}
use Rattle.crn_check.specs.declared.members.Members.{Members}
use Rattle.crn_check.specs.declared.members.Members.TheVariants.{All, OfClass}

-- reactions of a network, no more of them than one may have
pub record IsBase (net : Net) (base : List ℕ) : Type 0 where
  pub network : IsNetwork net
  pub members : AllByRecursion (IsFrom 1 (length net.reactions)) base
  pub count : length base ≤ MAX_REACTIONS

-- reaction r is a member
abbrev pub is_member : Net → Members → ℕ → Bool
is_member net All r = true
is_member net (OfClass labels class) r =
    slice_index labels.now (slice_index_or net.reactions (r - 1) (0, 0)).0 == class

-- the members in order
abbrev pub members_of : Net → Members → List ℕ
members_of net members = filter (is_member net members) (range_with_len 1 (length net.reactions))

-- the labels by which members are known are those of the complexes
abbrev pub AreLabelled : Net → Members → Type 0
AreLabelled net All = Unit {0}
AreLabelled net (OfClass labels class) = length labels.now ≡ length net.complexes

-- proofs of ranks of the linkage classes from k on
abbrev pub AreRankProofs : Net → Earlier → ℕ → List RankProof → Type 0
AreRankProofs net earlier k [] = Unit {0}
AreRankProofs net earlier k (proof ∷ proofs) =
    IsRankProof net (class_places net earlier k) (length proof.base.list) proof
    × AreRankProofs net earlier (suc k) proofs
