-- What shows that a decomposition is the finest: a rank proof of all reactions, and links between reactions that it ties.
-- Source: this project's own.
-- Shapes: reactions, parts and the reactions of links count from 1; places in lists count from 0.
use Rattle.std.specs.Prelude.{◌≡◌, ◌≢◌, ◌<◌, ◌⊎◌, ◌+◌, ◌-◌, ◌==◌, if◌then◌else◌, min, max, ℕ, suc, ℤ, pos, List, [], ◌∷◌, length, filter, map, slice_index, slice_index_or, Option, Some, None, Result, Ok, Err}
use Rattle.std.specs.List.{range_with_len}
use Rattle.crn_vec.specs.Lists.{IsIn}
use Rattle.crn_vec.specs.Network.{Net}
use Rattle.crn_vec.specs.Vectors.{entry}
use Rattle.crn_cert.specs.declared.answer.RankProof.{RankProof}
use Rattle.crn_cert.specs.ClassTests.{AreNumbered, IsTree}
use Rattle.crn_cert.specs.Parts.{IsRankProof}
use Rattle.crn_cert.specs.Ranges.{IsFrom, AreFrom}
use Rattle.crn_cert.specs.RankTests.{outside, rank_tests}
use Rattle.crn_cert.specs.Tests.{Test, AllHold, FailsFirst}
use Rattle.crn_check.specs.declared.fault.CheckFault.{CheckFault}
use Rattle.crn_indep_check.specs.Finest.{all_reactions, label_of}

-- the proof has the form of a proof of the rank of all reactions
abbrev pub IsProofForm : Net → RankProof → Type 0
IsProofForm net proof = IsRankProof net (all_reactions net) (length proof.base.list) proof

-- ---- ties

-- the reactions that a rank proof combines
abbrev pub combined : Net → RankProof → List ℕ
combined net proof = outside proof.base.list (all_reactions net)

-- how many reactions up to k are outside the base
abbrev pub count_outside : RankProof → ℕ → ℕ
count_outside proof k = length (outside proof.base.list (range_with_len 1 k))

-- the combination of reaction r, by the reactions that have one, in order
abbrev pub comb_for : List ℕ → List (List ℤ) → ℕ → List ℤ
comb_for [] combs r = []
comb_for (q ∷ qs) [] r = []
comb_for (q ∷ qs) (comb ∷ combs) r = if q == r then comb else comb_for qs combs r

-- reaction r is outside the base, reaction q is in it, and the combination of r has at q a number that is not zero
pub record DrawsOn (net : Net) (proof : RankProof) (r q : ℕ) : Type 0 where
  pub out : IsIn r (combined net proof)
  pub place : ℕ
  pub inside : place < length proof.base.list
  pub member : slice_index proof.base.list place ≡ q
  pub some : entry (comb_for (combined net proof) proof.combs r) (suc place) ≢ pos 0

-- the row of the combination of reaction r, or r draws on nothing
abbrev pub GivesRow : Net → RankProof → ℕ → Option ℕ → Type 0
GivesRow net proof r (Some row) = IsIn r (combined net proof) × (row < length proof.combs)
    × (comb_for (combined net proof) proof.combs r ≡ slice_index_or proof.combs row [])
GivesRow net proof r None = (q : ℕ) → DrawsOn net proof r q → ⊥

-- one of them is outside the base and draws on the other, which is in it
abbrev pub AreTied : Net → RankProof → ℕ → ℕ → Type 0
AreTied net proof r q = DrawsOn net proof r q ⊎ DrawsOn net proof q r

-- ---- the tests of labels and of links

-- labels count from 1 by first appearance, and tied reactions have equal labels
pub record AreEvenLabels (net : Net) (proof : RankProof) (labels : List ℕ) : Type 0 where
  pub count : ℕ
  pub numbered : AreNumbered labels count
  pub even : (r q : ℕ) → DrawsOn net proof r q → label_of labels r ≡ label_of labels q

-- the reaction at place j is tied to the one that it names, whose depth is less by one
pub record HangsByTie (net : Net) (proof : RankProof) (up depth : List ℕ) (j : ℕ) : Type 0 where
  pub tied : AreTied net proof (suc j) (slice_index up j)
  pub deeper : slice_index depth j ≡ suc (slice_index depth (slice_index up j - 1))

-- the least reaction of each part names none and has depth 0, and each other one hangs by a tie
abbrev pub AreLinked : Net → RankProof → List ℕ → List ℕ → List ℕ → Type 0
AreLinked net proof labels up depth = (j : ℕ) → j < length net.reactions
    → IsTree (HangsByTie net proof up depth) labels up depth j

-- ---- form, and all tests

-- how many reactions a network has
abbrev pub reactions : Net → ℕ
reactions net = length net.reactions

-- a rank proof of all reactions, and for each reaction a label, the reaction from which it hangs, and a depth
pub record IsShownForm (net : Net) (rank : ℕ) (proof : RankProof) (labels up depth : List ℕ)
    : Type 0 where
  pub rank_is : IsFrom 1 (min (length net.names) (reactions net)) rank
  pub proof_is : IsRankProof net (all_reactions net) rank proof
  pub labels_are : AreFrom (reactions net) 1 (reactions net) labels
  pub up_is : AreFrom (reactions net) 0 (reactions net) up
  pub depth_is : AreFrom (reactions net) 0 (reactions net - 1) depth

-- the tests of the rank proof, whose base is record 1
abbrev pub proof_tests : Net → RankProof → List {1} Test
proof_tests net proof =
    rank_tests net (all_reactions net) 1 proof.base.list proof.duals proof.combs

-- all tests hold
pub record IsShown (net : Net) (proof : RankProof) (labels up depth : List ℕ) : Type 0 where
  pub ranks : AllHold (proof_tests net proof)
  pub even : AreEvenLabels net proof labels
  pub linked : AreLinked net proof labels up depth

-- the code of a test of a rank proof in this document, by its code in certificates: of a dual, and of
-- a combination
abbrev pub part_code : ℕ → ℕ
part_code code = if code == 33 then 61 else 62

-- the record of the labels
abbrev pub label_record : RankProof → ℕ
label_record proof = 2 + length proof.duals + length proof.combs

-- a test of the rank proof fails first, in this record and with this code
abbrev pub FailsRank : Net → RankProof → (part code : ℕ) → Type 0
FailsRank net proof part code =
    (kind : ℕ) × (code ≡ part_code kind) × FailsFirst (proof_tests net proof) part kind

-- the proof's tests hold, and that of the labels or that of the links is the first that fails
pub record FailsLink (net : Net) (proof : RankProof) (labels up depth : List ℕ) (part code : ℕ)
    : Type 0 where
  pub ranks : AllHold (proof_tests net proof)
  pub link : ((AreEvenLabels net proof labels → ⊥) × (part ≡ label_record proof) × (code ≡ 63))
      ⊎ (AreEvenLabels net proof labels × ((AreLinked net proof labels up depth → ⊥)
      × (part ≡ label_record proof + 2) × (code ≡ 64)))

-- the first test that fails is of this record and has this code
abbrev pub FailsShown : Net → RankProof → (labels up depth : List ℕ) → (part code : ℕ) → Type 0
FailsShown net proof labels up depth part code =
    FailsRank net proof part code ⊎ FailsLink net proof labels up depth part code

-- the answer to a check: all tests hold, or which is the first that fails
abbrev pub JudgesShown : Net → RankProof → (labels up depth : List ℕ)
    → Result (Unit {0}) CheckFault → Type 0
JudgesShown net proof labels up depth (Ok u) = IsShown net proof labels up depth
JudgesShown net proof labels up depth (Err fault) =
    FailsShown net proof labels up depth fault.part fault.code

-- the greatest number of a list, and 0 if it is empty
abbrev pub greatest : List ℕ → ℕ
greatest [] = 0
greatest (x ∷ xs) = max x (greatest xs)

-- how many members of the base have each label, in order
abbrev pub part_ranks : RankProof → List ℕ → ℕ → List ℕ
part_ranks proof labels count =
    map (λ k. length (filter (λ r. label_of labels r == k) proof.base.list)) (range_with_len 1 count)
