-- Parts of proofs and of verdicts: forests, proofs of ranks, sides, signals and their trees.
-- Source: this project's own.
-- Shapes: `earlier` holds the verdicts on earlier questions, each with its question. Numbers in
-- verdicts count from 1.
use Rattle.std.specs.Prelude.{◌≡◌, ◌+◌, ◌-◌, ℕ, suc, ℤ, List, [], ◌∷◌, length}
use Rattle.std.specs.List.{AllByRecursion}
use Rattle.crn_vec.specs.Lists.{IsIn, IsAscending}
use Rattle.crn_vec.specs.Network.{Net}
use Rattle.crn_vec.specs.Deficiency.{class_members}
use Rattle.crn_cert.specs.declared.answer.RankProof.{RankProof}
use Rattle.crn_cert.specs.Questions.{Earlier, Q2, Q4, on, terminal_of, IsYes}
use Rattle.crn_cert.specs.Ranges.{IsNarrow, AreFrom, AreFree, AreFreeRows, AreBits}
use Rattle.crn_cert.specs.Data.{AreShelves}
use Rattle.crn_cert.specs.Trees.{Plan, IsFormedTree}
use Rattle.crn_cert.specs.Valid.{linkage, class_places, pair_places}

-- a forest: for each complex the reaction that joins it to its parent, and its depth
pub record IsForest (net : Net) (names depth : List ℕ) : Type 0 where
  pub names_are : AreFrom (length net.complexes) 0 (length net.reactions) names
  pub depth_is : AreFrom (length net.complexes) 0 (length net.complexes - 1) depth

-- an ascending base of `rank` of these members, a dual for each of them, and a combination for each
-- other member
pub record IsRankProof (net : Net) (members : List ℕ) (rank : ℕ) (proof : RankProof) : Type 0 where
  pub long : length proof.base.list ≡ rank
  pub ascending : IsAscending proof.base.list
  pub from : (r : ℕ) → IsIn r proof.base.list → IsIn r members
  pub duals : AreFreeRows rank (length net.names) proof.duals
  pub combs : AreFreeRows (length members - rank) (suc rank) proof.combs

-- the proof of the rank of linkage class k, which is the number of its complexes less 1 less its
-- deficiency
abbrev pub IsClassProof : Net → Earlier → ℕ → ℕ → RankProof → Type 0
IsClassProof net earlier k d proof =
    IsRankProof net (class_places net earlier k)
    (length (class_members (linkage earlier) k) - 1 - d) proof

-- the proofs of the linkage classes from k on, one for each deficiency
abbrev pub AreClassProofs : Net → Earlier → ℕ → List ℕ → List RankProof → Type 0
AreClassProofs net earlier k [] [] = Unit {0}
AreClassProofs net earlier k (d ∷ ds) (proof ∷ proofs) = IsClassProof net earlier k d proof
    × AreClassProofs net earlier (suc k) ds proofs
AreClassProofs net earlier k ds proofs = ⊥

-- a side for each of these pairs
pub record AreSides (net : Net) (pairs : List ℕ) (sides : List (List ℤ)) : Type 0 where
  pub long : length sides ≡ length pairs
  pub each : AllByRecursion (AreBits (length net.complexes)) sides

-- a shelf for each terminal class, a number for each species and reaction, and the level
pub record AreSignalRows (net : Net) (earlier : Earlier) (shelves mu : List ℤ) (level : ℤ)
    (weights : List ℤ) : Type 0 where
  pub shelves_are : AreShelves (terminal_of (on earlier Q2)) shelves
  pub mu_is : AreFree (length net.names) mu
  pub level_is : IsNarrow level
  pub weights_are : AreFree (length net.reactions) weights

-- a tree over the shelves and the species, with multipliers of system 5 and of system 2
abbrev pub IsSignalTree : Net → Earlier → Plan → Type 0
IsSignalTree net earlier tree =
    IsFormedTree (terminal_of (on earlier Q2) + length net.names)
    (length net.complexes + length (pair_places net earlier)) (length net.names) [] tree

-- signal: a tree for the vector and, if and only if the network is weakly reversible, one for its
-- negative
abbrev pub AreSignalTrees : Net → Earlier → List Plan → Type 0
AreSignalTrees net earlier (tree ∷ []) = (IsYes (on earlier Q4) → ⊥) × IsSignalTree net earlier tree
AreSignalTrees net earlier (tree ∷ second ∷ []) =
    IsYes (on earlier Q4) × IsSignalTree net earlier tree × IsSignalTree net earlier second
AreSignalTrees net earlier trees = ⊥
