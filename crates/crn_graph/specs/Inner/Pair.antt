-- For the contracts of private functions alone.
-- A search over links, and the walk back from a complex that it has found.
-- Shapes: complexes are counted from 0, in a walk from 1, and reactions from 1.
use Rattle.std.specs.Prelude.{◌≡◌, ◌<◌, ◌+◌, ◌⊎◌, ℕ, zero, suc, ℤ, pos, List, ◌∷◌, length, map}
use Rattle.std.specs.List.{AllByRecursion}
use Rattle.crn_vec.specs.Network.{Net}
use Rattle.crn_vec.specs.Walks.{IsAlong}
use Rattle.crn_vec.specs.CutPairs.{IsBetween}
use Rattle.crn_cert.specs.Ranges.{IsFrom}
use Rattle.crn_cert.specs.Says.{IsReactionNumber, from_zero}
use Rattle.crn_graph.specs.declared.search.Search.{Search}
use Rattle.crn_graph.specs.Inner.Search.{AreLong, label_at, up_at, depth_at, first_found}

-- the mark of a complex by its label
abbrev pub mark_of : ℕ → ℤ
mark_of zero = pos 0
mark_of (suc l) = pos 1

-- 1 for each complex that has a label, 0 for each other
abbrev pub marks_of : List ℕ → List ℤ
marks_of labels = map mark_of labels

-- c was found, from d, which its reaction links to it
pub record IsStepBack (net : Net) (s : Search) (c d : ℕ) : Type 0 where
  pub a : ℕ
  pub b : ℕ
  pub goes : IsReactionNumber net (up_at s c) a b
  pub between : IsBetween a b d c
  pub its_own : label_at s c ≡ s.newest
  pub its : label_at s d ≡ s.newest
  pub deeper : depth_at s c ≡ suc (depth_at s d)

-- the search has found complexes by links, in steps fewer than there are complexes
pub record IsSearched (net : Net) (s : Search) : Type 0 where
  pub places : length s.label.items ≡ length net.complexes
  pub long : AreLong s
  pub inside : (c : ℕ) → label_at s c ≡ s.newest → c < length net.complexes
  pub hangs : (c : ℕ) → label_at s c ≡ s.newest → ((c ≡ first_found s) × (up_at s c ≡ 0)) ⊎ ((d : ℕ) × IsStepBack net s c d)
  pub deep : (c : ℕ) → label_at s c ≡ s.newest → depth_at s c < length net.complexes

-- a walk, counted from 1, from a complex to another, each step back by the reaction by which the search found a complex
pub record IsWalkBack (net : Net) (s : Search) (from to : ℕ) (walk : List ℕ) : Type 0 where
  pub steps : List ℕ
  pub is : walk ≡ (from + 1) ∷ steps
  pub along : IsAlong (IsStepBack net s) from (from_zero steps) to
  pub each : AllByRecursion (IsFrom 1 (length net.complexes)) walk
  pub its : label_at s to ≡ s.newest
  pub few : length walk + depth_at s to ≡ depth_at s from + 1
