-- What `cut_pair` gives: the side of a cut pair, or a walk that shows that a pair is not one.
-- Source: Feinberg (1995), for cut pairs; the walk is this project's own.
-- Shapes: complexes and the two of a pair are counted from 0; reactions, and the complexes of a walk, from 1.
use Rattle.std.specs.Prelude.{◌≡◌, ◌↔◌, ℕ, ℤ, pos, List, length}
use Rattle.crn_vec.specs.Network.{Net}
use Rattle.crn_vec.specs.Linkage.{AreRightLabels}
use Rattle.crn_vec.specs.Vectors.{entry}
use Rattle.crn_vec.specs.CutPairs.{IsOnSide, IsCutPair}
use Rattle.crn_cert.specs.Ranges.{AreBits}
use Rattle.crn_cert.specs.Says.{IsReactionNumber}
use Rattle.crn_cert.specs.Data.{IsWalkOf}
use Rattle.crn_cert.specs.ClassTests.{AreSideMarks, IsWayRound}
use Rattle.crn_graph.specs.declared.pair.CutPair.{CutPair}
use Rattle.crn_graph.specs.declared.pair.CutPair.TheVariants.{Side, Walk}

-- reaction r goes from y to z, which are a cut pair, and the marks are those of the side of z
pub record HasSide (net : Net) (r : ℕ) (marks : List ℤ) : Type 0 where
  pub y : ℕ
  pub z : ℕ
  pub goes : IsReactionNumber net r y z
  pub pair : IsCutPair net.reactions y z
  pub bits : AreBits (length net.complexes) marks
  pub side : (c : ℕ) → IsOnSide net.reactions y z c ↔ (entry marks c ≡ pos 1)
  -- the marks pass their test with the labels of the linkage classes
  pub tested : (labels : List ℕ) → length labels ≡ length net.complexes → AreRightLabels net.reactions labels → AreSideMarks net labels r marks

-- reaction r goes from y to z, which are not a cut pair, as the walk round it shows
pub record HasWayRound (net : Net) (r : ℕ) (walk : List ℕ) : Type 0 where
  pub y : ℕ
  pub z : ℕ
  pub goes : IsReactionNumber net r y z
  pub no_pair : IsCutPair net.reactions y z → ⊥
  pub listed : IsWalkOf (length net.complexes) walk
  pub way : IsWayRound net r walk

-- the pair of reaction r is a cut pair with this side, or it is not one, as this walk shows
abbrev pub GivesCutPair : Net → ℕ → CutPair → Type 0
GivesCutPair net r (Side marks) = HasSide net r marks.list
GivesCutPair net r (Walk walk) = HasWayRound net r walk.list
