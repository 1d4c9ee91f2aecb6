use Rattle.crn_text.proofs.Prelude.{AreFound}
use Rattle.crn_text.proofs.FoundPieces.{BeginsLines}
use Rattle.crn_text.proofs.canonical.is_canonical.Given as goal

abbrev pub invariant-loop-r : goal.invariant-loop-r
invariant-loop-r l = record {
  begins : BeginsLines l.net l.text l.r l.left;
  found : AreFound l.net 0 l.found.pieces;
}
