use Rattle.crn_shape.proofs.Prelude.{take, AllZip, AllByRecursion, IsPairIn, IsPairFor}
use Rattle.crn_shape.proofs.pairs.linked_pairs.Given as goal

abbrev pub invariant-loop-i : goal.invariant-loop-i
invariant-loop-i l = record {
  pairs : AllZip (IsPairFor l.net l.g l.tops.of.items) (take l.i l.sides) l.pairs.items;
  small : AllByRecursion (IsPairIn l.net) l.pairs.items;
}
