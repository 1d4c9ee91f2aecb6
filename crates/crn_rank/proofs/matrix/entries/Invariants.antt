use Rattle.crn_rank.proofs.Prelude.{◌≡◌, take, flat_map, AreWithin, MAX_AMOUNT, vector_of}
use Rattle.crn_rank.proofs.matrix.entries.Given as goal

abbrev pub invariant-loop-member : goal.invariant-loop-member
invariant-loop-member l = record {
  value : l.entries.items ≡ flat_map (vector_of l.net) (take l.member-index l.members);
  small : AreWithin MAX_AMOUNT l.entries.items;
}
