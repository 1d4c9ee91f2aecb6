use Rattle.crn_solve.proofs.Prelude.{◌≡◌, take, flat_map, reaction_vector, AreWithin, MAX_AMOUNT}
use Rattle.crn_solve.proofs.systems.entries_by_reaction.Given as goal

abbrev pub invariant-loop-r : goal.invariant-loop-r
invariant-loop-r l = record {
  value : l.entries.items ≡ flat_map (reaction_vector l.net) (take l.r l.net.reactions);
  small : AreWithin MAX_AMOUNT l.entries.items;
}
