use Rattle.crn_graph.proofs.Prelude.{◌≡◌, length}
use Rattle.crn_graph.proofs.ExitLaws.{AreExitsTo}
use Rattle.crn_graph.proofs.strong_data.find_exits.Given as goal

abbrev pub invariant-loop-r : goal.invariant-loop-r
invariant-loop-r l = record {
  long : length l.exit.items ≡ length l.fn.exit.items;
  exits : AreExitsTo l.net l.label l.exit.items l.r;
}
