use Rattle.crn_graph.proofs.Prelude.{◌≡◌, take, marks_of}
use Rattle.crn_graph.proofs.pair.side.Given as goal

abbrev pub invariant-loop-l : goal.invariant-loop-l
invariant-loop-l l = l.marks.list ≡ marks_of (take l.l-index l.label)
