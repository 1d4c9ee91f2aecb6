use Rattle.crn_net.proofs.Counting.{IsNoting}
use Rattle.crn_net.proofs.tables.note_side.Given as goal

abbrev pub invariant-loop-term : goal.invariant-loop-term
invariant-loop-term l = IsNoting l.initial.names.keys l.text l.side l.term-index l.names.keys l.row
