use Rattle.crn_solve.proofs.Leaving.{weak_yes, weak_no}
use Rattle.crn_solve.proofs.reversible.weakly_reversible.Goals as goal
use Rattle.crn_solve.proofs.reversible.weakly_reversible.Goals.{in-Some, in-None}

pub returns : goal.returns
returns c earlier same known = elim c.match-first_leaving.branch [
  | in-Some w ↦ rw (c.plain.ensures, w.verdict-is) (weak_no c.args.net.now c.args.label.now w.in-Some.reaction earlier c.meets_definition.ensures same known w.in-Some.ensures)
  | in-None w ↦ rw (c.plain.ensures, w.verdict-is) (weak_yes c.args.net.now c.args.label.now earlier c.meets_definition.ensures same known w.in-None.ensures)
]
