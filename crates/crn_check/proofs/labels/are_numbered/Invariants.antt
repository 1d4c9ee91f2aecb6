use Rattle.crn_check.proofs.Numbering.{IsNumberedTo}
use Rattle.crn_check.proofs.labels.are_numbered.Given as goal

abbrev pub invariant-loop-label : goal.invariant-loop-label
invariant-loop-label l = IsNumberedTo l.labels l.label-index l.most
