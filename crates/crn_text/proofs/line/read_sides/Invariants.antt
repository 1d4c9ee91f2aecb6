use Rattle.crn_text.proofs.SidesRead.{size_after}
use Rattle.crn_text.proofs.ArrowsSaid.{ArrowsSaid}
use Rattle.crn_text.proofs.line.read_sides.Given as goal

abbrev pub invariant-arrows : goal.invariant-arrows
invariant-arrows l = ArrowsSaid l.body l.initial.builder l.terms.left.items l.before l.arrow l.builder l.said.steps

abbrev pub decreases-arrows : goal.decreases-arrows
decreases-arrows l = size_after l.arrow
