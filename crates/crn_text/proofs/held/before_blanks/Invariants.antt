use Rattle.crn_text.proofs.Prelude.{length, IsTrimmed}
use Rattle.crn_text.proofs.held.before_blanks.Given as goal

abbrev pub invariant-blanks : goal.invariant-blanks
invariant-blanks l = IsTrimmed l.text l.left

abbrev pub decreases-blanks : goal.decreases-blanks
decreases-blanks l = length l.left
