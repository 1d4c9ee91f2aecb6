use Rattle.crn_text.proofs.Prelude.{length, is_unmarked}
use Rattle.crn_text.proofs.Runs.{Passed}
use Rattle.crn_text.proofs.bytes.unmarked_bytes.Given as goal

abbrev pub invariant-blocks-2 : goal.invariant-blocks-2
invariant-blocks-2 l = Passed is_unmarked l.text l.left

abbrev pub decreases-blocks-2 : goal.decreases-blocks-2
decreases-blocks-2 l = length l.left
