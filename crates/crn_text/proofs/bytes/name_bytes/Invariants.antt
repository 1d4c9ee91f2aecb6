use Rattle.crn_text.proofs.Prelude.{length, is_name_byte}
use Rattle.crn_text.proofs.Runs.{Passed}
use Rattle.crn_text.proofs.bytes.name_bytes.Given as goal

abbrev pub invariant-blocks-2 : goal.invariant-blocks-2
invariant-blocks-2 l = Passed is_name_byte l.bytes l.left

abbrev pub decreases-blocks-2 : goal.decreases-blocks-2
decreases-blocks-2 l = length l.left
