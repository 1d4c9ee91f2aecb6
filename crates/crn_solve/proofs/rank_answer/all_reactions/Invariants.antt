use Rattle.crn_solve.proofs.Prelude.{◌≡◌, range_with_len}
use Rattle.crn_solve.proofs.rank_answer.all_reactions.Given as goal

abbrev pub invariant-loop-r : goal.invariant-loop-r
invariant-loop-r l = l.all.items ≡ range_with_len 1 l.r
