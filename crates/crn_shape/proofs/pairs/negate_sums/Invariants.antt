use Rattle.crn_shape.proofs.Prelude.{◌≡◌, ℕ, ◌<◌, ◌≤◌, length, get_or, opposite_linked}
use Rattle.crn_shape.proofs.Opposites.{no_linked}
use Rattle.crn_shape.proofs.pairs.negate_sums.Given as goal

abbrev pub invariant-loop-i : goal.invariant-loop-i
invariant-loop-i l = record {
  long : length l.pairs ≡ length l.initial.pairs;
  done : (j : ℕ) → j < l.i → get_or l.pairs j no_linked ≡ opposite_linked (get_or l.initial.pairs j no_linked);
  rest : (j : ℕ) → l.i ≤ j → get_or l.pairs j no_linked ≡ get_or l.initial.pairs j no_linked;
}
