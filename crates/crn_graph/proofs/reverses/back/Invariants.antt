use Rattle.crn_graph.proofs.Prelude.{◌≡◌, ◌<◌, ℕ, length, get_or, IsReverse}
use Rattle.crn_graph.proofs.reverses.back.Given as goal

abbrev pub invariant-loop-r : goal.invariant-loop-r
invariant-loop-r l = record {
  long : length l.reverses.list ≡ l.r;
  each : (q : ℕ) → q < l.r → IsReverse l.net q (get_or l.reverses.list q 0);
}
