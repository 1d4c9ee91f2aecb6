use Rattle.crn_graph.proofs.Prelude.{◌≡◌, ◌<◌, ◌-◌, ℕ, length, get_or, of_class}
use Rattle.crn_graph.proofs.strong_data.find_levels.Given as goal

abbrev pub invariant-loop-y : goal.invariant-loop-y
invariant-loop-y l = record {
  long : length l.level.items ≡ length l.fn.level.items;
  levels : (y : ℕ) → y < l.y → of_class l.label l.level.items y ≡ get_or l.rank y 0 - 1;
}
