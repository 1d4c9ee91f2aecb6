use Rattle.crn_graph.proofs.Prelude.{◌≡◌, ◌<◌, ℕ, length, AreLong, label_at}
use Rattle.crn_graph.proofs.search.Search.clear.Given as goal

abbrev pub invariant-loop-y : goal.invariant-loop-y
invariant-loop-y l = record {
  count : length l.self.label.items ≡ length l.fn.self.label.items;
  long : AreLong l.self;
  none : (k : ℕ) → k < l.y → label_at l.self k ≡ 0;
}
