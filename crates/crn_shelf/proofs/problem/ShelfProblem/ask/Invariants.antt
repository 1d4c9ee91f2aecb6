use Rattle.crn_shelf.proofs.Prelude.{◌≡◌, ◌<◌, ℕ, length, shelf_kinds, kind_at, kind_in, word_count}
use Rattle.crn_shelf.proofs.problem.ShelfProblem.ask.Given as goal

abbrev pub invariant-loop-k : goal.invariant-loop-k
invariant-loop-k l = record {
  count : length l.asked ≡ word_count l.self.system;
  done : (j : ℕ) → j < l.k → kind_in l.asked j ≡ kind_at (shelf_kinds l.self.shape.now l.prefix) j;
}
