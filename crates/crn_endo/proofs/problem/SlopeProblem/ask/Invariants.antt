use Rattle.crn_endo.proofs.Prelude.{◌≡◌, ◌<◌, ℕ, length, kind_at, kind_in, word_count, slope_kinds, firm_kind}
use Rattle.crn_endo.proofs.problem.SlopeProblem.ask.Given as goal

abbrev pub invariant-loop-k : goal.invariant-loop-k
invariant-loop-k l = record {
  count : length l.asked ≡ word_count l.self.matrix;
  done : (j : ℕ) → j < l.k → kind_in l.asked j ≡ firm_kind (kind_at (slope_kinds l.self.given.now.net l.self.given.now.reaction l.prefix) j);
}
