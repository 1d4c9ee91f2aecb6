use Rattle.crn_check.proofs.Prelude.{◌≡◌, ◌≢◌, ◌<◌, ℕ, false, true, ◌≤ℤ◌, combination_at, vectors}
use Rattle.std.proofs.Common.{pos}
use Rattle.crn_check.proofs.positive.rules_out_conservation.Given as goal

-- no species so far is increased, and the mark says whether one is decreased
abbrev pub invariant-loop-s : goal.invariant-loop-s
invariant-loop-s l = record {
  falls : (k : ℕ) → k < l.s → combination_at l.numbers (vectors l.net) k ≤ℤ pos 0;
  some : l.lowers ≡ true → (k : ℕ) × (combination_at l.numbers (vectors l.net) k ≢ pos 0);
  none : l.lowers ≡ false → (k : ℕ) → k < l.s → combination_at l.numbers (vectors l.net) k ≡ pos 0;
}
