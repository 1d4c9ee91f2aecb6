use Rattle.crn_check.proofs.Prelude.{ℕ, ◌<◌, unsigned_abs, ◌∣◌, entry}
use Rattle.crn_check.proofs.normal.divisor.Given as goal

-- the greatest common divisor of the numbers so far
abbrev pub invariant-loop-x : goal.invariant-loop-x
invariant-loop-x l = record {
  divides : (k : ℕ) → k < l.x-index → l.g ∣ unsigned_abs (entry l.numbers k);
  greatest : (d : ℕ) → ((k : ℕ) → d ∣ unsigned_abs (entry l.numbers k)) → d ∣ l.g;
}
