use Rattle.crn_vec.proofs.Prelude.{◌≡◌, ◌≤◌, ◌+◌, ℕ, length, get_or, MAX_SPECIES, IsSkip}
use Rattle.crn_vec.proofs.skips.skips_of.Given as goal

-- the ways from the last places
abbrev pub invariant-back : goal.invariant-back
invariant-back l = record {
  long : length l.skips ≡ MAX_SPECIES + 1;
  inside : l.s ≤ length l.vector;
  each : (k : ℕ) → l.s ≤ k → k ≤ length l.vector → IsSkip l.vector k (get_or l.skips k 0);
}

abbrev pub decreases-back : goal.decreases-back
decreases-back l = l.s
