use Rattle.crn_check.proofs.Prelude.{◌≡◌, ◌≤◌, ◌<◌, ◌-◌, ◌*◌, ℕ, suc, length, ◌+ℤ◌, ◌*ℤ◌, AreWithin, entry, MAX_AMOUNT, MAX_SPECIES, WIDE_SOLUTION}
use Rattle.crn_check.proofs.combs.add_multiple.Given as goal

-- the sums at the places before this one are raised, and the others as before
abbrev pub invariant-places : goal.invariant-places
invariant-places l = record {
  long : length l.sums ≡ MAX_SPECIES;
  inside : l.k ≤ length l.vector;
  raised : (s : ℕ) → s < l.k → entry l.sums s ≡ entry l.fn.sums s +ℤ (l.number *ℤ entry l.vector s);
  same : (s : ℕ) → l.k ≤ s → entry l.sums s ≡ entry l.fn.sums s;
  within : AreWithin (suc l.most * (MAX_AMOUNT * WIDE_SOLUTION)) l.sums;
}

abbrev pub decreases-places : goal.decreases-places
decreases-places l = length l.vector - l.k
