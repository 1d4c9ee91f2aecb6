use Rattle.crn_check.proofs.Prelude.{◌≡◌, ◌<◌, ℕ, [], length, get_or, MAX_SPECIES, vector_of, AreSkips}
use Rattle.crn_check.proofs.skips.put_skips.Given as goal

-- the places of the members so far
abbrev pub invariant-loop-j : goal.invariant-loop-j
invariant-loop-j l = record {
  long : length l.all ≡ MAX_SPECIES;
  each : (i : ℕ) → i < l.j → AreSkips (vector_of l.net (get_or l.base i 0)) (get_or l.all i []);
}
