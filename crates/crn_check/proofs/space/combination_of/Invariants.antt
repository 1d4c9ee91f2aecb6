use Rattle.crn_check.proofs.Prelude.{◌≡◌, ◌<◌, ◌*◌, ℕ, length, take, AreWithin, dot, column, entry, MAX_AMOUNT, WIDE_SOLUTION}
use Rattle.crn_check.proofs.space.combination_of.Given as goal

-- the amounts by the complexes so far, and their bound
abbrev pub invariant-loop-c : goal.invariant-loop-c
invariant-loop-c l = record {
  each : (s : ℕ) → s < length l.net.names → entry l.sums s ≡ dot (take l.c l.numbers) (take l.c (column l.net.complexes s));
  within : AreWithin (l.c * (MAX_AMOUNT * WIDE_SOLUTION)) l.sums;
}
