use Rattle.crn_check.proofs.Prelude.{◌≡◌, ◌<◌, ◌*◌, ℕ, length, take, drop, AreWithin, dot, column, entry, MAX_AMOUNT, WIDE_SOLUTION, vectors_of}
use Rattle.crn_check.proofs.combs.put_combination.Given as goal

-- the sums over the members so far, and their bound
abbrev pub invariant-loop-j : goal.invariant-loop-j
invariant-loop-j l = record {
  each : (s : ℕ) → s < length l.net.names → entry l.sums s ≡ dot (take l.j (drop 1 l.comb)) (take l.j (column (vectors_of l.net l.base) s));
  within : AreWithin (l.j * (MAX_AMOUNT * WIDE_SOLUTION)) l.sums;
}
