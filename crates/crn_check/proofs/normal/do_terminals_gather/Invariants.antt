use Rattle.crn_check.proofs.Prelude.{◌≡◌, ◌<◌, ℕ, suc, get_or, ◌≤ℤ◌, dot, label_marks}
use Rattle.std.proofs.Common.{pos}
use Rattle.crn_check.proofs.normal.do_terminals_gather.Given as goal

-- the sums over the terminal classes so far are at least zero
abbrev pub invariant-loop-m : goal.invariant-loop-m
invariant-loop-m l = (k : ℕ) → k < l.m → get_or l.exits k 0 ≡ 0 → pos 0 ≤ℤ dot (label_marks l.strong (suc k)) l.numbers
