use Rattle.crn_check.proofs.Prelude.{◌≡◌, ◌≤◌, ◌+◌, ℕ, false, length, get_or, list_any, range_with_len, MAX_COMPLEXES, is_in_both}
use Rattle.crn_check.proofs.terminals.marks_in.Given as goal

-- the marks of the complexes so far
abbrev pub invariant-loop-c : goal.invariant-loop-c
invariant-loop-c l = record {
  long : length l.marks ≡ MAX_COMPLEXES + 1;
  each : (m : ℕ) → m ≤ MAX_COMPLEXES → get_or l.marks m false ≡ list_any (is_in_both l.strong l.linkage m l.k) (range_with_len 0 l.c);
}
