use Rattle.crn_defi.proofs.Prelude.{◌≡◌, false, list_any, range_with_len, is_in_both}
use Rattle.crn_defi.proofs.terminals.have_both.Given as goal

abbrev pub invariant-loop-c : goal.invariant-loop-c
invariant-loop-c l = list_any (is_in_both l.strong l.linkage l.m l.k) (range_with_len 0 l.c) ≡ false
