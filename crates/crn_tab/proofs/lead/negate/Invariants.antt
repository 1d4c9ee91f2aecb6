use Rattle.crn_tab.proofs.Prelude.{◌≡◌, ℕ, ◌<◌, ◌≤◌, neg_ℤ, entry}
use Rattle.crn_tab.proofs.lead.negate.Given as goal

abbrev pub invariant-loop-j : goal.invariant-loop-j
invariant-loop-j l = record {
  done : (k : ℕ) → k < l.j → entry l.row k ≡ neg_ℤ (entry l.initial.row k);
  left : (k : ℕ) → l.j ≤ k → entry l.row k ≡ entry l.initial.row k;
}
