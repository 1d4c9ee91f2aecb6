use Rattle.crn_siphon.proofs.Prelude.{◌≡◌, ℕ, take, length, entry, ◌+ℤ◌, ◌*ℤ◌, change_at}
use Rattle.crn_siphon.proofs.trial.add.Given as goal

-- the changes so far are added
abbrev pub invariant-loop-i : goal.invariant-loop-i
invariant-loop-i l = record {
  long : length l.changes ≡ length l.fn.changes;
  added : (s : ℕ) → entry l.changes s ≡ entry l.fn.changes s +ℤ (l.number *ℤ change_at (take l.i l.reaction) s);
}
