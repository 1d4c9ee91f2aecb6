use Rattle.crn_siphon.proofs.Prelude.{◌≡◌, ◌<◌, ℕ, length, take, dot, entry, column, vectors}
use Rattle.crn_siphon.proofs.trial.increased_by.Given as goal

-- the changes by the reactions so far
abbrev pub invariant-loop-r : goal.invariant-loop-r
invariant-loop-r l = (s : ℕ) → s < length l.net.names → entry l.changes s ≡ dot (take l.r l.numbers) (take l.r (column (vectors l.net) s))
