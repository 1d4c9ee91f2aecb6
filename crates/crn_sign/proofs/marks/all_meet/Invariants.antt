use Rattle.crn_sign.proofs.Prelude.{◌<◌, ◌*◌, ℕ, mark_at, Suits, kind_there}
use Rattle.crn_sign.proofs.marks.all_meet.Given as goal

abbrev pub invariant-loop-w : goal.invariant-loop-w
invariant-loop-w l = (k : ℕ) → k < l.w * 64 → Suits (kind_there l.weak l.asked k) (mark_at l.marks k)
