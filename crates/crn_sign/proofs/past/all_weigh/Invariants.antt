use Rattle.crn_sign.proofs.Prelude.{◌<◌, ◌*◌, ℕ, mark_at, Weighs, mark_of_multiple}
use Rattle.crn_sign.proofs.past.all_weigh.Given as goal

abbrev pub invariant-loop-w : goal.invariant-loop-w
invariant-loop-w l = (k : ℕ) → k < l.w * 64 → Weighs (mark_at l.asked k) (mark_of_multiple l.stays (mark_at l.marks k))
