use Rattle.crn_render.proofs.Prelude.{◌≡◌, ◌≤◌, take, open_count}
use Rattle.crn_render.proofs.report.open_questions.Given as goal

abbrev pub invariant-loop-place : goal.invariant-loop-place
invariant-loop-place l = (l.count ≡ open_count (take l.place l.verdicts)) × (l.count ≤ l.place)
