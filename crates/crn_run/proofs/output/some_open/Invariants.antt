use Rattle.crn_run.proofs.Prelude.{take, HasOpen}
use Rattle.crn_run.proofs.output.some_open.Given as goal

abbrev pub invariant-loop-question : goal.invariant-loop-question
invariant-loop-question l = HasOpen (take l.question l.verdicts) → ⊥
