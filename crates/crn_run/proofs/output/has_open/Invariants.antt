use Rattle.crn_run.proofs.Prelude.{take, verdicts_of, HasOpen}
use Rattle.crn_run.proofs.output.has_open.Given as goal

abbrev pub invariant-loop-question : goal.invariant-loop-question
invariant-loop-question l = HasOpen (verdicts_of (take l.question l.answers)) → ⊥
