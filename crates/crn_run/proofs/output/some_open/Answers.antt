use Rattle.crn_run.proofs.Prelude.{refl, arith}
use Rattle.crn_run.proofs.OpenAnswers.{verdict_at, no_more_verdicts, no_verdict}
use Rattle.crn_run.proofs.output.some_open.Goals as goal

pub loop-question-init : goal.loop-question-init
loop-question-init l = λ o. o

pub loop-question-preserved : goal.loop-question-preserved
loop-question-preserved c l = no_more_verdicts c.args.verdicts.now c.loop-question.question _ _ _ (omega arith) (omega arith) c.get.ensures (λ o. let e = c.is_open.ensures.1 o in cc) c.loop-question.invariant l

pub returns-then-is_open : goal.returns-then-is_open
returns-then-is_open c = (λ t. verdict_at _ _ _ c.get.ensures (c.is_open.ensures.0 c.if-is_open.true), λ o. refl)

pub returns : goal.returns
returns c = (λ t. absurd cc, λ o. absurd (no_verdict _ _ (omega (arith, c.loop-question-test.false, c.len-question-end.ensures.count)) c.loop-question.invariant o))
