use Rattle.crn_run.proofs.Prelude.{refl, arith, Answer}
use Rattle.crn_run.proofs.OpenAnswers.{open_at, none_more, none_at_all}
use Rattle.crn_run.proofs.output.has_open.Goals as goal

pub loop-question-init : goal.loop-question-init
loop-question-init l = λ o. o

pub loop-question-preserved : goal.loop-question-preserved
loop-question-preserved c l = none_more (λ (a : Answer). a.verdict) c.args.answers.now c.loop-question.question _ _ _ (omega arith) (omega arith) c.get.ensures (λ o. let e = c.is_open.ensures.1 o in cc) c.loop-question.invariant l

pub returns-then-is_open : goal.returns-then-is_open
returns-then-is_open c = (λ t. open_at (λ (a : Answer). a.verdict) _ _ _ c.get.ensures (c.is_open.ensures.0 c.if-is_open.true), λ o. refl)

pub returns : goal.returns
returns c = (λ t. absurd cc, λ o. absurd (none_at_all (λ (a : Answer). a.verdict) _ _ (omega (arith, c.loop-question-test.false, c.len-question-end.ensures.count)) c.loop-question.invariant o))
