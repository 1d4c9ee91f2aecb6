use Rattle.crn_solve.proofs.PositiveAnswers.{law_or_stop}
use Rattle.crn_solve.proofs.positive.law_or_cut.Goals as goal

pub returns : goal.returns
returns c = law_or_stop c.args.net.now c.in_ok-matrix.matrix c.decide_positive-decided.result c.meets_definition.ensures c.in_ok-matrix.ensures c.decide_positive-decided.ensures.answer
