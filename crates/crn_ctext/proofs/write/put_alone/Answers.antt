use Rattle.crn_ctext.proofs.Prelude.{err_from_is_err_and, Wrote-all, Wrote-prefix}
use Rattle.crn_ctext.proofs.Pieces.{wrote_as}
use Rattle.crn_ctext.proofs.WrittenAnswers.{alone_lines}
use Rattle.crn_ctext.proofs.write.put_alone.Goals as goal

pub returns-in_err-put_answer : goal.returns-in_err-put_answer
returns-in_err-put_answer g c = λ q shapes e.
    let p = err_from_is_err_and c.from_residual.result c.from_residual.ensures.1 in
    wrote_as (alone_lines q c.args.question shapes c.args.answer.now c.requires.sides e) (Wrote-prefix p.1 c.in_err-put_answer.ensures.wrote.prefix)

pub returns : goal.returns
returns g c = λ q shapes e. wrote_as (alone_lines q c.args.question shapes c.args.answer.now c.requires.sides e) (Wrote-all c.in_ok-put_answer.ensures.wrote.all)
