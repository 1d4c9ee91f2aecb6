use Rattle.crn_document.proofs.Prelude.{◌∙◌}
use Rattle.crn_document.proofs.Linkages.{on_ok}
use Rattle.crn_document.proofs.Ranks.{rows_push}
use Rattle.crn_document.proofs.proof.+push_rows.Goals as goal

pub returns : goal.returns
returns t c = on_ok c.push_rows.result _ _ (λ e. rows_push c.args.rows.now c.args.i c.args.end c.in_ok-from_slice.field-0.list c.args.into.now c.push.new.self c.push_rows.new.into c.if-i-end.false c.requires.order c.requires.inside (c.in_ok-from_slice.ensures.list ∙ c.row.ensures) c.in_ok-push.ensures.ok e) c.push_rows.ensures
