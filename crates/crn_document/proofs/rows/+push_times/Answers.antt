use Rattle.crn_document.proofs.Linkages.{on_ok}
use Rattle.crn_document.proofs.Ranks.{times_push}
use Rattle.crn_document.proofs.rows.+push_times.Goals as goal

pub returns : goal.returns
returns t c = on_ok c.push_times.result _ _ (λ e. times_push c.args.count c.args.row c.args.into.now.items c.push.new.self.items c.push_times.new.into.items c.if-count-eq0.false c.in_ok-push.ensures.items e) c.push_times.ensures
