use Rattle.crn_document.proofs.Linkages.{counts_push, on_ok}
use Rattle.crn_document.proofs.parts.+push_counts.Goals as goal

pub returns : goal.returns
returns t c = on_ok c.push_counts.result _ _ (λ e. counts_push c.args.net.now c.args.labels.now c.args.class c.args.count c.count_members-here.result c.args.into.now.list c.push.new.self.list c.push_counts.new.into.list c.if-count-eq0.false c.count_members-here.ensures c.in_ok-push.ensures.ok e) c.push_counts.ensures
