use Rattle.crn_text.proofs.Prelude.{List, subst, sym, Statement, AreIn}
use Rattle.crn_text.proofs.ArrowsSaid.{said_at}
use Rattle.crn_text.proofs.said.Said.has.Goals as goal

pub returns-in-Some : goal.returns-in-Some
returns-in-Some c = λ ss said is.
    subst (λ (ts : List Statement). AreIn ts ss) (sym (c.are_same.ensures is)) (said_at ss c.args.self.now.steps c.slot.result c.in-Some.known said c.in-Some.is)
