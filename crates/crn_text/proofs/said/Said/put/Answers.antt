use Rattle.crn_text.proofs.Prelude.{Some}
use Rattle.crn_text.proofs.ArrowsSaid.{said_put}
use Rattle.crn_text.proofs.said.Said.put.Goals as goal

pub returns : goal.returns
returns c = λ ss said here. said_put ss c.args.self.now.steps c.slot.result (Some c.args.step.now) said here
