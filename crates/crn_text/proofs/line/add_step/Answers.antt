use Rattle.crn_text.proofs.Prelude.{side_of}
use Rattle.crn_text.proofs.ArrowsSaid.{said_gives, said_keeps}
use Rattle.crn_text.proofs.line.add_step.Goals as goal

pub returns-then-has-clause-gives : goal.returns-then-has-clause-gives
returns-then-has-clause-gives c = λ before h grown.
    said_gives before c.args.builder.now c.args.said.now.steps c.args.step.now.left.now c.args.step.now.right.now c.args.step.now.kind (side_of c.args.body.now c.args.left.now) (side_of c.args.body.now c.args.right.now) tt h (λ ss said. c.has.ensures ss said c.if-has.true) c.requires.before c.requires.after grown

pub returns-clause-keeps : goal.returns-clause-keeps
returns-clause-keeps c = λ h.
    said_keeps c.args.builder.now c.add_statements.new.builder c.args.said.now.steps c.put.new.self.steps c.args.step.now.left.now c.args.step.now.right.now c.args.step.now.kind (side_of c.args.body.now c.args.left.now) (side_of c.args.body.now c.args.right.now) c.in_default.field-0 h c.in_default.ensures c.put.ensures c.requires.before c.requires.after
