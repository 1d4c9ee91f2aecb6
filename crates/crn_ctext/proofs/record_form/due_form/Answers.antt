use Rattle.crn_ctext.proofs.Prelude.{refl}
use Rattle.crn_ctext.proofs.LineForms.{nth_due}
use Rattle.crn_ctext.proofs.record_form.due_form.Goals as goal

pub returns-in-Node : goal.returns-in-Node
returns-in-Node c = nth_due c.args.expect.now c.args.i c.node.result (λ r. rw c.in-Node.is refl) (rw c.in-Node.is c.node.ensures)
