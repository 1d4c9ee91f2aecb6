use Rattle.crn_sign.proofs.Prelude.{Bool, ap, sym, ◌∙◌, mark_in, mark_of_multiple}
use Rattle.crn_sign.proofs.past.marks_of_multiple.Goals as goal

pub returns-then-stays : goal.returns-then-stays
returns-then-stays c = λ i. ap (λ (b : Bool). mark_of_multiple b (mark_in c.args.marks i)) (sym c.if-stays.true)

pub returns-else-stays : goal.returns-else-stays
returns-else-stays c = λ i. c.opposite.ensures i ∙ ap (λ (b : Bool). mark_of_multiple b (mark_in c.args.marks i)) (sym c.if-stays.false)
