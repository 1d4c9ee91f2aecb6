use Rattle.crn_text.proofs.Prelude.{length, sym, ap, ◌∙◌, inr, list_all, eqb-true, is_plain}
use Rattle.crn_text.proofs.LinesRead.{fault_plain, line_gives, empty_gives}
use Rattle.crn_text.proofs.line.read_line.Goals as goal

pub returns-then-not-are_plain : goal.returns-then-not-are_plain
returns-then-not-are_plain c = λ before grown.
    inr (fault_plain before c.args.line.now (ap (list_all is_plain) (sym c.body_of-body.ensures) ∙ sym c.are_plain.ensures ∙ c.if-not-are_plain.true))

pub returns : goal.returns
returns c = λ before grown.
    let read = rw c.body_of-body.ensures at (c.read_body.ensures before grown) in
    line_gives before c.args.line.now c.read_body.result _ (ap (list_all is_plain) (sym c.body_of-body.ensures) ∙ sym c.are_plain.ensures ∙ c.if-not-are_plain.false) read

pub returns-then-is_empty : goal.returns-then-is_empty
returns-then-is_empty c = λ before grown.
    let none = eqb-true _ _ (sym c.is_empty.ensures ∙ c.if-is_empty.true) in
    empty_gives before c.args.line.now _ c.args.builder.now (ap length (sym c.body_of-body.ensures) ∙ none) grown
