use Rattle.crn_text.proofs.Prelude.{◌∙◌, ◌++◌, List, ℕ, take, ap, sym, arith, decimal_digit}
use Rattle.crn_text.proofs.SideTexts.{two_digits}
use Rattle.crn_text.proofs.side_text.put_number.Goals as goal

pub returns-then-number-lt10-clause-text : goal.returns-then-number-lt10-clause-text
returns-then-number-lt10-clause-text c =
    c.push.ensures.text ∙ ap (λ (t : List ℕ). take c.args.at c.args.bytes.now ++ t) (sym (decimal_digit c.args.number (omega arith)))

pub returns-clause-text : goal.returns-clause-text
returns-clause-text c =
    c.push-2.ensures.text
    ∙ two_digits (take c.args.at c.args.bytes.now) (take c.push-next.result c.push-next.new.bytes) c.args.number (omega arith) (omega arith) c.push-next.ensures.text
