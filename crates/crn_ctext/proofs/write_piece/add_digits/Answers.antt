use Rattle.crn_ctext.proofs.Prelude.{decimal_digit}
use Rattle.crn_ctext.proofs.write_piece.add_digits.Goals as goal

pub returns-then-number-lt10-clause-text : goal.returns-then-number-lt10-clause-text
returns-then-number-lt10-clause-text c = rw (decimal_digit c.args.number c.if-number-lt10.true) c.push.ensures.items
