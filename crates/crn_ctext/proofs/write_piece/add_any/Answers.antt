use Rattle.crn_ctext.proofs.Prelude.{◌≡◌, arith, ints, unsigned_abs, ◌∙◌}
use Rattle.crn_ctext.proofs.write_piece.add_any.Goals as goal

pub returns-clause-text : goal.returns-clause-text
returns-clause-text c =
    let ua : c.unsigned_abs.result ≡ unsigned_abs c.args.number.now = omega (arith, ints) in
    (rw ua at c.add_digits.ensures.text) ∙ c.add_sign.ensures.text
