use Rattle.crn_ctext.proofs.Prelude.{◌≡◌, ◌≤ℤ◌, pos, ◌∷◌, [], arith, ints, decimal, unsigned_abs}
use Rattle.crn_ctext.proofs.Pieces.{added}
use Rattle.crn_ctext.proofs.WrittenLines.{natural_text}
use Rattle.crn_ctext.proofs.write_piece.add_int.Goals as goal

pub returns-clause-text : goal.returns-clause-text
returns-clause-text c =
    let z = c.args.number.now in
    let ua : c.unsigned_abs.result ≡ unsigned_abs z = omega (arith, ints) in
    let natural : pos 0 ≤ℤ z = omega (arith, ints) in
    added c.args.piece.now.items (32 ∷ []) (decimal (unsigned_abs z)) (natural_text z natural) c.push.ensures.items (rw ua at c.add_digits.ensures.text)
