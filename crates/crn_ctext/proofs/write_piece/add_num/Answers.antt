use Rattle.crn_ctext.proofs.Prelude.{refl}
use Rattle.crn_ctext.proofs.Pieces.{added}
use Rattle.crn_ctext.proofs.write_piece.add_num.Goals as goal

pub returns-clause-text : goal.returns-clause-text
returns-clause-text c = added _ _ _ refl c.push.ensures.items (rw c.from.ensures at c.add_digits.ensures.text)
