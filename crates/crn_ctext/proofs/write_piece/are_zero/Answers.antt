use Rattle.crn_ctext.proofs.Prelude.{◌≡◌, get_or, pos, rules}
use Rattle.crn_ctext.proofs.WrittenLines.{are_four}
use Rattle.crn_ctext.proofs.write_piece.are_zero.Goals as goal

pub returns : goal.returns
returns c = λ last.
    let four = c.args.four.now in
    let a : get_or four 0 (pos 0) ≡ pos 0 = search rules in
    let b : get_or four 1 (pos 0) ≡ pos 0 = search rules in
    let d : get_or four 2 (pos 0) ≡ pos 0 = search rules in
    let e : get_or four 3 (pos 0) ≡ pos 0 = search rules in
    are_four four c.requires a b d e
