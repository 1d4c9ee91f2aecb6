use Rattle.crn_ctext.proofs.Prelude.{◌∙◌, err_from_is_err_and}
use Rattle.crn_ctext.proofs.Pieces.{stops_first, ends_with}
use Rattle.crn_ctext.proofs.WrittenLines.{part_parts}
use Rattle.crn_ctext.proofs.write.put_part_opening.Goals as goal

pub returns-in_err-put_parts : goal.returns-in_err-put_parts
returns-in_err-put_parts g c =
    let p = err_from_is_err_and c.from_residual.result c.from_residual.ensures.1 in
    let f = rw c.reactions.ensures.count at (c.as_bytes-digits.ensures.value ∙ c.format.ensures.text) in
    stops_first _ (part_parts c.args.part.now c.args.net.now _ f) p.1 c.in_err-put_parts.ensures.prefix

pub returns : goal.returns
returns g c =
    let f = rw c.reactions.ensures.count at (c.as_bytes-digits.ensures.value ∙ c.format.ensures.text) in
    ends_with (part_parts c.args.part.now c.args.net.now _ f) c.in_ok-put_parts.ensures.all c.write.ensures
