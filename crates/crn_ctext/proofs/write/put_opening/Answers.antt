use Rattle.crn_ctext.proofs.Prelude.{◌∙◌, err_from_is_err_and}
use Rattle.crn_ctext.proofs.Pieces.{stops_first, ends_with}
use Rattle.crn_ctext.proofs.WrittenLines.{opening_parts}
use Rattle.crn_ctext.proofs.write.put_opening.Goals as goal

pub returns-in_err-put_parts : goal.returns-in_err-put_parts
returns-in_err-put_parts g c =
    let p = err_from_is_err_and c.from_residual.result c.from_residual.ensures.1 in
    let e = c.as_bytes-version_digits.ensures.value ∙ c.format.ensures.text in
    let f = rw c.reactions.ensures.count at (c.as_bytes-count_digits.ensures.value ∙ c.format-2.ensures.text) in
    stops_first _ (opening_parts c.args.version c.args.net.now _ _ e f) p.1 c.in_err-put_parts.ensures.prefix

pub returns : goal.returns
returns g c =
    let e = c.as_bytes-version_digits.ensures.value ∙ c.format.ensures.text in
    let f = rw c.reactions.ensures.count at (c.as_bytes-count_digits.ensures.value ∙ c.format-2.ensures.text) in
    ends_with (opening_parts c.args.version c.args.net.now _ _ e f) c.in_ok-put_parts.ensures.all c.write.ensures
