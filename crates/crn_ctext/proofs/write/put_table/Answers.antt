use Rattle.crn_ctext.proofs.Prelude.{◌∙◌, err_from_is_err_and}
use Rattle.crn_ctext.proofs.Pieces.{stops_first, ends_with}
use Rattle.crn_ctext.proofs.WrittenLines.{table_lines}
use Rattle.crn_ctext.proofs.write.put_table.Goals as goal

pub returns-in_err-put_parts : goal.returns-in_err-put_parts
returns-in_err-put_parts g c =
    let p = err_from_is_err_and c.from_residual.result c.from_residual.ensures.1 in
    let d = rw c.len.ensures at (c.as_bytes-digits.ensures.value ∙ c.format.ensures.text) in
    let e = table_lines c.args.table.now c.as_bytes-digits.result.now d in
    stops_first _ e p.1 c.in_err-put_parts.ensures.prefix

pub returns : goal.returns
returns g c =
    let d = rw c.len.ensures at (c.as_bytes-digits.ensures.value ∙ c.format.ensures.text) in
    let e = table_lines c.args.table.now c.as_bytes-digits.result.now d in
    ends_with e c.in_ok-put_parts.ensures.all c.put_rows.ensures
