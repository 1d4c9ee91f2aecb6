use Rattle.crn_ctext.proofs.Prelude.{◌∙◌, err_from_is_err_and, WroteAll-then, WrotePrefix-then, WrotePrefix-more, Wrote-prefix}
use Rattle.crn_ctext.proofs.Pieces.{ends_with, wrote_as}
use Rattle.crn_ctext.proofs.WrittenLines.{head_line}
use Rattle.crn_ctext.proofs.write_head.put_head.Goals as goal

pub returns-in_err-put_parts : goal.returns-in_err-put_parts
returns-in_err-put_parts g c =
    let p = err_from_is_err_and c.from_residual.result c.from_residual.ensures.1 in
    let d = c.as_bytes-digits.ensures.value ∙ c.format.ensures.text in
    let e = head_line c.args.question c.args.verdict.now c.as_bytes-digits.result.now c.head_text.result.now c.requires.some c.requires.few d c.head_text.ensures in
    wrote_as e (Wrote-prefix p.1 (WrotePrefix-more _ (WrotePrefix-more _ c.in_err-put_parts.ensures.prefix)))

pub returns-in_err-put_head_numbers : goal.returns-in_err-put_head_numbers
returns-in_err-put_head_numbers g c =
    let p = err_from_is_err_and c.from_residual-in_err-put_head_numbers.result c.from_residual-in_err-put_head_numbers.ensures.1 in
    let d = c.as_bytes-digits.ensures.value ∙ c.format.ensures.text in
    let e = head_line c.args.question c.args.verdict.now c.as_bytes-digits.result.now c.head_text.result.now c.requires.some c.requires.few d c.head_text.ensures in
    wrote_as e (Wrote-prefix p.1 (WrotePrefix-more _ (WrotePrefix-then c.in_ok-put_parts.ensures.all c.in_err-put_head_numbers.ensures.prefix)))

pub returns : goal.returns
returns g c =
    let d = c.as_bytes-digits.ensures.value ∙ c.format.ensures.text in
    let e = head_line c.args.question c.args.verdict.now c.as_bytes-digits.result.now c.head_text.result.now c.requires.some c.requires.few d c.head_text.ensures in
    ends_with e (WroteAll-then c.in_ok-put_parts.ensures.all c.in_ok-put_head_numbers.ensures.all) c.put_all.ensures.writes
