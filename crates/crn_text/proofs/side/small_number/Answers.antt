use Rattle.crn_text.proofs.Prelude.{◌<◌, ◌+◌, ◌-◌, length, take, get_or, arith, digits_value, digits_value_more, digits_value-take-le}
use Rattle.crn_text.proofs.Numbers.{value_at, capped_more}
use Rattle.crn_text.proofs.side.small_number.Goals as goal

pub loop-digit-preserved : goal.loop-digit-preserved
loop-digit-preserved c =
    let ds = c.args.digits.now in
    let i = c.loop-digit.digit-index in
    let lt : c.loop-digit.digit-index < length c.args.digits.now = omega arith in
    let more = digits_value_more 10 ds i lt in
    let digit = value_at ds i c.requires lt in
    let step = capped_more c.loop-digit.number (digits_value 10 (take i ds)) (get_or ds i 0 - 48) c.loop-digit.invariant in
    omega (arith, more, digit, step, c.min-number.ensures, c.from.ensures, c.saturating_sub.ensures)

pub returns-then-number-eq-LARGE : goal.returns-then-number-eq-LARGE
returns-then-number-eq-LARGE c =
    let ds = c.args.digits.now in
    let i = c.loop-digit.digit-index in
    let lt : c.loop-digit.digit-index < length c.args.digits.now = omega arith in
    let more = digits_value_more 10 ds i lt in
    let digit = value_at ds i c.requires lt in
    let step = capped_more c.loop-digit.number (digits_value 10 (take i ds)) (get_or ds i 0 - 48) c.loop-digit.invariant in
    let prefix = digits_value-take-le 10 ds (i + 1) (omega arith) in
    omega (arith, more, digit, step, prefix, c.min-number.ensures, c.from.ensures, c.saturating_sub.ensures, c.if-number-eq-LARGE.true)
