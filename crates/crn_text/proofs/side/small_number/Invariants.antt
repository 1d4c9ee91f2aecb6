use Rattle.crn_text.proofs.Prelude.{◌≡◌, take, min, digits_value, LARGE}
use Rattle.crn_text.proofs.side.small_number.Given as goal

abbrev pub invariant-loop-digit : goal.invariant-loop-digit
invariant-loop-digit l = l.number ≡ min (digits_value 10 (take l.digit-index l.digits)) LARGE
