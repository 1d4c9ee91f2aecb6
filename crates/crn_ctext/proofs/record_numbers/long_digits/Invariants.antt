use Rattle.crn_ctext.proofs.Prelude.{◌≡◌, ◌≤◌, take, min, length, AllDigits, digits_value, WIDE_SOLUTION}
use Rattle.crn_ctext.proofs.record_numbers.long_digits.Given as goal

abbrev pub invariant-loop-i : goal.invariant-loop-i
invariant-loop-i l = record {
  digits : AllDigits 10 (take l.i l.bytes);
  is : l.value ≡ min (digits_value 10 (take l.i l.bytes)) WIDE_SOLUTION;
  within : l.i ≤ length l.bytes;
}
