use Rattle.crn_ctext.proofs.Prelude.{◌≡◌, ◌≤◌, take, length, AllDigits, digits_value}
use Rattle.crn_ctext.proofs.record_numbers.middle_digits.Given as goal

abbrev pub invariant-loop-i : goal.invariant-loop-i
invariant-loop-i l = record {
  digits : AllDigits 10 (take l.i l.bytes);
  is : l.value ≡ digits_value 10 (take l.i l.bytes);
  within : l.i ≤ length l.bytes;
}
