use Rattle.crn_ctext.proofs.DigitGroups.{AreEight, eight_are, eight_value}
use Rattle.crn_ctext.proofs.record_numbers.eight_digits.Goals as goal

pub returns-else-not-first-last-clause-digits : goal.returns-else-not-first-last-clause-digits
returns-else-not-first-last-clause-digits c =
    let are : AreEight c.args.bytes.now = record {
      many = c.in-len8-up.len_at_least;
      at0 = c.with_digit-one.ensures.digit;
      at1 = c.with_digit-two.ensures.digit;
      at2 = c.with_digit-three.ensures.digit;
      at3 = c.with_digit-four.ensures.digit;
      at4 = c.with_digit-five.ensures.digit;
      at5 = c.with_digit-six.ensures.digit;
      at6 = c.with_digit-seven.ensures.digit;
      at7 = c.with_digit.ensures.digit;
    } in
    eight_are c.args.bytes.now are

pub returns-else-not-first-last-clause-value : goal.returns-else-not-first-last-clause-value
returns-else-not-first-last-clause-value c =
    let are : AreEight c.args.bytes.now = record {
      many = c.in-len8-up.len_at_least;
      at0 = c.with_digit-one.ensures.digit;
      at1 = c.with_digit-two.ensures.digit;
      at2 = c.with_digit-three.ensures.digit;
      at3 = c.with_digit-four.ensures.digit;
      at4 = c.with_digit-five.ensures.digit;
      at5 = c.with_digit-six.ensures.digit;
      at6 = c.with_digit-seven.ensures.digit;
      at7 = c.with_digit.ensures.digit;
    } in
    eight_value c.args.bytes.now _ _ _ _ _ _ _ _ are
    c.with_digit-one.ensures.value c.with_digit-two.ensures.value c.with_digit-three.ensures.value c.with_digit-four.ensures.value
    c.with_digit-five.ensures.value c.with_digit-six.ensures.value c.with_digit-seven.ensures.value c.with_digit.ensures.value
