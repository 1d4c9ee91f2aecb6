use Rattle.crn_ctext.proofs.Prelude.{◌≡◌, ◌≤◌, ◌+◌, ◌*◌, length, take, drop, ap, subst, ◌∙◌, arith, AllDigits, digits_value}
use Rattle.crn_ctext.proofs.DigitGroups.{group_digits, group_value, second_digits, second_value}
use Rattle.crn_ctext.proofs.record_numbers.more_digits.Goals as goal

pub middle_digits-requires-in-None-eight_digits-clause-digits :
    goal.middle_digits-requires-in-None-eight_digits-clause-digits
middle_digits-requires-in-None-eight_digits-clause-digits c =
    group_digits c.args.bytes.now c.args.read c.requires.digits (subst (λ t. AllDigits 10 (take 8 t)) c.split_at.ensures.back c.in-Some.ensures.digits)

pub middle_digits-requires-in-None-eight_digits-clause-start :
    goal.middle_digits-requires-in-None-eight_digits-clause-start
middle_digits-requires-in-None-eight_digits-clause-start c =
    group_value c.args.bytes.now c.args.read c.args.start c.in-Some.more (subst (λ t. 8 ≤ length t) c.split_at.ensures.back c.in-Some.ensures.within) c.requires.start
    (subst (λ t. c.in-Some.more ≡ digits_value 10 (take 8 t)) c.split_at.ensures.back c.in-Some.ensures.value)

pub long_digits-requires-clause-digits : goal.long_digits-requires-clause-digits
long_digits-requires-clause-digits c =
    let first = group_digits c.args.bytes.now c.args.read c.requires.digits (subst (λ t. AllDigits 10 (take 8 t)) c.split_at.ensures.back c.in-Some.ensures.digits) in
    let back = c.split_at-in-Some.ensures.back ∙ ap (drop 8) c.split_at.ensures.back in
    second_digits c.args.bytes.now c.args.read first (subst (λ t. AllDigits 10 (take 8 t)) back c.in-Some-eight_digits.ensures.digits)

pub long_digits-requires-clause-start : goal.long_digits-requires-clause-start
long_digits-requires-clause-start c =
    let more = c.in-Some-eight_digits.more in
    let first = group_value c.args.bytes.now c.args.read c.args.start c.in-Some.more (subst (λ t. 8 ≤ length t) c.split_at.ensures.back c.in-Some.ensures.within) c.requires.start
    (subst (λ t. c.in-Some.more ≡ digits_value 10 (take 8 t)) c.split_at.ensures.back c.in-Some.ensures.value) in
    let back = c.split_at-in-Some.ensures.back ∙ ap (drop 8) c.split_at.ensures.back in
    let second = second_value c.args.bytes.now c.args.read (c.args.start * 100000000 + c.in-Some.more) more (subst (λ t. 8 ≤ length t) back c.in-Some-eight_digits.ensures.within) first
    (subst (λ t. more ≡ digits_value 10 (take 8 t)) back c.in-Some-eight_digits.ensures.value) in
    omega (arith, second)
