use Rattle.crn_ctext.proofs.Prelude.{subst, arith, nat_tests, HasNatural, HasNoNatural}
use Rattle.crn_ctext.proofs.LineNumbers.{zero_number, minus_none, plain_number, minus_number}
use Rattle.crn_ctext.proofs.record_numbers.number.Goals as goal

pub returns-then-first-eq48 : goal.returns-then-first-eq48
returns-then-first-eq48 c = zero_number c.args.bytes.now (grind (arith, nat_tests, c.if-is_empty.ensures)) c.if-first-eq48.true (c.ends_at.ensures.0 c.if-not-ends_at.false)

pub returns-in-None : goal.returns-in-None
returns-in-None c = minus_none c.args.bytes.now c.if-first-eq45.true (subst HasNoNatural c.split_at.ensures.back c.in-None.ensures)

pub returns-in-Some : goal.returns-in-Some
returns-in-Some c = minus_number c.args.bytes.now c.in-Some.size c.in-Some.count (grind (arith, nat_tests, c.if-is_empty.ensures)) c.if-first-eq45.true
    (subst (λ t. HasNatural t c.in-Some.size c.in-Some.count) c.split_at.ensures.back c.in-Some.ensures)

pub returns-in-Some-natural : goal.returns-in-Some-natural
returns-in-Some-natural c = plain_number c.args.bytes.now c.in-Some-natural.size c.in-Some-natural.count c.in-Some-natural.ensures
