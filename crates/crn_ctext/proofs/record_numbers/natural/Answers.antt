use Rattle.crn_ctext.proofs.Prelude.{arith}
use Rattle.crn_ctext.proofs.LineNumbers.{natural_is, none_by_end}
use Rattle.crn_ctext.proofs.record_numbers.natural.Goals as goal

pub returns-then-not-ends_at : goal.returns-then-not-ends_at
returns-then-not-ends_at c = none_by_end c.args.bytes.now _ _ c.digits-value.ensures (λ e. let t = c.ends_at.ensures.1 e in let f = c.if-not-ends_at.true in cc)

pub returns : goal.returns
returns c = natural_is c.args.bytes.now _ _ c.digits-value.ensures (omega arith) c.if-bytes-eq48.false (c.ends_at.ensures.0 c.if-not-ends_at.false)
