use Rattle.crn_ctext.proofs.Prelude.{arith}
use Rattle.crn_ctext.proofs.LineNumbers.{all_digits_more, value_more}
use Rattle.crn_ctext.proofs.record_numbers.long_digits.Goals as goal

pub loop-i-preserved : goal.loop-i-preserved
loop-i-preserved c =
    let inv = c.loop-i.invariant in record {
      digits = all_digits_more c.args.bytes.now c.loop-i.i (omega arith) inv.digits c.if-byte-lt48.false c.if-byte-gt57.false;
      is = value_more c.args.bytes.now c.loop-i.i c.loop-i.value c.from.result c.min-value.result (omega arith) inv.is c.if-byte-lt48.false c.if-byte-gt57.false c.from.ensures c.min-value.ensures;
      within = omega arith;
    }
