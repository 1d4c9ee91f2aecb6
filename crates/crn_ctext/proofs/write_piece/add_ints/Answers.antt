use Rattle.crn_ctext.proofs.Prelude.{arith, take_all, sym}
use Rattle.std.proofs.Common.{append-nil}
use Rattle.crn_ctext.proofs.Pieces.{added}
use Rattle.crn_ctext.proofs.WrittenLines.{numbers_step}
use Rattle.crn_ctext.proofs.write_piece.add_ints.Goals as goal

pub loop-number-init : goal.loop-number-init
loop-number-init c = (sym (append-nil _), omega arith)

pub add_int-requires : goal.add_int-requires
add_int-requires c = omega (arith, c.requires, c.loop-number.invariant.1)

pub loop-number-preserved : goal.loop-number-preserved
loop-number-preserved c = (
  added c.args.piece.now.items _ _ (numbers_step c.args.numbers.now c.loop-number.number-index (omega arith)) c.loop-number.invariant.0 c.add_int.ensures.text,
  omega (arith, c.loop-number.invariant.1, c.add_int.ensures.len),
)

pub returns-clause-text : goal.returns-clause-text
returns-clause-text c = rw (take_all c.loop-number.number-index c.args.numbers.now (omega arith)) at c.loop-number.invariant.0

pub returns-clause-len : goal.returns-clause-len
returns-clause-len c = omega (arith, c.loop-number.invariant.1)
