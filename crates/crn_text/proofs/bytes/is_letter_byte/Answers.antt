use Rattle.crn_text.proofs.Prelude.{arith}
use Rattle.crn_text.proofs.ByteTable.{letter_at}
use Rattle.crn_text.proofs.bytes.is_letter_byte.Goals as goal

pub returns : goal.returns
returns c = rw c.from.ensures (letter_at c.args.byte (omega arith))
