use Rattle.crn_text.proofs.Prelude.{arith}
use Rattle.crn_text.proofs.ByteTable.{name_byte_at}
use Rattle.crn_text.proofs.bytes.is_near_byte_of_name.Goals as goal

pub returns : goal.returns
returns c = rw c.from.ensures (name_byte_at c.args.byte (omega arith))
