use Rattle.crn_text.proofs.Prelude.{length}
use Rattle.crn_text.proofs.Remembered.{known_put}
use Rattle.crn_text.proofs.known.Known.put.Goals as goal

pub returns : goal.returns
returns c = λ text read is known. known_put text read c.args.line.now c.args.self.now.places c.slot.result (record { at = c.args.at; length = length c.args.line.now }) is known
