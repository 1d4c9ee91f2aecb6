use Rattle.crn_text.proofs.PlaceTests.{occurs_itself}
use Rattle.crn_text.proofs.held.Held.read.Goals as goal

pub read_side-requires-clause-occurs : goal.read_side-requires-clause-occurs
read_side-requires-clause-occurs c = occurs_itself c.args.side.now
