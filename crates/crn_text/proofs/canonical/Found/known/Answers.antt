use Rattle.crn_text.proofs.Prelude.{arith}
use Rattle.crn_text.proofs.FoundPieces.{found_at}
use Rattle.crn_text.proofs.canonical.Found.known.Goals as goal

pub returns-in-Some : goal.returns-in-Some
returns-in-Some c = λ net found. rw c.in-Some.is at (found_at net 0 c.args.c c.args.c c.args.self.now.pieces (omega arith) found)
