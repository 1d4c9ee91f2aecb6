use Rattle.crn_text.proofs.Prelude.{MAX_COMPLEXES}
use Rattle.crn_text.proofs.FoundPieces.{none_found}
use Rattle.crn_text.proofs.canonical.Found.new.Goals as goal

pub returns : goal.returns
returns c = λ net. none_found net 0 MAX_COMPLEXES
