use Rattle.crn_vec.proofs.Prelude.{root}
use Rattle.crn_vec.proofs.VisitLaws.{longer_by, passes_by}
use Rattle.crn_vec.proofs.laws.visits.longer_visits.Goals as goal

pub returns : goal.returns
returns c = record { passes = λ w visits found n v lt. passes_by w root visits found n v lt; longer = λ w visits found n v g. longer_by w root visits found n v g }
