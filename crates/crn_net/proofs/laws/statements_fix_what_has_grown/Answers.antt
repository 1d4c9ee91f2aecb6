use Rattle.crn_net.proofs.CallerLemmas.{Grown-network, Grown-names, Grown-reactions}
use Rattle.crn_net.proofs.laws.statements_fix_what_has_grown.Goals as goal

pub returns : goal.returns
returns c = record { network = Grown-network; names = Grown-names; reactions = Grown-reactions }
