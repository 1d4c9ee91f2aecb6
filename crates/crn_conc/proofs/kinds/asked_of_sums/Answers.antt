use Rattle.crn_conc.proofs.SumLaws.{asked_word}
use Rattle.crn_conc.proofs.kinds.asked_of_sums.Goals as goal

pub returns : goal.returns
returns c = asked_word c.args.settled c.args.sums
