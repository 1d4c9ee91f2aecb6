use Rattle.crn_ctext.proofs.WrittenAnswers.{shares_are_one, shares_fit_both}
use Rattle.crn_ctext.proofs.laws.shares_are_of_records.Goals as goal

pub returns : goal.returns
returns c = record { one = shares_are_one; fit = shares_fit_both }
