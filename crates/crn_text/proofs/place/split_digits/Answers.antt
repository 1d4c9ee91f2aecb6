use Rattle.crn_text.proofs.Prelude.{prefix_len-le-length, is_digit}
use Rattle.crn_text.proofs.Runs.{runs_from}
use Rattle.crn_text.proofs.place.split_digits.Goals as goal

pub split_at-requires : goal.split_at-requires
split_at-requires c = rw c.digits.ensures (prefix_len-le-length _ c.args.text.now)

pub returns : goal.returns
returns c = runs_from is_digit c.args.text.now _ _ c.digits.result c.digits.ensures c.split_at.ensures.front c.split_at.ensures.back
