use Rattle.crn_text.proofs.Prelude.{prefix_len-le-length, is_blank}
use Rattle.crn_text.proofs.Runs.{runs_from}
use Rattle.crn_text.proofs.place.split_blanks.Goals as goal

pub split_at-requires : goal.split_at-requires
split_at-requires c = rw c.blanks.ensures (prefix_len-le-length _ c.args.text.now)

pub returns : goal.returns
returns c = runs_from is_blank c.args.text.now _ _ c.blanks.result c.blanks.ensures c.split_at.ensures.front c.split_at.ensures.back
