use Rattle.crn_text.proofs.Prelude.{prefix_len-le-length}
use Rattle.crn_text.proofs.token.begins_with_zero.Goals as goal

pub split_at-requires : goal.split_at-requires
split_at-requires c = rw c.blanks.ensures (prefix_len-le-length _ c.args.text.now)
