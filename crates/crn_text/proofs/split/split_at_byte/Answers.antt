use Rattle.crn_text.proofs.Prelude.{sym, ◌∙◌, prefix_len-le-length}
use Rattle.crn_text.proofs.Splits.{splits_none, splits_some}
use Rattle.crn_text.proofs.split.split_at_byte.Goals as goal

pub split_at-requires : goal.split_at-requires
split_at-requires c = rw c.bytes_before.ensures (prefix_len-le-length _ c.args.text.now)

pub returns-in-None : goal.returns-in-None
returns-in-None c = splits_none c.args.byte c.args.text.now _ c.bytes_before.result c.bytes_before.ensures c.split_at.ensures.front (rw c.split_at.ensures.back at c.in-None.ensures.cases)

pub returns-in-Some : goal.returns-in-Some
returns-in-Some c = splits_some c.args.byte c.args.text.now _ c.bytes_before.result c.in-Some._byte.now c.in-Some.after c.bytes_before.ensures c.split_at.ensures.front (sym c.split_at.ensures.back ∙ c.in-Some.ensures.cases.0)
