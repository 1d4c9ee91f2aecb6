use Rattle.crn_text.proofs.Prelude.{is_name_byte}
use Rattle.crn_text.proofs.Runs.{run_within}
use Rattle.crn_text.proofs.bytes.short_name_bytes.Goals as goal

pub returns-clause-inside : goal.returns-clause-inside
returns-clause-inside c = (run_within is_name_byte c.args.bytes.now c.split_at.result.0.now _ c.near_name_bytes.result c.split_at.ensures.front c.near_name_bytes.ensures).0

pub returns-clause-named : goal.returns-clause-named
returns-clause-named c = (run_within is_name_byte c.args.bytes.now c.split_at.result.0.now _ c.near_name_bytes.result c.split_at.ensures.front c.near_name_bytes.ensures).1
