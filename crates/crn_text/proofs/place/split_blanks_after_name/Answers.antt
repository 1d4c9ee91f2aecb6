use Rattle.crn_text.proofs.Prelude.{is_blank}
use Rattle.crn_text.proofs.Runs.{runs_none}
use Rattle.crn_text.proofs.place.split_blanks_after_name.Goals as goal

pub returns-then-begins_with_plus : goal.returns-then-begins_with_plus
returns-then-begins_with_plus c = runs_none is_blank c.args.text.now _ _ c.split_at.ensures.front c.split_at.ensures.back
