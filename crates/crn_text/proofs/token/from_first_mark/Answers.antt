use Rattle.crn_text.proofs.Prelude.{arith, is_unmarked}
use Rattle.crn_text.proofs.Unmarked.{run_fits}
use Rattle.crn_text.proofs.token.from_first_mark.Goals as goal

pub split_at-requires : goal.split_at-requires
split_at-requires c = omega (arith, c.unmarked_bytes.ensures, run_fits is_unmarked c.args.text.now)
