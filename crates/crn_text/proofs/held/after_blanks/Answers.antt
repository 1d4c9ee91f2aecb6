use Rattle.crn_text.proofs.Prelude.{arith, prefix_len-le-length, is_blank}
use Rattle.crn_text.proofs.held.after_blanks.Goals as goal

pub split_at-requires : goal.split_at-requires
split_at-requires c = omega (arith, c.blanks.ensures, prefix_len-le-length is_blank c.args.text.now)
