use Rattle.crn_text.proofs.Prelude.{sym, ◌∙◌}
use Rattle.crn_text.proofs.HeldSides.{trimmed_none, trimmed_last}
use Rattle.crn_text.proofs.held.before_blanks.Goals as goal

pub blanks-init : goal.blanks-init
blanks-init c = trimmed_none c.args.text.now

pub blanks-preserved : goal.blanks-preserved
blanks-preserved c = trimmed_last c.args.text.now c.blanks.left.now c.in-len1-up.len_at_least c.blanks.invariant (sym c.is_blank_byte.ensures ∙ c.if-not-is_blank_byte.false)
