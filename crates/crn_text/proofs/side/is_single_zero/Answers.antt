use Rattle.crn_text.proofs.Prelude.{sym, ◌∙◌}
use Rattle.crn_text.proofs.Zeros.{not_zero}
use Rattle.crn_text.proofs.side.is_single_zero.Goals as goal

pub returns-then-not-begins_with_zero : goal.returns-then-not-begins_with_zero
returns-then-not-begins_with_zero c = sym (not_zero c.args.side.now (sym c.begins_with_zero.ensures ∙ c.if-not-begins_with_zero.true))
