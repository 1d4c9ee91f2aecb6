use Rattle.crn_text.proofs.Prelude.{ℕ, List, eqb, ap, ◌∙◌, not, take_while}
use Rattle.crn_text.proofs.Splits.{split_prefix}
use Rattle.crn_text.proofs.line.body_of.Goals as goal

pub returns : goal.returns
returns c = split_prefix 35 _ _ _ c.split_at_byte.ensures ∙ ap (λ (t : List ℕ). take_while (λ b. not (eqb b 35)) t) c.without_cr.ensures
