use Rattle.crn_ctree.proofs.Prelude.{ap, subst, ◌∙◌, HasSign, sign, held, sign_is}
use Rattle.crn_ctree.proofs.pair.change_sign.Goals as goal

pub returns : goal.returns
returns c = sign_is c.sign_of.result c.sum_at.result (subst (λ x. HasSign c.sign_of.result x) (held c.sum_at.result c.sum_at.ensures.small) c.sign_of.ensures) ∙ ap sign c.sum_at.ensures.value
