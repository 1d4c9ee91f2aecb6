use Rattle.crn_farkas.proofs.Prelude.{sym, ◌∙◌, false≢true}
use Rattle.crn_farkas.proofs.ReadSigns.{lead_sign}
use Rattle.crn_farkas.proofs.level.lead_sign.Goals as goal

pub sign-requires-clause-place : goal.sign-requires-clause-place
sign-requires-clause-place c = c.names_rows.ensures.basis_is.below c.args.b c.requires.member

pub returns : goal.returns
returns c = λ y named at_g some.
    lead_sign c.args.tableau.now.matrix c.args.tableau.now.basis c.args.b c.args.g c.sign.result c.opposite.result c.product.result c.args.asked y c.names_rows.ensures c.requires.goal
    (λ i. false≢true (sym c.if-is_basic.false ∙ c.is_basic.ensures.1 i)) c.sign.ensures c.opposite.ensures c.product.ensures named at_g some
