use Rattle.crn_farkas.proofs.Prelude.{sym, ◌∙◌, false≢true}
use Rattle.crn_farkas.proofs.ReadSigns.{column_sign}
use Rattle.crn_farkas.proofs.level.column_sign.Goals as goal

pub sign-requires-clause-place : goal.sign-requires-clause-place
sign-requires-clause-place c = c.names_rows.ensures.basis_is.below c.args.b c.requires.member

pub returns : goal.returns
returns c = λ y named at_b.
    column_sign c.args.tableau.now.matrix c.args.tableau.now.basis c.args.b c.args.c c.sign.result c.product.result c.opposite.result c.args.lead y c.names_rows.ensures c.requires.place
    (λ i. false≢true (sym c.if-is_basic.false ∙ c.is_basic.ensures.1 i)) c.sign.ensures c.product.ensures c.opposite.ensures named at_b
