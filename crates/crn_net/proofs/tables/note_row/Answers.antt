use Rattle.crn_net.proofs.Prelude.{ℤ, inl, refl, subst, List, IsIn, at_in}
use Rattle.crn_net.proofs.tables.note_row.Goals as goal

pub returns-then-is_row_at-clause-notes : goal.returns-then-is_row_at-clause-notes
returns-then-is_row_at-clause-notes c =
    let at = c.is_row_at.ensures c.if-is_row_at.true in
    (inl (subst (λ (row : List ℤ). IsIn row c.args.rows.now.keys) at.1 (at_in c.args.rows.now.keys c.place-guess.result c.args.row at.0), refl), at.0, at.1, c.requires.few)
