use Rattle.crn_net.proofs.Prelude.{inl, refl, subst, ℕ, List, [], IsIn, at_in}
use Rattle.crn_net.proofs.tables.note_next.Goals as goal

pub returns-then-is_name_at-clause-notes : goal.returns-then-is_name_at-clause-notes
returns-then-is_name_at-clause-notes c =
    let at = c.is_name_at.ensures c.if-is_name_at.true in
    (inl (subst (λ (name : List ℕ). IsIn name c.args.names.now.keys) at.1 (at_in c.args.names.now.keys c.args.next [] at.0), refl), at.0, at.1, c.requires.few)
