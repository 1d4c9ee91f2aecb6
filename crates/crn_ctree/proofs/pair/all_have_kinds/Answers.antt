use Rattle.crn_ctree.proofs.Prelude.{◌∙◌, [], refl, sym, subst, arith, pos, false≢true, column_kind, HasKind, entry, zip_from, zip_at, table_of}
use Rattle.crn_ctree.proofs.KindLaws.{table_long}
use Rattle.crn_ctree.proofs.pair.all_have_kinds.Goals as goal

pub returns-then-not-has_kind : goal.returns-then-not-has_kind
returns-then-not-has_kind c =
    let net = c.args.net.now in
    let table = table_of net c.args.table in
    let r = c.loop-r.r in (
      λ t. absurd (false≢true t),
      λ h.
          let k = zip_at (λ ss x. HasKind (column_kind ss c.args.prefix.now) x) [] (pos 0) table c.args.alpha.now h r (omega (arith, table_long net c.args.table, c.loop-r-test.true, c.reactions-r-end.ensures.count)) in
          absurd (false≢true (sym c.if-not-has_kind.true ∙ c.has_kind.ensures.1 (subst (λ κ. HasKind κ (entry c.args.alpha.now r)) (sym c.column_kind.ensures) k))),
    )

pub returns : goal.returns
returns c =
    let net = c.args.net.now in
    let table = table_of net c.args.table in (
      λ t. zip_from (λ ss x. HasKind (column_kind ss c.args.prefix.now) x) [] (pos 0) table c.args.alpha.now (c.requires ∙ sym (table_long net c.args.table)) (λ k lt. c.loop-r.invariant k (omega (arith, lt, table_long net c.args.table, c.reactions-r-end.ensures.count, c.loop-r-test.false, c.loop-r.auto.r-end))),
      λ h. refl,
    )
