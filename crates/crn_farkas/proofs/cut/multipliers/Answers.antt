use Rattle.crn_farkas.proofs.Prelude.{◌≡◌, ℕ, List, ap, sym, ◌∙◌, drop, scale, as_row, KeptInts, if_ok, factor, IsNamedCut, IsRowOfSign}
use Rattle.std.proofs.Common.{ℤ}
use Rattle.crn_farkas.proofs.Ruling.{cut_from, multipliers_from, row_from}
use Rattle.crn_farkas.proofs.cut.multipliers.Goals as goal

pub returns-clause-work : goal.returns-clause-work
returns-clause-work c =
    let a = c.args.tableau.now.matrix in
    (as_row a c.args.tableau.now.basis c.args.cut.now.row c.put_row.new.into c.requires.cut.outside c.put_row.ensures.named).space.long ∙ sym c.requires.work

pub returns-clause-named : goal.returns-clause-named
returns-clause-named c =
    let a = c.args.tableau.now.matrix in
    let basis = c.args.tableau.now.basis in
    let kinds = c.args.kinds.now in
    let row = c.args.cut.now.row in
    let sign = c.args.cut.now.sign in
    let s = c.stays-stays.result in
    let w = c.put_row.new.into in
    let part : c.split_at.result.1.now ≡ drop a.cols w = c.split_at.ensures.back ∙ ap (λ (n : ℕ). drop n w) c.cols.ensures in
    if_ok (λ (made : KeptInts). made.list ≡ scale (factor s) c.split_at.result.1.now) (λ (u : KeptInts). IsNamedCut a basis kinds u.list) c.multiple.result
    (λ u e. (
      cut_from a basis kinds row sign s w u.list c.names_rows.ensures c.requires.cut.inside c.requires.cut.outside c.requires.kinds c.requires.cut.cuts c.put_row.ensures.named c.put_row.ensures.small
          c.stays-stays.ensures (e ∙ ap (scale (factor s)) part),
      multipliers_from a basis row s w u.list c.requires.cut.outside c.put_row.ensures.named (e ∙ ap (scale (factor s)) part),
    ))
    c.multiple.ensures

pub returns-clause-row : goal.returns-clause-row
returns-clause-row c =
    let a = c.args.tableau.now.matrix in
    let basis = c.args.tableau.now.basis in
    let row = c.args.cut.now.row in
    let sign = c.args.cut.now.sign in
    let s = c.stays-stays.result in
    let w = c.put_row.new.into in
    let part : c.split_at.result.1.now ≡ drop a.cols w = c.split_at.ensures.back ∙ ap (λ (n : ℕ). drop n w) c.cols.ensures in
    if_ok (λ (made : KeptInts). made.list ≡ scale (factor s) c.split_at.result.1.now) (λ (u : KeptInts). (v : List ℤ) × IsRowOfSign a basis row sign v × (drop a.cols v ≡ u.list)) c.multiple.result
    (λ u e. row_from a basis row sign s w u.list c.names_rows.ensures c.requires.cut.inside c.requires.cut.outside c.requires.cut.cuts.some c.put_row.ensures.named c.stays-stays.ensures (e ∙ ap (scale (factor s)) part))
    c.multiple.ensures
