use Rattle.crn_reg.proofs.Prelude.{◌≡◌, drop, KeptInts, if_ok, IsTieOf}
use Rattle.crn_reg.proofs.Named.{tie_by}
use Rattle.crn_reg.proofs.ties.tie_of.Goals as goal

pub put_row-requires-clause-outside : goal.put_row-requires-clause-outside
put_row-requires-clause-outside c = c.requires.outside c.args.c c.requires.column c.requires.other

pub returns-clause-tie : goal.returns-clause-tie
returns-clause-tie c =
    let a = c.args.tableau.now.matrix in
    let w = c.put_row.new.into in
    if_ok (λ (made : KeptInts). made.list ≡ drop a.cols w) (λ (made : KeptInts). IsTieOf a c.args.spared c.args.c made.list) c.at_rows.result
    (λ made e. tie_by a c.args.tableau.now.basis c.args.spared c.args.c w made.list c.names_rows.ensures c.requires.outside c.requires.column c.requires.other c.put_row.ensures.named c.put_row.ensures.small e)
    c.at_rows.ensures
