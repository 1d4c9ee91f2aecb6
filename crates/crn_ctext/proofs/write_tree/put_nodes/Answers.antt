use Rattle.crn_ctext.proofs.Prelude.{sym, ap, List, err_from_is_err_and, Wrote-all, Wrote-prefix, Record, nodes, record_lines}
use Rattle.crn_ctext.proofs.Pieces.{wrote_as}
use Rattle.crn_ctext.proofs.WrittenLeaves.{written_none}
use Rattle.crn_ctext.proofs.write_tree.put_nodes.Goals as goal

pub returns-in_err-put_tree : goal.returns-in_err-put_tree
returns-in_err-put_tree g c =
    let p = err_from_is_err_and c.from_residual.result c.from_residual.ensures.1 in
    wrote_as (ap (λ (t : List Record). record_lines t) (sym (written_none (nodes c.args.tree.now)))) (Wrote-prefix p.1 c.in_err-put_tree.ensures.wrote.prefix)

pub returns : goal.returns
returns g c = wrote_as (ap (λ (t : List Record). record_lines t) (sym (written_none (nodes c.args.tree.now)))) (Wrote-all c.in_ok-put_tree.ensures.wrote.all)
