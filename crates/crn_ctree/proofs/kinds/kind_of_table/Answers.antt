use Rattle.crn_ctree.proofs.Prelude.{◌≤◌, length, arith, sym, reaction_system, rows_count, row_in_a, table_of}
use Rattle.crn_ctree.proofs.KindLaws.{table_long}
use Rattle.crn_ctree.proofs.kinds.kind_of_table.Goals as goal

pub returns-else-k-reactions : goal.returns-else-k-reactions
returns-else-k-reactions c =
    let net = c.args.net.now in
    let le : length net.reactions ≤ c.args.k = omega (arith, c.if-k-reactions.false, c.reactions.ensures.count) in
    sym (row_in_a (reaction_system net) (table_of net c.args.table) c.args.prefix.now (length net.reactions) c.args.k (table_long net c.args.table) le (omega (arith, c.requires, rows_count net)))
