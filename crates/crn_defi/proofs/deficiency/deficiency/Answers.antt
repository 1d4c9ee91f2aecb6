use Rattle.crn_defi.proofs.Prelude.{arith}
use Rattle.crn_defi.proofs.Counted.{rank_leaves}
use Rattle.crn_defi.proofs.deficiency.deficiency.Goals as goal

pub overflow_sub-result : goal.overflow_sub-result
overflow_sub-result c =
    let net = c.args.net.now in
    let l = c.args.linkage.now in
    let leaves = rank_leaves net l.count c.args.rank l.label.list c.meets_definition.ensures c.requires.classes c.requires.rank in
    omega (arith, leaves, c.complexes.ensures.count)

pub overflow_sub-result-2 : goal.overflow_sub-result-2
overflow_sub-result-2 c =
    let net = c.args.net.now in
    let l = c.args.linkage.now in
    let leaves = rank_leaves net l.count c.args.rank l.label.list c.meets_definition.ensures c.requires.classes c.requires.rank in
    omega (arith, leaves, c.complexes.ensures.count)

pub returns : goal.returns
returns c =
    let net = c.args.net.now in
    let l = c.args.linkage.now in
    let leaves = rank_leaves net l.count c.args.rank l.label.list c.meets_definition.ensures c.requires.classes c.requires.rank in
    omega (arith, leaves, c.complexes.ensures.count)
