use Rattle.crn_robust.proofs.Prelude.{arith}
use Rattle.crn_robust.proofs.Known.{classes_leave, deficiency_by}
use Rattle.crn_robust.proofs.case.deficiency.Goals as goal

pub overflow_sub-result : goal.overflow_sub-result
overflow_sub-result c = omega (arith, c.count_in.ensures, c.complexes.ensures.count, classes_leave c.args.net.now c.args.linkage.now c.args.rank c.meets_definition.ensures c.requires.linkage c.requires.rank)

pub overflow_sub-result-2 : goal.overflow_sub-result-2
overflow_sub-result-2 c = omega (arith, c.count_in.ensures, c.complexes.ensures.count, classes_leave c.args.net.now c.args.linkage.now c.args.rank c.meets_definition.ensures c.requires.linkage c.requires.rank)

pub returns : goal.returns
returns c =
    let few = classes_leave c.args.net.now c.args.linkage.now c.args.rank c.meets_definition.ensures c.requires.linkage c.requires.rank in
    deficiency_by c.args.net.now c.args.linkage.now c.args.rank _ c.requires.linkage c.requires.rank (omega (arith, c.count_in.ensures, c.complexes.ensures.count, few))
