use Rattle.crn_defi.proofs.Prelude.{length, ap, arith}
use Rattle.crn_defi.proofs.ClassRanks.{proof_leaves, class_short}
use Rattle.crn_defi.proofs.class_rank.class_rank_by.Goals as goal

pub overflow_cast-rank : goal.overflow_cast-rank
overflow_cast-rank c =
    let net = c.args._net.now in
    let labels = c.args.label.now in
    let leaves = proof_leaves net labels c.args.class c.args.proof c.meets_definition.ensures c.requires.labelled c.requires.class c.requires.proves in
    omega (arith, leaves, class_short net labels c.args.class c.requires.labelled, c.meets_definition.ensures.partial.complexes_limit, ap length c.as_slice.ensures)

pub overflow_sub-result : goal.overflow_sub-result
overflow_sub-result c =
    let leaves = proof_leaves c.args._net.now c.args.label.now c.args.class c.args.proof c.meets_definition.ensures c.requires.labelled c.requires.class c.requires.proves in
    omega (arith, leaves, c.complexes_of.ensures)

pub overflow_sub-result-2 : goal.overflow_sub-result-2
overflow_sub-result-2 c =
    let leaves = proof_leaves c.args._net.now c.args.label.now c.args.class c.args.proof c.meets_definition.ensures c.requires.labelled c.requires.class c.requires.proves in
    omega (arith, leaves, c.complexes_of.ensures, ap length c.as_slice.ensures)

pub returns : goal.returns
returns c =
    let leaves = proof_leaves c.args._net.now c.args.label.now c.args.class c.args.proof c.meets_definition.ensures c.requires.labelled c.requires.class c.requires.proves in
    record { proves = c.requires.proves; left = omega (arith, leaves, c.complexes_of.ensures, ap length c.as_slice.ensures) }
