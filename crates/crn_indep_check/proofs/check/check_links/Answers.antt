use Rattle.crn_indep_check.proofs.Prelude.{arith}
use Rattle.crn_indep_check.proofs.Judged.{records_few}
use Rattle.crn_indep_check.proofs.check.check_links.Goals as goal

pub overflow_cast-record-2 : goal.overflow_cast-record-2
overflow_cast-record-2 c =
    let few = records_few c.args.net.now c.requires.form.0 c.args.proof.now c.args.labels.now c.args.up.now c.args.depth.now c.meets_definition.ensures c.requires.form.1 in
    omega (arith, few.1, c.len-2.ensures)

pub overflow_add-record-2 : goal.overflow_add-record-2
overflow_add-record-2 c =
    let few = records_few c.args.net.now c.requires.form.0 c.args.proof.now c.args.labels.now c.args.up.now c.args.depth.now c.meets_definition.ensures c.requires.form.1 in
    omega (arith, few.0, few.1, c.len.ensures, c.len-2.ensures)

pub overflow_add-result : goal.overflow_add-result
overflow_add-result c =
    let few = records_few c.args.net.now c.requires.form.0 c.args.proof.now c.args.labels.now c.args.up.now c.args.depth.now c.meets_definition.ensures c.requires.form.1 in
    omega (arith, few.0, few.1, c.len.ensures, c.len-2.ensures)

pub returns : goal.returns
returns c = (c.are_even_labels.ensures.0 c.if-not-are_even_labels.false, c.are_linked.ensures.0 c.if-not-are_linked.false)
