use Rattle.crn_document.proofs.Prelude.{length, ap, arith, text_of, free_b, count_a}
use Rattle.crn_document.proofs.NodeRecords.{cut_a_fits}
use Rattle.crn_document.proofs.NodeWords.{cut_a_numbers, cut_b_numbers, first_names, second_names, names_small}
use Rattle.crn_document.proofs.node.judge_new.Goals as goal

pub node-requires-in-CutA-clause-numbers : goal.node-requires-in-CutA-clause-numbers
node-requires-in-CutA-clause-numbers c =
    let h = c.requires.node in
    let problem = c.args.check.now.problem in
    cut_a_fits c.args.net.now problem c.args.numbers.now (cut_a_numbers h.0 (count_a c.args.net.now problem) (length c.args.net.now.names) (length c.args.cuts.now.table) c.args.word c.args.numbers.now h.1 h.2 (ap text_of c.in-CutA.is))

pub node-requires-in-CutB-clause-numbers : goal.node-requires-in-CutB-clause-numbers
node-requires-in-CutB-clause-numbers c =
    let h = c.requires.node in
    let problem = c.args.check.now.problem in
    free_b c.args.net.now problem c.args.numbers.now (cut_b_numbers h.0 (count_a c.args.net.now problem) (length c.args.net.now.names) (length c.args.cuts.now.table) c.args.word c.args.numbers.now h.1 h.2 (ap text_of c.in-CutB.is))

pub number_of-requires : goal.number_of-requires
number_of-requires c =
    let h = c.requires.node in
    names_small (length c.args.cuts.now.table) c.args.numbers.now (omega (arith, c.requires.few)) (first_names h.0 (count_a c.args.net.now c.args.check.now.problem) (length c.args.net.now.names) (length c.args.cuts.now.table) c.args.word c.args.numbers.now h.1 h.2 (ap text_of c.in-RefA.is))

pub number_of-requires-in_default : goal.number_of-requires-in_default
number_of-requires-in_default c =
    let h = c.requires.node in
    names_small (length c.args.cuts.now.table) c.args.numbers.now (omega (arith, c.requires.few))
    (second_names h.0 (count_a c.args.net.now c.args.check.now.problem) (length c.args.net.now.names) (length c.args.cuts.now.table) c.args.word c.args.numbers.now h.1 h.2 c.in_default.not-Split c.in_default.not-Flat c.in_default.not-CutA c.in_default.not-CutB c.in_default.not-RefA).1
