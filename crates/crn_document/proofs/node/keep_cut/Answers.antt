use Rattle.crn_document.proofs.Prelude.{length, ap, text_of, free_b, count_a}
use Rattle.crn_document.proofs.MetLines.{said_as, says_a, says_b}
use Rattle.crn_document.proofs.NodeRecords.{cut_a_fits, node_said}
use Rattle.crn_document.proofs.NodeWords.{cut_a_numbers, cut_b_numbers}
use Rattle.crn_document.proofs.node.keep_cut.Goals as goal

pub keep-requires-clause-numbers : goal.keep-requires-clause-numbers
keep-requires-clause-numbers c =
    let e = c.args.expect.now in
    let k = c.args.cuts.now in
    let x = c.requires.node in
    let h = c.requires.read in
    let a = count_a k.net k.problem in
    let s = length k.net.names in
    cut_a_fits k.net k.problem c.args.numbers.now (cut_a_numbers x.0 a s x.1 c.args.word c.args.numbers.now h.said (node_said e x.0 a s x.1 c.args.word c.args.numbers.now h.said x.2 (said_as e c.args.line.now c.args.word c.args.numbers.now h)) (ap text_of c.in-CutA.is))

pub keep-requires-in-CutB-clause-numbers : goal.keep-requires-in-CutB-clause-numbers
keep-requires-in-CutB-clause-numbers c =
    let e = c.args.expect.now in
    let k = c.args.cuts.now in
    let x = c.requires.node in
    let h = c.requires.read in
    let a = count_a k.net k.problem in
    let s = length k.net.names in
    free_b k.net k.problem c.args.numbers.now (cut_b_numbers x.0 a s x.1 c.args.word c.args.numbers.now h.said (node_said e x.0 a s x.1 c.args.word c.args.numbers.now h.said x.2 (said_as e c.args.line.now c.args.word c.args.numbers.now h)) (ap text_of c.in-CutB.is))

pub keep-requires-clause-says : goal.keep-requires-clause-says
keep-requires-clause-says c =
    let k = c.args.cuts.now in
    let x = c.requires.node in
    let h = c.requires.read in
    (h.said, says_a c.args.expect.now x.0 (count_a k.net k.problem) (length k.net.names) x.1 c.args.line.now c.args.word c.args.numbers.now x.2 h c.in-CutA.is)

pub keep-requires-in-CutB-clause-says : goal.keep-requires-in-CutB-clause-says
keep-requires-in-CutB-clause-says c =
    let k = c.args.cuts.now in
    let x = c.requires.node in
    let h = c.requires.read in
    (h.said, says_b c.args.expect.now x.0 (count_a k.net k.problem) (length k.net.names) x.1 c.args.line.now c.args.word c.args.numbers.now x.2 h c.in-CutB.is)

pub returns-in-CutA-clause-node_line : goal.returns-in-CutA-clause-node_line
returns-in-CutA-clause-node_line c = λ h.
    let k = c.args.cuts.now in
    let x = c.requires.node in
    let g = c.keep.ensures.node_line in
    g h.said c.args.numbers.now (says_a c.args.expect.now x.0 (count_a k.net k.problem) (length k.net.names) x.1 c.args.line.now c.args.word c.args.numbers.now x.2 h c.in-CutA.is) (said_as c.args.expect.now c.args.line.now c.args.word c.args.numbers.now h)

pub returns-in-CutB-clause-node_line : goal.returns-in-CutB-clause-node_line
returns-in-CutB-clause-node_line c = λ h.
    let k = c.args.cuts.now in
    let x = c.requires.node in
    let g = c.keep-in-CutB.ensures.node_line in
    g h.said c.args.numbers.now (says_b c.args.expect.now x.0 (count_a k.net k.problem) (length k.net.names) x.1 c.args.line.now c.args.word c.args.numbers.now x.2 h c.in-CutB.is) (said_as c.args.expect.now c.args.line.now c.args.word c.args.numbers.now h)

pub returns-in_default-clause-node_line : goal.returns-in_default-clause-node_line
returns-in_default-clause-node_line c = λ h. said_as c.args.expect.now c.args.line.now c.args.word c.args.numbers.now h
