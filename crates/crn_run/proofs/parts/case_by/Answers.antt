use Rattle.crn_run.proofs.Robustness.{picked_by_blocks, three_true}
use Rattle.crn_run.proofs.parts.case_by.Goals as goal

pub pick-requires-clause-linkage : goal.pick-requires-clause-linkage
pick-requires-clause-linkage c =
    (three_true c.args.net.now c.args.answers.now c.get-linkage.result.now c.get-strong.result.now c.get-rank.result.now c.meets_definition.ensures c.requires.formed c.requires.valid c.get-linkage.ensures c.get-strong.ensures c.get-rank.ensures).0

pub pick-requires-clause-strong : goal.pick-requires-clause-strong
pick-requires-clause-strong c =
    (three_true c.args.net.now c.args.answers.now c.get-linkage.result.now c.get-strong.result.now c.get-rank.result.now c.meets_definition.ensures c.requires.formed c.requires.valid c.get-linkage.ensures c.get-strong.ensures c.get-rank.ensures).1

pub pick-requires-clause-rank : goal.pick-requires-clause-rank
pick-requires-clause-rank c =
    (three_true c.args.net.now c.args.answers.now c.get-linkage.result.now c.get-strong.result.now c.get-rank.result.now c.meets_definition.ensures c.requires.formed c.requires.valid c.get-linkage.ensures c.get-strong.ensures c.get-rank.ensures).2

pub returns : goal.returns
returns c = picked_by_blocks c.args.net.now c.args.answers.now c.get-linkage.result.now c.get-strong.result.now c.get-rank.result.now c.pick.result c.requires.formed c.get-linkage.ensures c.get-strong.ensures c.get-rank.ensures c.pick.ensures
