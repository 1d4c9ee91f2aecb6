use Rattle.crn_check.proofs.Fits.{answer_fits}
use Rattle.crn_check.proofs.Forms.{facts_push}
use Rattle.crn_check.proofs.Truths.{answer_true}
use Rattle.crn_check.proofs.check.check_answer.Goals as goal

pub accept-requires-clause-fits : goal.accept-requires-clause-fits
accept-requires-clause-fits c = answer_fits c.args.net.now c.args.facts.now c.args.question c.args.answer.now c.meets_definition.ensures c.requires.built c.requires.facts c.requires.needs c.requires.formed

pub returns-clause-sound : goal.returns-clause-sound
returns-clause-sound c = answer_true c.args.net.now c.args.facts.now c.args.question c.args.answer.now c.meets_definition.ensures c.requires.built c.requires.facts c.requires.needs c.requires.formed c.in_ok-check_head.ensures c.in_ok-check_rows.ensures

pub returns-clause-facts : goal.returns-clause-facts
returns-clause-facts c = facts_push c.args.net.now c.args.facts.now c.accept.new.self c.args.question c.args.answer.now c.requires.facts c.requires.formed c.accept.ensures (returns-clause-sound c)
