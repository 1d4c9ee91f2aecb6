use Rattle.crn_document.proofs.verdict.verdict_of.Goals as goal

pub returns-in-Wide : goal.returns-in-Wide
returns-in-Wide c = c.open_verdict.ensures c.args.rows.now
