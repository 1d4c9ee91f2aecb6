use Rattle.crn_siphon_text.proofs.Prelude.{document_gives, document_answered, IsOutcomeOf, part}
use Rattle.crn_siphon_text.proofs.Settled.{course_settled}
use Rattle.crn_siphon_text.proofs.verify.verify_persist.Goals as goal

pub returns-clause-gives : goal.returns-clause-gives
returns-clause-gives g c = document_gives part IsOutcomeOf c.next_document.result c.in_ok-at.at _ _ c.in_ok-at.ensures c.next_document.ensures

pub returns-clause-answered : goal.returns-clause-answered
returns-clause-answered g c =
    let before = g.S.Source.seen c.args.source.now in
    let now = g.S.Source.seen c.next_document.new.source in
    document_answered part IsOutcomeOf c.next_document.result before now course_settled (document_gives part IsOutcomeOf c.next_document.result c.in_ok-at.at before now c.in_ok-at.ensures c.next_document.ensures)
