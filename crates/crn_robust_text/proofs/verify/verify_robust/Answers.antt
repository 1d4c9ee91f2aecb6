use Rattle.crn_robust_text.proofs.Prelude.{document_gives, document_answered, IsReadAs, part}
use Rattle.crn_robust_text.proofs.Settled.{course_settled}
use Rattle.crn_robust_text.proofs.verify.verify_robust.Goals as goal

pub returns-clause-gives : goal.returns-clause-gives
returns-clause-gives g c = document_gives part IsReadAs c.next_document.result c.in_ok-at.at _ _ c.in_ok-at.ensures c.next_document.ensures.step

pub returns-clause-answered : goal.returns-clause-answered
returns-clause-answered g c =
    let before = g.S.Source.seen c.args.source.now in
    let now = g.S.Source.seen c.next_document.new.source in
    document_answered part IsReadAs c.next_document.result before now course_settled (document_gives part IsReadAs c.next_document.result c.in_ok-at.at before now c.in_ok-at.ensures c.next_document.ensures.step)
