use Rattle.crn_document.proofs.Codes.{document_numbered}
use Rattle.crn_document.proofs.Documents.{document_answered, document_gives}
use Rattle.crn_document.proofs.check.check_document.Goals as goal

pub returns-clause-gives : goal.returns-clause-gives
returns-clause-gives g c = document_gives c.next_document.result c.in_ok-at.at _ _ c.in_ok-at.ensures c.next_document.ensures.step

pub returns-clause-numbered : goal.returns-clause-numbered
returns-clause-numbered g c =
    let before = g.S.Source.seen c.args.source.now in
    let now = g.S.Source.seen c.next_document.new.source in
    document_numbered c.next_document.result before now (document_gives c.next_document.result c.in_ok-at.at before now c.in_ok-at.ensures c.next_document.ensures.step)

pub returns-clause-answered : goal.returns-clause-answered
returns-clause-answered g c = document_answered c.next_document.result c.in_ok-at.at (g.S.Source.seen c.args.source.now) (g.S.Source.seen c.next_document.new.source) c.in_ok-at.ensures c.next_document.ensures.step
