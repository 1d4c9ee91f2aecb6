use Rattle.crn_ctext.proofs.Prelude.{document, records_of}
use Rattle.crn_ctext.proofs.Counted.{counted}
use Rattle.crn_ctext.proofs.FewNodes.{document_short}
use Rattle.crn_ctext.proofs.length.document_length.Goals as goal

pub returns : goal.returns
returns c =
    let rs = records_of c.args.net.now c.args.answers.now in
    let short = document_short c.args.net.now c.args.answers.now c.species-species.ensures.network c.requires.formed c.requires.few in
    counted (document c.args.net.now rs) c.write_document.new.sink.count c.write_document.new.sink.faults c.write_document.result c.write_document.new.sink.counted short c.write_document.ensures
