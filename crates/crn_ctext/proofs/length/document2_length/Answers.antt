use Rattle.crn_ctext.proofs.Prelude.{built, Share, document2, records_of}
use Rattle.crn_ctext.proofs.Counted.{counted}
use Rattle.crn_ctext.proofs.FewNodes.{document2_short}
use Rattle.crn_ctext.proofs.length.document2_length.Goals as goal

pub returns : goal.returns
returns c =
    let said : Share = record { table = c.args.share.now.table; leaf = c.args.share.now.leaf.list } in
    let rs = records_of c.args.net.now c.args.answers.now in
    let short = document2_short c.args.net.now c.args.answers.now said c.species-species.ensures.network c.requires.formed c.requires.few c.requires.fits in
    counted (document2 built c.args.net.now rs said) c.write_document2.new.sink.count c.write_document2.new.sink.faults c.write_document2.result c.write_document2.new.sink.counted short c.write_document2.ensures
