use Rattle.crn_run.proofs.Certificates.{certificate_good}
use Rattle.crn_run.proofs.output.certificate_is_good.Goals as goal

pub returns : goal.returns
returns c = record {
  share = c.shares_are_of_records.ensures.one c.args.net.now c.args.answers.now c.requires.formed;
  fits = c.written_documents_are_good.ensures.share c.args.net.now c.args.answers.now c.species.ensures.network c.requires.formed;
  good = certificate_good c.written_documents_are_good.ensures.second c.written_documents_are_good.ensures.share c.args.net.now c.args.answers.now c.species.ensures.network c.requires.formed c.requires.valid c.requires.few;
}
