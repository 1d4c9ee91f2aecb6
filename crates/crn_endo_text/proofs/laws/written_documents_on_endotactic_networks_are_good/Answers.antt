use Rattle.crn_endo_text.proofs.ShortDocuments.{written_are_documents}
use Rattle.crn_endo_text.proofs.laws.written_documents_on_endotactic_networks_are_good.Goals as goal

pub returns : goal.returns
returns c = written_are_documents
