use Rattle.crn_indep_text.proofs.ShortDocuments.{written_are_documents}
use Rattle.crn_indep_text.proofs.laws.written_documents_on_decompositions_are_good.Goals as goal

pub returns : goal.returns
returns c = written_are_documents
