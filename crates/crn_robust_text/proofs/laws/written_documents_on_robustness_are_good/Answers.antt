use Rattle.crn_robust_text.proofs.WrittenGood.{written_are_documents}
use Rattle.crn_robust_text.proofs.laws.written_documents_on_robustness_are_good.Goals as goal

pub returns : goal.returns
returns c = written_are_documents
