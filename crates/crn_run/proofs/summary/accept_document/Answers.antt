use Rattle.crn_run.proofs.Prelude.{Some, ap, refl}
use Rattle.crn_run.proofs.Accepted.{only_memory}
use Rattle.crn_run.proofs.summary.accept_document.Goals as goal

pub unreachable-requires : goal.unreachable-requires
unreachable-requires c =
    c.in_default.not-NoMemory (only_memory c.good_documents_are_read.ensures.read c.args.document.now c.check_document.result c.in-Err.stop _ _ c.requires c.check_document.ensures.answered (ap Some c.new-source.ensures) refl refl c.in-Err.is)
