use Rattle.crn_document.proofs.Prelude.{refl}
use Rattle.crn_document.proofs.met.MetLines.add.Goals as goal

pub returns-in-Some-clause-added : goal.returns-in-Some-clause-added
returns-in-Some-clause-added c = (_, c.in_ok-push.ensures.items, c.in_ok-bytes.ensures.items, refl)

pub returns-in_default-clause-added : goal.returns-in_default-clause-added
returns-in_default-clause-added c = (_, c.in_ok-push.ensures.items, c.in_ok-bytes.ensures.items, refl)
