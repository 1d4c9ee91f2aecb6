use Rattle.crn_net.proofs.Prelude.{◌∙◌, sym, ap₂, int_eq, pointwise}
use Rattle.crn_net.proofs.Narrow.{same_seen}
use Rattle.crn_net.proofs.row.AmountsPartialEq.eq.Goals as goal

pub returns : goal.returns
returns c = c.are_same.ensures ∙ sym (same_seen c.self.inside.row c.other.inside.row) ∙ ap₂ (pointwise int_eq) c.self.view_is c.other.view_is
