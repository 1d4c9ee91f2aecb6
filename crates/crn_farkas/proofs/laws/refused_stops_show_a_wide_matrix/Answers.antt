use Rattle.crn_farkas.proofs.WideStops.{refused_wide}
use Rattle.crn_farkas.proofs.laws.refused_stops_show_a_wide_matrix.Goals as goal

pub returns : goal.returns
returns c = refused_wide
