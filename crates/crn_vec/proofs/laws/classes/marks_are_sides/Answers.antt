use Rattle.crn_vec.proofs.SideLaws.{marks_are_sides}
use Rattle.crn_vec.proofs.laws.classes.marks_are_sides.Goals as goal

pub returns : goal.returns
returns c = marks_are_sides
