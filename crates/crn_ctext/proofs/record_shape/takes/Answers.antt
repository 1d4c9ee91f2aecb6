use Rattle.crn_ctext.proofs.Prelude.{Members, CountAndPart}
use Rattle.crn_ctext.proofs.LineShapes.{through, alone}
use Rattle.crn_ctext.proofs.record_shape.takes.Goals as goal

pub returns-in-Members : goal.returns-in-Members
returns-in-Members c = rw c.in-Members.is (through c.is_base.ensures (alone (Members c.in-Members.count c.in-Members.members.now) c.args.numbers.now))

pub returns-in-CountAndPart : goal.returns-in-CountAndPart
returns-in-CountAndPart c = rw c.in-CountAndPart.is (through c.is_count_and_part.ensures (alone (CountAndPart c.in-CountAndPart.greatest) c.args.numbers.now))
