use Rattle.crn_ctext.proofs.Prelude.{◌≤◌, ◌↔◌, length, drop, IsAscending, AreMembers}
use Rattle.crn_ctext.proofs.record_shape.are_members.Given as goal

abbrev pub invariant-loop-member : goal.invariant-loop-member
invariant-loop-member l = (l.met ≤ length l.numbers) × IsAscending (drop l.member-index l.members)
    × (AreMembers (drop l.member-index l.members) (drop l.met l.numbers) ↔ AreMembers l.members l.numbers)
