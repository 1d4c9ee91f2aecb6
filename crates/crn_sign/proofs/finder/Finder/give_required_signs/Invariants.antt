use Rattle.crn_sign.proofs.Prelude.{AreRowMarks, IsFinder}
use Rattle.crn_sign.proofs.finder.Finder.give_required_signs.Given as goal

abbrev pub invariant-loop-i : goal.invariant-loop-i
invariant-loop-i l = record {
  finder : IsFinder l.matrix l.self;
  marks : AreRowMarks l.matrix l.marks;
}
