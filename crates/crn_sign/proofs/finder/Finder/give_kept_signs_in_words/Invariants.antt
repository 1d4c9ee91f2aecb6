use Rattle.crn_sign.proofs.Prelude.{AreRowMarks, IsFinder}
use Rattle.crn_sign.proofs.finder.Finder.give_kept_signs_in_words.Given as goal

abbrev pub invariant-loop-w : goal.invariant-loop-w
invariant-loop-w l = record {
  finder : IsFinder l.matrix l.self;
  marks : AreRowMarks l.matrix l.marks;
}
