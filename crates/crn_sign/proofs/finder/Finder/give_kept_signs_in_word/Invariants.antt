use Rattle.crn_sign.proofs.Prelude.{AreRowMarks, IsFinder}
use Rattle.crn_sign.proofs.finder.Finder.give_kept_signs_in_word.Given as goal

abbrev pub invariant-places : goal.invariant-places
invariant-places l = record {
  finder : IsFinder l.matrix l.self;
  marks : AreRowMarks l.matrix l.marks;
}

abbrev pub decreases-places : goal.decreases-places
decreases-places l = l.rest
