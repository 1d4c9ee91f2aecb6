use Rattle.crn_sign.proofs.Prelude.{◌≡◌, ◌++◌, List, [], length, take, drop, ap, subst, ◌∙◌, arith, Mat, Signed, written, Bits, AreRowMarks, kinds_of}
use Rattle.crn_sign.proofs.PlaceLaws.{asked_kinds}
use Rattle.crn_sign.proofs.place.begin_a.Goals as goal

pub returns-clause-here : goal.returns-clause-here
returns-clause-here g c =
    let w : Signed = g.P.SignProblem.signed c.args.problem.now in
    let asks = c.begin_a.ensures.asked in
    let old = c.forget.new.self.asked in
    let new = c.begin_a.new.asked in
    let long : length new ≡ old.len = omega (arith, asks.count, ap (λ (q : List Bits). length q) c.forget.ensures.asked, c.requires.room.asked, old.ok.0) in
    let is : take old.len (new ++ drop (length new) old.items) ≡ new = written old.len new old.items long in
    record {
      place = record {
        width_is = c.forget.ensures.width ∙ c.requires.room.width_is;
        asked = ap (λ (q : List Bits). length q) is ∙ asks.count;
        marks = subst (λ (a : Mat). AreRowMarks a c.forget.new.self.marks.items) c.matrix_a.ensures c.forget.ensures.marks;
        suits = λ t. absurd (cc);
      };
      kinds_are = ap (λ (q : List Bits). kinds_of w.matrix_a (g.P.SignProblem.weak c.args.problem.now) q) is ∙ asked_kinds w.matrix_a (g.P.SignProblem.weak c.args.problem.now) (w.kinds_a []) new (c.requires.lawful.long_a [] (omega arith)) asks;
    }
