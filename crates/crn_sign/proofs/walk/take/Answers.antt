use Rattle.crn_sign.proofs.Prelude.{ℕ, List, [], refl, sym, subst, Mat, AreRowMarks, IsFor, IsPlace}
use Rattle.crn_sign.proofs.walk.take.Goals as goal

pub take-requires : goal.take-requires
take-requires g c =
    let e = c.matrix_a.ensures in
    record {
      here = subst (λ (m : Mat). IsFor m c.weak_a.result.now c.args.above.now.a c.args.here.now.a) (sym e) (subst (λ (v : List ℕ). IsFor (g.P.SignProblem.signed c.args.problem.now).matrix_a v c.args.above.now.a c.args.here.now.a) (sym c.weak_a.ensures) c.requires.here.a);
      above = subst (λ (m : Mat). AreRowMarks m c.args.above.now.a.marks.items) (sym e) c.requires.above.a;
    }

pub take-requires-2 : goal.take-requires-2
take-requires-2 g c =
    let e = c.matrix_b.ensures in
    record {
      here = subst (λ (m : Mat). IsFor m [] c.args.above.now.b c.args.here.now.b) (sym e) c.requires.here.b;
      above = subst (λ (m : Mat). AreRowMarks m c.args.above.now.b.marks.items) (sym e) c.requires.above.b;
    }

pub returns : goal.returns
returns g c = record {
  a = subst (λ (v : List ℕ). IsPlace (g.P.SignProblem.signed c.args.problem.now).matrix_a v c.take.new.self) c.weak_a.ensures (subst (λ (m : Mat). IsPlace m c.weak_a.result.now c.take.new.self) c.matrix_a.ensures c.take.ensures.here);
  b = subst (λ (m : Mat). IsPlace m [] c.take-2.new.self) c.matrix_b.ensures c.take-2.ensures.here;
  asked_a = c.take.ensures.asked;
  asked_b = c.take-2.ensures.asked;
  sums = refl;
}
