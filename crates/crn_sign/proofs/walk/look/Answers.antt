use Rattle.crn_sign.proofs.Prelude.{ℕ, List, [], refl, sym, ap, subst, ◌∙◌, Mat, Signed, Bits, AreRowMarks, kinds_of, HasRoom, IsFor}
use Rattle.crn_sign.proofs.walk.look.Goals as goal

pub look-requires : goal.look-requires
look-requires g c =
    let e = c.matrix_a.ensures in
    record {
      room = subst (λ (m : Mat). HasRoom m c.args.here.now.a) (sym e) c.requires.asked.a.room;
      above = subst (λ (m : Mat). AreRowMarks m c.args.above.now.a.marks.items) (sym e) c.requires.above.a;
    }

pub look-requires-2 : goal.look-requires-2
look-requires-2 g c =
    let e = c.matrix_b.ensures in
    record {
      room = subst (λ (m : Mat). HasRoom m c.args.here.now.b) (sym e) c.requires.asked.b.room;
      above = subst (λ (m : Mat). AreRowMarks m c.args.above.now.b.marks.items) (sym e) c.requires.above.b;
    }

pub returns : goal.returns
returns g c =
    let w : Signed = g.P.SignProblem.signed c.args.problem.now in
    let weak : List ℕ = g.P.SignProblem.weak c.args.problem.now in
    let a = subst (λ (v : List ℕ). IsFor w.matrix_a v c.args.above.now.a c.look.new.self) c.weak_a.ensures (subst (λ (m : Mat). IsFor m c.weak_a.result.now c.args.above.now.a c.look.new.self) c.matrix_a.ensures c.look.ensures.here) in
    let b = subst (λ (m : Mat). IsFor m [] c.args.above.now.b c.look-2.new.self) c.matrix_b.ensures c.look-2.ensures.here in
    record {
      asked = record {
        a = record { room = a.room; kinds_are = ap (λ (q : List Bits). kinds_of w.matrix_a weak q) c.look.ensures.asked ∙ c.requires.asked.a.kinds_are };
        b = record { room = b.room; kinds_are = ap (λ (q : List Bits). kinds_of w.matrix_b [] q) c.look-2.ensures.asked ∙ c.requires.asked.b.kinds_are };
      };
      here = record { a = a; b = b };
      sums = refl;
    }
