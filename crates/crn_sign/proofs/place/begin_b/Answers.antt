use Rattle.crn_sign.proofs.Prelude.{◌<◌, List, [], length, ap, subst, ◌∙◌, arith, Mat, Signed, width, Bits, AreRowMarks}
use Rattle.crn_sign.proofs.PlaceLaws.{begun_room, begun_step, kinds_are}
use Rattle.crn_sign.proofs.place.begin_b.Goals as goal

pub loop-k-init : goal.loop-k-init
loop-k-init g c =
    let w : Signed = g.P.SignProblem.signed c.args.problem.now in
    record {
      here = record {
        width_is = c.forget.ensures.width ∙ c.requires.room.width_is;
        asked = ap (λ (q : List Bits). length q) c.forget.ensures.asked ∙ c.requires.room.asked;
        marks = subst (λ (a : Mat). AreRowMarks a c.forget.new.self.marks.items) c.matrix_b.ensures c.forget.ensures.marks;
        done = λ j lt. absurd (omega (arith, lt));
      };
    }

pub settle_one_b-requires : goal.settle_one_b-requires
settle_one_b-requires g c =
    let w : Signed = g.P.SignProblem.signed c.args.problem.now in
    record { prefix = omega arith; room = begun_room w.matrix_b (w.kinds_b []) _ _ c.loop-k.invariant.here }

pub loop-k-preserved : goal.loop-k-preserved
loop-k-preserved g c =
    let w : Signed = g.P.SignProblem.signed c.args.problem.now in
    let lt : c.loop-k.k < width w.matrix_b = omega (arith, c.loop-k-test.true, c.loop-k.invariant.here.width_is) in
    record { here = begun_step w.matrix_b (w.kinds_b []) c.loop-k.k c.loop-k.here _ lt c.settle_one_b.ensures c.loop-k.invariant.here }

pub returns : goal.returns
returns g c =
    let w : Signed = g.P.SignProblem.signed c.args.problem.now in
    let h = c.loop-k.invariant.here in
    record {
      place = record { width_is = h.width_is; asked = h.asked; marks = h.marks; suits = λ t. absurd (cc) };
      kinds_are = kinds_are w.matrix_b (w.kinds_b []) c.loop-k.here.asked.items (c.requires.lawful.long_b [] (omega arith)) (λ k lt. h.done k (omega (arith, lt, h.width_is, c.loop-k-test.false)));
    }
