use Rattle.crn_sign.proofs.Prelude.{List, length, sym, ap, ◌∙◌, Signed, Bits}
use Rattle.crn_sign.proofs.PlaceLaws.{around_above}
use Rattle.crn_sign.proofs.walk.surround.Goals as goal

pub ask_as-requires : goal.ask_as-requires
ask_as-requires g c = c.requires.room.b.asked ∙ sym c.requires.above.b.place.asked

pub returns : goal.returns
returns g c =
    let w : Signed = g.P.SignProblem.signed c.args._problem.now in
    let h = c.requires.above in
    let r = c.requires.room in
    let y = c.ask_as.ensures in
    record {
      a = r.a;
      b = around_above w.matrix_b w.kinds_b c.args._prefix.now c.args.above.now.b c.ask_as.new.self h.b.kinds_are
          (record { width_is = y.width ∙ r.b.width_is; asked = ap (λ (l : List Bits). length l) y.asked ∙ h.b.place.asked; marks = ap (λ (l : List Bits). length l) y.marks ∙ r.b.marks }) y.asked;
      sums = r.sums;
    }
