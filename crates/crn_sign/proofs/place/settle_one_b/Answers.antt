use Rattle.crn_sign.proofs.Prelude.{refl, sym, ◌∙◌, arith}
use Rattle.crn_sign.proofs.PlaceLaws.{put_here, put_other}
use Rattle.crn_sign.proofs.place.settle_one_b.Goals as goal

pub put-requires : goal.put-requires
put-requires g c = omega (arith, c.if-k-place.false, c.requires.room.width_is, c.requires.room.asked)

pub returns-then-k-place : goal.returns-then-k-place
returns-then-k-place g c = record {
  width_is = refl;
  count = refl;
  marks = refl;
  here = λ lt. absurd (omega (arith, lt, c.if-k-place.true, c.requires.room.width_is));
  others = λ j ne. refl;
}

pub returns : goal.returns
returns g c =
    let old = c.args.place.now.asked.items in
    let new = c.put.new.self.asked.items in
    let is = c.put.ensures.asked in
    record {
      width_is = c.put.ensures.width;
      count = is.count;
      marks = c.put.ensures.marks;
      here = λ lt. put_here old c.args.k c.asked_b-asked.result new is ∙ sym c.asked_b-asked.ensures;
      others = put_other old c.args.k c.asked_b-asked.result new is;
    }
