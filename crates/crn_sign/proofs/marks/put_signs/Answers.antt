use Rattle.crn_sign.proofs.Prelude.{◌≡◌, ℕ, ◌∙◌, inl, inr, sym, ap, arith, eq_or, mark_at, sign_mark, sign_there}
use Rattle.crn_sign.proofs.MarkLaws.{from_signs}
use Rattle.crn_sign.proofs.marks.put_signs.Goals as goal

pub loop-k-init : goal.loop-k-init
loop-k-init c = record { count = c.clear.ensures.count; done = λ j lt. absurd (omega (arith, lt)); rest = λ j le lt. c.clear.ensures.none j lt }

pub put_sign-requires-clause-inside : goal.put_sign-requires-clause-inside
put_sign-requires-clause-inside c = omega (arith, c.loop-k-test.true, c.requires.signs.long, c.requires.room, c.loop-k.invariant.count)

pub put_sign-requires-clause-none : goal.put_sign-requires-clause-none
put_sign-requires-clause-none c = c.loop-k.invariant.rest c.loop-k.k (omega arith) (omega (arith, c.loop-k-test.true, c.requires.signs.long, c.requires.room))

pub loop-k-preserved : goal.loop-k-preserved
loop-k-preserved c = record {
  count = c.put_sign.ensures.count ∙ c.loop-k.invariant.count;
  done = λ j lt. elim (eq_or j c.loop-k.k) as (λ _. mark_at c.put_sign.new.marks j ≡ sign_mark (sign_there c.args.signs.now j)) [
    | inl e ↦ ap (mark_at c.put_sign.new.marks) e ∙ c.put_sign.ensures.here ∙ ap (λ (i : ℕ). sign_mark (sign_there c.args.signs.now i)) (sym e)
    | inr ne ↦ c.put_sign.ensures.others j ne ∙ c.loop-k.invariant.done j (omega (arith, lt, ne))
  ];
  rest = λ j le lt. c.put_sign.ensures.others j (λ e. omega (arith, le, e)) ∙ c.loop-k.invariant.rest j (omega (arith, le)) lt;
}

pub returns : goal.returns
returns c = from_signs c.args._matrix.now c.args.signs.now c.loop-k.into c.requires.signs (c.loop-k.invariant.count ∙ c.requires.room) (λ j lt. c.loop-k.invariant.done j (omega (arith, lt, c.loop-k-test.false)))
