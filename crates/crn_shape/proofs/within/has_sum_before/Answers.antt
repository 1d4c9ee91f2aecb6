use Rattle.crn_shape.proofs.Prelude.{◌≡◌, inl, inr, sym, subst, ◌∙◌, arith, cases_lt, false≢true, or_parts, HasSum}
use Rattle.crn_shape.proofs.within.has_sum_before.Goals as goal

pub loop-q-preserved : goal.loop-q-preserved
loop-q-preserved c = λ none k lt has.
    let parts = or_parts c.loop-q.met c.has_sum.result (sym c.either-met.ensures ∙ none) in
    elim (cases_lt k c.loop-q.q) [
      | inl less ↦ c.loop-q.invariant parts.0 k less has
      | inr le ↦
          let e : k ≡ c.loop-q.q = omega (arith, lt, le) in
          absurd (false≢true (sym parts.1 ∙ c.has_sum.ensures.1 (subst (HasSum c.args.net.now c.args.sum) e has)))
    ]

pub returns : goal.returns
returns c = λ none q lt. c.loop-q.invariant none q (omega (arith, lt, c.loop-q-test.false))
