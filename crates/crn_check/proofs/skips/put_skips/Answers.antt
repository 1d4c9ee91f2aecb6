use Rattle.crn_check.proofs.Prelude.{◌≡◌, ◌<◌, ◌∙◌, ℕ, List, inl, inr, [], length, get_or, sym, subst, arith, ℤ, get_or-set_at, get_or-set_other, length-set, lt_or, vector_of, AreSkips}
use Rattle.crn_check.proofs.skips.put_skips.Goals as goal

pub loop-j-preserved : goal.loop-j-preserved
loop-j-preserved c =
    let net = c.args.net.now in
    let base = c.args.base.now in
    let all = c.loop-j.all in
    let j = c.loop-j.j in
    let here : AreSkips (vector_of net (get_or base j 0)) c.skips_of.result = subst (λ (v : List ℤ). AreSkips v c.skips_of.result) c.vector_of.ensures.value c.skips_of.ensures in
    let inside : j < length all = omega (arith, c.loop-j.invariant.long, c.loop-j-test.true) in
    record {
      long = length-set all j c.skips_of.result ∙ c.loop-j.invariant.long;
      each = λ i lt. elim (lt_or i j) [
        | inl less ↦ subst (AreSkips (vector_of net (get_or base i 0))) (sym (get_or-set_other all j i c.skips_of.result [] (λ e. absurd (omega (arith, e, less))))) (c.loop-j.invariant.each i less)
        | inr le ↦
            let e : i ≡ j = omega (arith, lt, le) in
            subst (AreSkips (vector_of net (get_or base i 0))) (sym (get_or-set_at all j i c.skips_of.result [] e inside))
            (subst (λ (k : ℕ). AreSkips (vector_of net (get_or base k 0)) c.skips_of.result) (sym e) here)
      ];
    }

pub returns : goal.returns
returns c j lt room = c.loop-j.invariant.each j (omega (arith, lt, room, c.loop-j.invariant.long, c.loop-j-test.false))
