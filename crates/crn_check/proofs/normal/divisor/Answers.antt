use Rattle.crn_check.proofs.Prelude.{◌≡◌, inl, inr, length, sym, subst, ap, ◌∙◌, arith, below_more, pos, unsigned_abs, ◌∣◌, dvd-zero, dvd_trans, entry, all_at, held, lt_or, past_end, IsNarrow}
use Rattle.crn_check.proofs.normal.divisor.Goals as goal

pub loop-x-preserved : goal.loop-x-preserved
loop-x-preserved c =
    let x = entry c.args.numbers.now c.loop-x.x-index in
    let small : IsNarrow x = all_at IsNarrow c.args.numbers.now c.loop-x.x-index (pos 0) c.requires c.loop-x-test.true in
    let is : c.unsigned_abs.result ≡ unsigned_abs x = c.unsigned_abs.ensures.value ∙ ap unsigned_abs (held x (omega (arith, small))) in
    let g = c.gcd_of-g.result in
    record {
      divides = below_more _ _ (λ k lt. dvd_trans g c.gcd_of-g.ensures.gcd.1 (c.loop-x.invariant.divides k lt)) (subst (λ n. g ∣ n) is c.gcd_of-g.ensures.gcd.0);
      greatest = λ d h. c.gcd_of-g.ensures.gcd.2 d (subst (λ n. d ∣ n) (sym is) (h c.loop-x.x-index)) (c.loop-x.invariant.greatest d h);
    }

pub returns : goal.returns
returns c = record {
  divides = λ k. elim (lt_or k (length c.args.numbers.now)) [
    | inl lt ↦ c.loop-x.invariant.divides k (omega (arith, lt, c.loop-x-test.false))
    | inr past ↦ subst (λ n. c.loop-x.g ∣ unsigned_abs n) (sym (past_end c.args.numbers.now k past)) (dvd-zero c.loop-x.g)
  ];
  greatest = c.loop-x.invariant.greatest;
}
