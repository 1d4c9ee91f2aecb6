use Rattle.crn_tab.proofs.Prelude.{◌<◌, sym, ap, subst, arith, to_z, ℤ, pos, ◌≤ℤ◌, unsigned_abs, ◌∣◌, w64, ints, le_of_dvd, WIDE_ENTRY}
use Rattle.crn_tab.proofs.Cross.{read}
use Rattle.crn_tab.proofs.low.first_divisor.Goals as goal

pub loop-j-init : goal.loop-j-init
loop-j-init c =
    let e = read c.args.known.now c.requires.known_small in
    record {
      greatest = λ d h. subst (λ (z : ℤ). d ∣ unsigned_abs z) (sym e) (c.requires.known d h);
      less = omega (arith, ap unsigned_abs e);
      some = subst (λ (z : ℤ). pos 1 ≤ℤ z) (sym e) c.requires.some;
      small = subst (λ (z : ℤ). unsigned_abs z < WIDE_ENTRY) (sym e) c.requires.known_small;
    }

pub returns-then-g-eq1-clause-greatest : goal.returns-then-g-eq1-clause-greatest
returns-then-g-eq1-clause-greatest c = λ d h.
    subst (λ n. d ∣ n) (ap (λ b. unsigned_abs (to_z w64 b)) c.if-g-eq1.true) (c.loop-j.invariant.greatest d h)

pub divisor_with-g-requires-clause-low : goal.divisor_with-g-requires-clause-low
divisor_with-g-requires-clause-low c = λ yes.
    let h = c.requires.low yes in (
      h.0 c.loop-j.j,
      omega (arith, c.loop-j.invariant.less, h.1),
    )

pub loop-j-preserved : goal.loop-j-preserved
loop-j-preserved c =
    let e = read c.divisor_with-g.result c.divisor_with-g.ensures.small in
    record {
      greatest = λ d h. subst (λ (z : ℤ). d ∣ unsigned_abs z) (sym e) (c.divisor_with-g.ensures.greatest d (h c.loop-j.j) (c.loop-j.invariant.greatest d h));
      less = omega (arith, ap unsigned_abs e, c.loop-j.invariant.less, le_of_dvd (let z : 0 < unsigned_abs (to_z w64 c.loop-j.g-bits) = omega (arith, ints, c.loop-j.invariant.some) in z) c.divisor_with-g.ensures.less);
      some = subst (λ (z : ℤ). pos 1 ≤ℤ z) (sym e) c.divisor_with-g.ensures.some;
      small = subst (λ (z : ℤ). unsigned_abs z < WIDE_ENTRY) (sym e) c.divisor_with-g.ensures.small;
    }
