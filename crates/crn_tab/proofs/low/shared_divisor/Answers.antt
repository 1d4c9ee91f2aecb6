use Rattle.crn_tab.proofs.Prelude.{◌<◌, ℕ, inl, inr, ap, sym, subst, arith, to_z, ℤ, pos, ◌≤ℤ◌, unsigned_abs, ◌∣◌, w64, dvd-zero, dvd_trans, le_of_dvd, ints, one-dvd, eq_or, entry, WIDE_ENTRY}
use Rattle.crn_tab.proofs.Cross.{read}
use Rattle.crn_tab.proofs.SameRows.{everywhere}
use Rattle.crn_tab.proofs.low.shared_divisor.Goals as goal

pub loop-x-init : goal.loop-x-init
loop-x-init c =
    let e = read c.args.known.now c.requires.known_small in
    record {
      greatest = λ d h. subst (λ (z : ℤ). d ∣ unsigned_abs z) (sym e) (c.requires.known d h);
      each = λ k lt. absurd (omega (arith, lt));
      less = omega (arith, ap unsigned_abs e);
      some = subst (λ (z : ℤ). pos 1 ≤ℤ z) (sym e) c.requires.some;
      small = subst (λ (z : ℤ). unsigned_abs z < WIDE_ENTRY) (sym e) c.requires.known_small;
    }

pub returns-then-g-eq1-clause-content : goal.returns-then-g-eq1-clause-content
returns-then-g-eq1-clause-content c = record {
  divides = λ k. one-dvd (unsigned_abs (entry c.args.row.now k));
  greatest = λ d h. subst (λ n. d ∣ n) (ap (λ b. unsigned_abs (to_z w64 b)) c.if-g-eq1.true) (c.loop-x.invariant.greatest d h);
}

pub divisor_with-g-requires-clause-low : goal.divisor_with-g-requires-clause-low
divisor_with-g-requires-clause-low c = λ yes.
    let h = c.requires.low yes in (
      h.0 c.loop-x.x-index,
      omega (arith, c.loop-x.invariant.less, h.1),
    )

pub loop-x-preserved : goal.loop-x-preserved
loop-x-preserved c =
    let e = read c.divisor_with-g.result c.divisor_with-g.ensures.small in
    record {
      greatest = λ d h. subst (λ (z : ℤ). d ∣ unsigned_abs z) (sym e) (c.divisor_with-g.ensures.greatest d (h c.loop-x.x-index) (c.loop-x.invariant.greatest d h));
      each = λ k lt. subst (λ (z : ℤ). unsigned_abs z ∣ unsigned_abs (entry c.args.row.now k)) (sym e) (elim (eq_or k c.loop-x.x-index) as (λ _. unsigned_abs c.divisor_with-g.result ∣ unsigned_abs (entry c.args.row.now k)) [
        | inl same ↦ subst (λ (j : ℕ). unsigned_abs c.divisor_with-g.result ∣ unsigned_abs (entry c.args.row.now j)) (sym same) c.divisor_with-g.ensures.divides
        | inr other ↦ dvd_trans (unsigned_abs c.divisor_with-g.result) c.divisor_with-g.ensures.less (c.loop-x.invariant.each k (omega (arith, lt, other)))
      ]);
      less = omega (arith, ap unsigned_abs e, c.loop-x.invariant.less, le_of_dvd (let z : 0 < unsigned_abs (to_z w64 c.loop-x.g-bits) = omega (arith, ints, c.loop-x.invariant.some) in z) c.divisor_with-g.ensures.less);
      some = subst (λ (z : ℤ). pos 1 ≤ℤ z) (sym e) c.divisor_with-g.ensures.some;
      small = subst (λ (z : ℤ). unsigned_abs z < WIDE_ENTRY) (sym e) c.divisor_with-g.ensures.small;
    }

pub returns-clause-content : goal.returns-clause-content
returns-clause-content c =
    let g = to_z w64 c.loop-x.g-bits in
    record {
      divides = everywhere (λ x. unsigned_abs g ∣ unsigned_abs x) c.args.row.now (dvd-zero (unsigned_abs g)) (λ k lt. c.loop-x.invariant.each k (omega (arith, lt)));
      greatest = c.loop-x.invariant.greatest;
    }
