use Rattle.crn_tab.proofs.Prelude.{◌<◌, ap, ◌∙◌, sym, subst, arith, to_z, below_more, ℤ, pos, ◌≤ℤ◌, unsigned_abs, ◌∣◌, w64, dvd-zero, dvd_trans, one-dvd, entry, WIDE_ENTRY, Inverse}
use Rattle.crn_tab.proofs.Cross.{read}
use Rattle.crn_tab.proofs.SameRows.{everywhere}
use Rattle.crn_tab.proofs.wide.content.Goals as goal
use Rattle.crn_tab.proofs.wide.content.Goals.{then-not-is_multiple, else-not-is_multiple}

pub loop-x-init : goal.loop-x-init
loop-x-init c =
    let e = read c.args.known.now c.requires.known_small in
    record {
      greatest = λ d h. subst (λ (z : ℤ). d ∣ unsigned_abs z) (sym e) (c.requires.known d h);
      each = λ k lt. absurd (omega (arith, lt));
      some = subst (λ (z : ℤ). pos 1 ≤ℤ z) (sym e) c.requires.known_some;
      small = subst (λ (z : ℤ). unsigned_abs z < WIDE_ENTRY) (sym e) c.requires.known_small;
      shift = c.inverse_of-inverse.ensures;
    }

pub returns-then-g-eq1-clause-content : goal.returns-then-g-eq1-clause-content
returns-then-g-eq1-clause-content c = record {
  divides = λ k. one-dvd (unsigned_abs (entry c.args.work.now k));
  greatest = λ d h. subst (λ n. d ∣ n) (ap (λ b. unsigned_abs (to_z w64 b)) c.if-g-eq1.true) (c.loop-x.invariant.greatest d h);
}

pub loop-x-preserved : goal.loop-x-preserved
loop-x-preserved c = elim c.if-not-is_multiple.branch [
  | then-not-is_multiple w ↦
      let g = w.divisor_with-g.result in
      let e = w.g-is ∙ read g w.divisor_with-g.ensures.small in
      let d = w.divisor_with-g.ensures.gcd in
      record {
        greatest = λ n h. subst (λ (z : ℤ). n ∣ unsigned_abs z) (sym e) (d.2 n (h c.loop-x.x-index) (c.loop-x.invariant.greatest n h));
        each = λ k lt. subst (λ (z : ℤ). unsigned_abs z ∣ unsigned_abs (entry c.args.work.now k)) (sym e)
            (below_more (λ j. unsigned_abs g ∣ unsigned_abs (entry c.args.work.now j)) c.loop-x.x-index (λ j below. dvd_trans (unsigned_abs g) d.1 (c.loop-x.invariant.each j below)) d.0 k lt);
        some = subst (λ (z : ℤ). pos 1 ≤ℤ z) (sym e) w.divisor_with-g.ensures.some;
        small = subst (λ (z : ℤ). unsigned_abs z < WIDE_ENTRY) (sym e) w.divisor_with-g.ensures.small;
        shift = omega (arith, ap (λ (i : Inverse). i.shift) w.inverse-is, w.inverse_of-inverse-then-not-is_multiple.ensures);
      }
  | else-not-is_multiple w ↦
      let e = w.g-is in
      let g = to_z w64 c.loop-x.g-bits in
      record {
        greatest = λ n h. subst (λ (z : ℤ). n ∣ unsigned_abs z) (sym e) (c.loop-x.invariant.greatest n h);
        each = λ k lt. subst (λ (z : ℤ). unsigned_abs z ∣ unsigned_abs (entry c.args.work.now k)) (sym e)
            (below_more (λ j. unsigned_abs g ∣ unsigned_abs (entry c.args.work.now j)) c.loop-x.x-index c.loop-x.invariant.each (c.is_multiple.ensures w.if-not-is_multiple.false) k lt);
        some = subst (λ (z : ℤ). pos 1 ≤ℤ z) (sym e) c.loop-x.invariant.some;
        small = subst (λ (z : ℤ). unsigned_abs z < WIDE_ENTRY) (sym e) c.loop-x.invariant.small;
        shift = omega (arith, ap (λ (i : Inverse). i.shift) w.inverse-is, c.loop-x.invariant.shift);
      }
]

pub returns-clause-content : goal.returns-clause-content
returns-clause-content c =
    let g = to_z w64 c.loop-x.g-bits in
    record {
      divides = everywhere (λ x. unsigned_abs g ∣ unsigned_abs x) c.args.work.now (dvd-zero (unsigned_abs g)) (λ k lt. c.loop-x.invariant.each k (omega (arith, lt)));
      greatest = c.loop-x.invariant.greatest;
    }
