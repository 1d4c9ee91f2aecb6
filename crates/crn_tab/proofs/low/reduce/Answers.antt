use Rattle.crn_tab.proofs.Prelude.{◌≡◌, ◌^◌, ℕ, List, ap, ◌∙◌, sym, subst, arith, to_z, ℤ, pos, ◌*ℤ◌, unsigned_abs, w64, ◌∣◌, ints, dvd-zero, one-dvd, AreBelow, IsPrimitivePart, entry}
use Rattle.crn_tab.proofs.Cross.{read}
use Rattle.crn_tab.proofs.SameRows.{everywhere}
use Rattle.crn_tab.proofs.WideProducts.{times_divides}
use Rattle.crn_tab.proofs.low.reduce.Goals as goal

times_one : (x : ℤ) → x *ℤ pos 1 ≡ x
times_one x = omega (arith, ints)

pub returns-then-g-eq1-clause-primitive : goal.returns-then-g-eq1-clause-primitive
returns-then-g-eq1-clause-primitive c =
    let row = c.args.row.now in
    let g = c.first_divisor-g in
    let is : unsigned_abs g.result ≡ 1 = ap unsigned_abs (sym (read g.result g.ensures.small) ∙ ap (to_z w64) c.if-g-eq1.true) in
    record {
      t = pos 1;
      some = omega (arith, ints);
      content = record {
        divides = λ k. one-dvd (unsigned_abs (entry row k));
        greatest = λ d h. subst (λ (n : ℕ). d ∣ n) is (g.ensures.greatest d h);
      };
      parts = λ k lt. times_one (entry row k);
    }

pub returns-then-try_divide-clause-primitive : goal.returns-then-try_divide-clause-primitive
returns-then-try_divide-clause-primitive c =
    let row = c.args.row.now in
    let g = c.first_divisor-g in
    let t = g.result in
    let whole = rw (read t g.ensures.small) at (c.try_divide.ensures.whole c.if-try_divide.true) in
    record {
      t = t;
      some = g.ensures.some;
      content = record {
        divides = everywhere (λ x. unsigned_abs t ∣ unsigned_abs x) row (dvd-zero (unsigned_abs t)) (λ k lt. times_divides (entry c.try_divide.new.row k) t (entry row k) (whole k lt));
        greatest = g.ensures.greatest;
      };
      parts = whole;
    }

pub reduce_by_search-requires-clause-low : goal.reduce_by_search-requires-clause-low
reduce_by_search-requires-clause-low c = λ yes.
    let h = c.requires.low yes in (
      subst (λ (v : List ℤ). AreBelow (2 ^ 30) v) (sym (c.try_divide.ensures.same c.if-try_divide.false)) h.0,
      omega (arith, ap unsigned_abs (read c.first_divisor-g.result c.first_divisor-g.ensures.small), c.first_divisor-g.ensures.less, h.1),
    )

pub reduce_by_search-requires-clause-known : goal.reduce_by_search-requires-clause-known
reduce_by_search-requires-clause-known c = rw (read c.first_divisor-g.result c.first_divisor-g.ensures.small) (λ d h.
    c.first_divisor-g.ensures.greatest d (subst (λ (v : List ℤ). (k : ℕ) → d ∣ unsigned_abs (entry v k)) (c.try_divide.ensures.same c.if-try_divide.false) h))

pub returns-clause-primitive : goal.returns-clause-primitive
returns-clause-primitive c = subst (λ (v : List ℤ). IsPrimitivePart v c.reduce_by_search.new.row) (c.try_divide.ensures.same c.if-try_divide.false) c.reduce_by_search.ensures.primitive
