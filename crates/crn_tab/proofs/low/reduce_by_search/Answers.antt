use Rattle.crn_tab.proofs.Prelude.{◌≡◌, ℕ, ap, ◌∙◌, sym, subst, arith, to_z, ℤ, pos, ◌*ℤ◌, unsigned_abs, w64, ints, IsContent, entry}
use Rattle.crn_tab.proofs.Cross.{read}
use Rattle.crn_tab.proofs.low.reduce_by_search.Goals as goal

times_one : (x : ℤ) → x *ℤ pos 1 ≡ x
times_one x = omega (arith, ints)

pub divide_exactly-requires-clause-low : goal.divide_exactly-requires-clause-low
divide_exactly-requires-clause-low c = λ yes.
    let h = c.requires.low yes in
    let g = c.shared_divisor-g.result in (
      h.0,
      omega (arith, ap unsigned_abs (read g c.shared_divisor-g.ensures.small), c.shared_divisor-g.ensures.less, h.1),
    )

pub divide_exactly-requires-clause-divides : goal.divide_exactly-requires-clause-divides
divide_exactly-requires-clause-divides c = rw (read c.shared_divisor-g.result c.shared_divisor-g.ensures.small) c.shared_divisor-g.ensures.content.divides

pub returns-then-g-eq1-clause-primitive : goal.returns-then-g-eq1-clause-primitive
returns-then-g-eq1-clause-primitive c =
    let row = c.args.row.now in
    let g = c.shared_divisor-g.result in
    let is : unsigned_abs g ≡ 1 = ap unsigned_abs (sym (read g c.shared_divisor-g.ensures.small) ∙ ap (to_z w64) c.if-g-eq1.true) in
    record {
      t = pos 1;
      some = omega (arith, ints);
      content = subst (λ (n : ℕ). IsContent row n) is c.shared_divisor-g.ensures.content;
      parts = λ k lt. times_one (entry row k);
    }

pub returns-clause-primitive : goal.returns-clause-primitive
returns-clause-primitive c =
    let g = c.shared_divisor-g.result in
    record {
      t = g;
      some = c.shared_divisor-g.ensures.some;
      content = c.shared_divisor-g.ensures.content;
      parts = rw (read g c.shared_divisor-g.ensures.small) at c.divide_exactly.ensures.whole;
    }
