use Rattle.crn_tab.proofs.Prelude.{◌≡◌, ◌^◌, List, length, ap, sym, subst, arith, ℤ, AreBelow}
use Rattle.crn_tab.proofs.rows.Rows.copy.Goals as goal

pub invariant_of-result : goal.invariant_of-result
invariant_of-result c =
    let e : c.in_ok-from_slice.field-0.items ≡ c.self.inside.entries.items = cc (c.in_ok-from_slice.ensures.items, c.deref.ensures.value) in
    record {
      low_is = λ yes. subst (λ (v : List ℤ). AreBelow (2 ^ 30) v) (sym e) (c.self.invariant.low_is yes);
      short_is = λ yes. subst (λ (v : List ℤ). AreBelow (2 ^ 14) v) (sym e) (c.self.invariant.short_is yes);
      spare_fits = omega (arith, ap length e, c.in_ok-with_capacity.ensures.exact, c.len.ensures);
    }
