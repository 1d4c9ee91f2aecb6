use Rattle.crn_tab.proofs.Prelude.{◌^◌, List, subst, arith, ℤ, AreBelow}
use Rattle.crn_tab.proofs.rows.Rows.new.Goals as goal

pub invariant_of-result : goal.invariant_of-result
invariant_of-result c = record {
  low_is = λ yes. subst (λ (v : List ℤ). AreBelow (2 ^ 30) v) c.deref.ensures.value (c.all_low-low.ensures yes);
  short_is = λ yes. subst (λ (v : List ℤ). AreBelow (2 ^ 14) v) c.deref-2.ensures.value (c.all_short-short.ensures yes);
  spare_fits = omega (arith, c.in_ok-spare.ensures.exact, c.len.ensures);
}
