use Rattle.crn_tab.proofs.Prelude.{◌≡◌, ◌+◌, ap, ◌∙◌}
use Rattle.crn_tab.proofs.Whole.{whole}
use Rattle.crn_tab.proofs.tableau.Tableau.copy.Goals as goal

pub invariant_of-result : goal.invariant_of-result
invariant_of-result c =
    let was = c.self.inside in
    let ea : c.in_ok-copy.field-0 ≡ was.matrix = cc c.in_ok-copy.ensures in
    let et : c.in_ok-from_slice.field-0.items ≡ was.at.items = cc (c.in_ok-from_slice.ensures.items, c.deref.ensures.value) in
    let eo : c.in_ok-from_slice-2.field-0.items ≡ was.order.items = cc (c.in_ok-from_slice-2.ensures.items, c.deref-2.ensures.value) in
    whole was.matrix c.in_ok-copy.field-0 was.at.items c.in_ok-from_slice.field-0.items was.order.items c.in_ok-from_slice-2.field-0.items was.rows c.in_ok-copy-2.field-0 c.in_ok-new.field-0
    ea et eo c.in_ok-copy-2.ensures c.self.invariant.tableau (c.in_ok-new.ensures ∙ ap (λ n. n + 1) c.cols.ensures.count)
