use Rattle.crn_tab.proofs.Prelude.{◌≡◌, ◌<◌, inl, inr, length, sym, ap, ◌∙◌, arith, to_z, of_z, ℤ, ◌*ℤ◌, unsigned_abs, w64, WIDE_ENTRY, entry}
use Rattle.crn_tab.proofs.Cross.{read}
use Rattle.crn_tab.proofs.NewRows.{look}
use Rattle.crn_tab.proofs.low.restore.Goals as goal

pub product-requires-clause-x : goal.product-requires-clause-x
product-requires-clause-x c = omega (arith, ap unsigned_abs (c.loop-j.invariant.left c.loop-j.j (omega arith)), c.requires.row c.loop-j.j)

pub product-requires-clause-small : goal.product-requires-clause-small
product-requires-clause-small c =
    omega (arith, ap (λ (x : ℤ). unsigned_abs (x *ℤ c.args.by.now)) (c.loop-j.invariant.left c.loop-j.j (omega arith)), c.requires.small c.loop-j.j (omega arith))

pub loop-j-preserved : goal.loop-j-preserved
loop-j-preserved c =
    let j = c.loop-j.j in
    let row = c.loop-j.row in
    let by = c.args.by.now in
    let was : entry row j ≡ entry c.args.row.now j = c.loop-j.invariant.left j (omega arith) in
    let made : c.product.result ≡ entry c.args.row.now j *ℤ by = c.product.ensures ∙ ap (λ (x : ℤ). x *ℤ by) was in
    let small : unsigned_abs c.product.result < WIDE_ENTRY = omega (arith, ap unsigned_abs made, c.requires.small j (omega arith)) in
    let x = to_z w64 (of_z w64 c.product.result) in
    let is : x ≡ entry c.args.row.now j *ℤ by = read c.product.result small ∙ made in
    let inside : j < length row = omega (arith, c.loop-j-test.true, c.loop-j.auto.row, c.requires.inside) in
    record {
      done = λ k lt. elim (look row j k x inside) [
        | inl r ↦ r.1 ∙ is ∙ ap (λ i. entry c.args.row.now i *ℤ by) (sym r.0)
        | inr r ↦ r.1 ∙ c.loop-j.invariant.done k (omega (arith, r.0, lt))
      ];
      left = λ k le. elim (look row j k x inside) [
        | inl r ↦ absurd (omega (arith, r.0, le))
        | inr r ↦ r.1 ∙ c.loop-j.invariant.left k (omega (arith, le))
      ];
    }
