use Rattle.crn_tab.proofs.Prelude.{◌≡◌, ◌<◌, ◌^◌, inl, inr, length, sym, ap, ◌∙◌, arith, to_z, of_z, ℤ, ◌*ℤ◌, ◌-ℤ◌, unsigned_abs, w32, entry}
use Rattle.crn_tab.proofs.NewRows.{look}
use Rattle.crn_tab.proofs.ShortCross.{read_short}
use Rattle.crn_tab.proofs.short.put_quotients.Goals as goal

pub loop-j-preserved : goal.loop-j-preserved
loop-j-preserved c =
    let j = c.loop-j.j in
    let row = c.loop-j.row in
    let p = c.args.p.now in
    let q = c.args.q.now in
    let by = c.args.by.now in
    let z = to_z w32 (of_z w32 c.quotient-y.result) in
    let inside : j < length row = omega (arith, c.loop-j-test.true, c.loop-j.auto.row) in
    let left = c.loop-j.invariant.left in
    let cross : to_z w32 (of_z w32 c.short_cross-x.result) ≡ (p *ℤ entry c.args.row.now j) -ℤ (q *ℤ entry c.args.lead.now j) =
    read_short c.short_cross-x.result c.short_cross-x.ensures.small ∙ c.short_cross-x.ensures.value ∙ ap (λ (t : ℤ). (p *ℤ t) -ℤ (q *ℤ entry c.args.lead.now j)) (left j (omega arith)) in
    record {
      done = λ yes k lt.
          let all = c.both-all.ensures yes in
          let here = c.both.ensures all.1 in
          let short : unsigned_abs z < 2 ^ 14 = c.is_short_part.ensures here.0 in
          let value : z *ℤ by ≡ (p *ℤ entry c.args.row.now j) -ℤ (q *ℤ entry c.args.lead.now j) = c.is_quotient.ensures here.1 short ∙ cross in
          elim (look row j k z inside) [
            | inl r ↦ ap (λ (t : ℤ). t *ℤ by) r.1 ∙ value ∙ ap (λ i. (p *ℤ entry c.args.row.now i) -ℤ (q *ℤ entry c.args.lead.now i)) (sym r.0)
            | inr r ↦ ap (λ (t : ℤ). t *ℤ by) r.1 ∙ c.loop-j.invariant.done all.0 k (omega (arith, r.0, lt))
          ];
      short = λ yes k lt.
          let all = c.both-all.ensures yes in
          let here = c.both.ensures all.1 in
          let short : unsigned_abs z < 2 ^ 14 = c.is_short_part.ensures here.0 in
          elim (look row j k z inside) [
            | inl r ↦ omega (arith, ap unsigned_abs r.1, short)
            | inr r ↦ omega (arith, ap unsigned_abs r.1, c.loop-j.invariant.short all.0 k (omega (arith, r.0, lt)))
          ];
      left = λ k le. elim (look row j k z inside) [
        | inl r ↦ absurd (omega (arith, r.0, le))
        | inr r ↦ r.1 ∙ left k (omega (arith, le))
      ];
    }
