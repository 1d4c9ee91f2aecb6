use Rattle.crn_tab.proofs.Prelude.{◌≡◌, ◌<◌, ◌≤◌, inl, inr, ℕ, List, length, sym, ap, ◌∙◌, arith, rules, to_z, of_z, ℤ, ◌*ℤ◌, ◌-ℤ◌, unsigned_abs, w64, w128, WIDE_ENTRY, entry}
use Rattle.crn_tab.proofs.Cross.{narrowed}
use Rattle.crn_tab.proofs.Differences.{differences, length-differences, entry-differences}
use Rattle.crn_tab.proofs.NewRows.{look}
use Rattle.crn_tab.proofs.SameRows.{same_rows, small_everywhere}
use Rattle.crn_tab.proofs.combine.subtract.Goals as goal

pub loop-j-preserved : goal.loop-j-preserved
loop-j-preserved c =
    let j = c.loop-j.j in
    let row = c.loop-j.row in
    let x = to_z w64 (of_z w64 (to_z w128 (of_z w128 c.cross-x.result))) in
    let small : unsigned_abs c.cross-x.result < WIDE_ENTRY = search rules in
    let inside : j < length row = omega (arith, c.loop-j-test.true, c.loop-j.auto.row) in
    let value : x ≡ (c.args.p.now *ℤ entry c.args.row.now j) -ℤ (c.args.q.now *ℤ entry c.args.lead.now j) =
    narrowed c.cross-x.result small ∙ c.cross-x.ensures.value ∙ ap (λ (y : ℤ). (c.args.p.now *ℤ y) -ℤ (c.args.q.now *ℤ entry c.args.lead.now j)) (c.loop-j.invariant.left j (omega arith)) in
    record {
      so_far = λ k lt. elim (look row j k x inside) [
        | inl r ↦ r.1 ∙ value ∙ ap (λ i. (c.args.p.now *ℤ entry c.args.row.now i) -ℤ (c.args.q.now *ℤ entry c.args.lead.now i)) (sym r.0)
        | inr r ↦ r.1 ∙ c.loop-j.invariant.so_far k (omega (arith, r.0, lt))
      ];
      small = λ k lt. elim (look row j k x inside) [
        | inl r ↦ omega (arith, small, ap unsigned_abs (r.1 ∙ narrowed c.cross-x.result small))
        | inr r ↦ omega (arith, c.loop-j.invariant.small k (omega (arith, r.0, lt)), ap unsigned_abs r.1)
      ];
      left = λ k le. elim (look row j k x inside) [
        | inl r ↦ absurd (omega (arith, r.0, le))
        | inr r ↦ r.1 ∙ c.loop-j.invariant.left k (omega (arith, le))
      ];
    }

pub returns-then-not-is_small : goal.returns-then-not-is_small
returns-then-not-is_small c =
    let p = c.args.p.now in
    let q = c.args.q.now in
    let row = c.args.row.now in
    let lead = c.args.lead.now in
    let j = c.loop-j.j in
    let wide : WIDE_ENTRY ≤ unsigned_abs c.cross-x.result = search rules in
    let value : c.cross-x.result ≡ entry (differences p q row lead) j =
    c.cross-x.ensures.value ∙ ap (λ (y : ℤ). (p *ℤ y) -ℤ (q *ℤ entry lead j)) (c.loop-j.invariant.left j (omega arith)) ∙ sym (entry-differences p q row lead j c.requires.lead_count) in (
      differences p q row lead,
      length-differences p q row lead c.requires.lead_count,
      λ k lt. entry-differences p q row lead k c.requires.lead_count,
      (j, omega (arith, wide, ap unsigned_abs value)),
    )

pub returns : goal.returns
returns c =
    let p = c.args.p.now in
    let q = c.args.q.now in
    let row = c.args.row.now in
    let lead = c.args.lead.now in
    let z = differences p q row lead in
    let long : length z ≡ length row = length-differences p q row lead c.requires.lead_count in
    let count : length c.loop-j.row ≡ length row = omega (arith, c.loop-j.auto.row) in
    let value : (k : ℕ) → k < length row → entry z k ≡ (p *ℤ entry row k) -ℤ (q *ℤ entry lead k) = λ k lt. entry-differences p q row lead k c.requires.lead_count in
    let same : c.loop-j.row ≡ z = same_rows c.loop-j.row z (omega (arith, count, long))
    (λ k lt. c.loop-j.invariant.so_far k (omega (arith, lt, count)) ∙ sym (value k (omega (arith, lt, count)))) in (
      z,
      long,
      value,
      (
        same,
        small_everywhere z (λ k lt. omega (arith, c.loop-j.invariant.small k (omega (arith, lt, long, count)), ap (λ (v : List ℤ). unsigned_abs (entry v k)) same)),
      ),
    )
