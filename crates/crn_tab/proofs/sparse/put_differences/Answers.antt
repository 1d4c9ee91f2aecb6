use Rattle.crn_tab.proofs.Prelude.{◌≡◌, ◌<◌, ◌⊎◌, inl, inr, length, List, sym, ap, subst, ◌∙◌, arith, to_z, of_z, ℤ, ◌*ℤ◌, ◌-ℤ◌, slice_index, slice_index_or, slice_set, unsigned_abs, w64, length-set, eq_or, entry, AreSmall}
use Rattle.crn_tab.proofs.NewRows.{look}
use Rattle.crn_tab.proofs.SparseRow.{listed_place, listed_inside, lessened, all_done}
use Rattle.crn_tab.proofs.sparse.put_differences.Goals as goal

pub offset_bounds-row-k : goal.offset_bounds-row-k
offset_bounds-row-k c =
    let lt = listed_inside c.args.lead.now c.args.places.now c.loop-s.s c.requires.places c.loop-s-test.true in
    omega (arith, lt, c.requires.lead_count, c.requires.few)

pub bounds-row-k : goal.bounds-row-k
bounds-row-k c =
    let lt = listed_inside c.args.lead.now c.args.places.now c.loop-s.s c.requires.places c.loop-s-test.true in
    omega (arith, lt, c.requires.lead_count)

pub offset_bounds-lead-k : goal.offset_bounds-lead-k
offset_bounds-lead-k c =
    let lt = listed_inside c.args.lead.now c.args.places.now c.loop-s.s c.requires.places c.loop-s-test.true in
    omega (arith, lt, c.requires.lead_count, c.requires.few)

pub bounds-lead-k : goal.bounds-lead-k
bounds-lead-k c = listed_inside c.args.lead.now c.args.places.now c.loop-s.s c.requires.places c.loop-s-test.true

pub offset_bounds-into-k : goal.offset_bounds-into-k
offset_bounds-into-k c =
    let lt = listed_inside c.args.lead.now c.args.places.now c.loop-s.s c.requires.places c.loop-s-test.true in
    omega (arith, lt, c.requires.lead_count, c.requires.few)

pub bounds-into-k : goal.bounds-into-k
bounds-into-k c =
    let lt = listed_inside c.args.lead.now c.args.places.now c.loop-s.s c.requires.places c.loop-s-test.true in
    omega (arith, lt, c.requires.lead_count, c.loop-s.invariant.long)

pub loop-s-init : goal.loop-s-init
loop-s-init c = record {
  each = λ k. inl (ap (λ (l : List ℤ). entry l k) c.requires.into);
  done = λ i lt. absurd (omega (arith, lt));
  small = subst (λ (l : List ℤ). AreSmall l) (sym c.requires.into) c.requires.row;
  long = ap length c.requires.into;
}

pub loop-s-preserved : goal.loop-s-preserved
loop-s-preserved c =
    let row = c.args.row.now in
    let lead = c.args.lead.now in
    let places = c.args.places.now in
    let q = c.args.q.now in
    let s = c.loop-s.s in
    let into = c.loop-s.into in
    let k = slice_index_or places s 0 in
    let x = to_z w64 (of_z w64 c.less-x.result) in
    let at : slice_index places s ≡ k = listed_place places s c.loop-s-test.true in
    let lt : k < length lead = listed_inside lead places s c.requires.places c.loop-s-test.true in
    let inside : k < length into = omega (arith, lt, c.requires.lead_count, c.loop-s.invariant.long) in
    let f = lessened (entry row k) q (entry lead k) (c.requires.row k) c.requires.q (c.requires.lead k) in
    let is : x ≡ entry row k -ℤ (q *ℤ entry lead k) = ap (λ (z : ℤ). to_z w64 (of_z w64 z)) c.less-x.ensures ∙ f.whole in
    record {
      each = λ j. elim (look into k j x inside) as (λ _. (entry (slice_set into k x) j ≡ entry row j) ⊎ (entry (slice_set into k x) j ≡ entry row j -ℤ (q *ℤ entry lead j))) [
        | inl r ↦ inr (r.1 ∙ is ∙ ap (λ i. entry row i -ℤ (q *ℤ entry lead i)) (sym r.0))
        | inr r ↦ elim (c.loop-s.invariant.each j) as (λ _. (entry (slice_set into k x) j ≡ entry row j) ⊎ (entry (slice_set into k x) j ≡ entry row j -ℤ (q *ℤ entry lead j))) [
          | inl a ↦ inl (r.1 ∙ a)
          | inr b ↦ inr (r.1 ∙ b)
        ]
      ];
      done = λ i i_lt. elim (look into k (slice_index places i) x inside) as (λ _. entry (slice_set into k x) (slice_index places i) ≡ entry row (slice_index places i) -ℤ (q *ℤ entry lead (slice_index places i))) [
        | inl r ↦ r.1 ∙ is ∙ ap (λ j. entry row j -ℤ (q *ℤ entry lead j)) (sym r.0)
        | inr r ↦ elim (eq_or i s) as (λ _. entry (slice_set into k x) (slice_index places i) ≡ entry row (slice_index places i) -ℤ (q *ℤ entry lead (slice_index places i))) [
          | inl e ↦ absurd (r.0 (ap (λ j. slice_index places j) e ∙ at))
          | inr ne ↦ r.1 ∙ c.loop-s.invariant.done i (omega (arith, i_lt, ne))
        ]
      ];
      small = λ j. elim (look into k j x inside) [
        | inl r ↦ omega (arith, ap unsigned_abs r.1, c.if-not-is_entry.ensures)
        | inr r ↦ omega (arith, ap unsigned_abs r.1, c.loop-s.invariant.small j)
      ];
      long = length-set into k x ∙ c.loop-s.invariant.long;
    }

pub returns-clause-value : goal.returns-clause-value
returns-clause-value c = λ _.
    all_done c.args.row.now c.args.lead.now c.loop-s.into c.args.places.now c.args.q.now c.requires.lead_count c.requires.places c.loop-s.invariant.each
    (λ i lt. c.loop-s.invariant.done i (omega arith))
