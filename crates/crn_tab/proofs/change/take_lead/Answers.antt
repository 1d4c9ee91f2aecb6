use Rattle.crn_tab.proofs.Prelude.{◌≡◌, ◌<◌, ◌⊎◌, ℕ, inl, inr, length, List, refl, sym, ap, ◌∙◌, arith, to_z, of_z, ℤ, pos, ◌*ℤ◌, ◌-ℤ◌, slice_index, slice_index_or, slice_set, unsigned_abs, w64, length-set, ints, eq_or, entry, ArePlaces}
use Rattle.crn_tab.proofs.Cross.{read}
use Rattle.crn_tab.proofs.NewRows.{look}
use Rattle.crn_tab.proofs.SparseRow.{listed_place, listed_inside, all_done}
use Rattle.crn_tab.proofs.change.take_lead.Goals as goal

pub offset_bounds-row-k : goal.offset_bounds-row-k
offset_bounds-row-k c =
    let lt = listed_inside c.args.lead.now c.args.places.now c.loop-s.s c.requires.places c.loop-s-test.true in
    omega (arith, lt, c.requires.lead_count, c.requires.few, c.loop-s.invariant.long)

pub bounds-row-k : goal.bounds-row-k
bounds-row-k c =
    let lt = listed_inside c.args.lead.now c.args.places.now c.loop-s.s c.requires.places c.loop-s-test.true in
    omega (arith, lt, c.requires.lead_count, c.loop-s.invariant.long)

pub offset_bounds-lead-k : goal.offset_bounds-lead-k
offset_bounds-lead-k c =
    let lt = listed_inside c.args.lead.now c.args.places.now c.loop-s.s c.requires.places c.loop-s-test.true in
    omega (arith, lt, c.requires.lead_count, c.requires.few)

pub bounds-lead-k : goal.bounds-lead-k
bounds-lead-k c = listed_inside c.args.lead.now c.args.places.now c.loop-s.s c.requires.places c.loop-s-test.true

pub offset_bounds-row-k-in-loop-s : goal.offset_bounds-row-k-in-loop-s
offset_bounds-row-k-in-loop-s c =
    let lt = listed_inside c.args.lead.now c.args.places.now c.loop-s.s c.requires.places c.loop-s-test.true in
    omega (arith, lt, c.requires.lead_count, c.requires.few, c.loop-s.invariant.long)

pub bounds-row-k-in-loop-s : goal.bounds-row-k-in-loop-s
bounds-row-k-in-loop-s c =
    let lt = listed_inside c.args.lead.now c.args.places.now c.loop-s.s c.requires.places c.loop-s-test.true in
    omega (arith, lt, c.requires.lead_count, c.loop-s.invariant.long)

-- a place that the loop comes to was not there before
fresh : (lead : List ℤ) (places : List ℕ) (s : ℕ) → ArePlaces lead places → s < length places → (i : ℕ) → i < s → slice_index places i ≡ slice_index_or places s 0 → ⊥
fresh lead places s h lt i i_lt e = omega (arith, h.ascending i s i_lt lt, listed_place places s lt, e)

once : (x y : ℤ) → (pos 1 *ℤ x) -ℤ y ≡ x -ℤ y
once x y = omega (arith, ints)

pub low_cross-x-requires-clause-x : goal.low_cross-x-requires-clause-x
low_cross-x-requires-clause-x c =
    let k = slice_index_or c.args.places.now c.loop-s.s 0 in
    let was = c.loop-s.invariant.left k (fresh c.args.lead.now c.args.places.now c.loop-s.s c.requires.places c.loop-s-test.true) in
    omega (arith, ap unsigned_abs was, c.requires.bound, c.requires.row k)

pub loop-s-init : goal.loop-s-init
loop-s-init c = record {
  each = λ k. inl refl;
  done = λ i lt. absurd (omega (arith, lt));
  left = λ k h. refl;
  small = λ k. omega (arith, c.requires.bound, c.requires.row k);
  below = λ yes. c.requires.row;
  long = refl;
}

pub loop-s-preserved : goal.loop-s-preserved
loop-s-preserved c =
    let was = c.args.row.now in
    let lead = c.args.lead.now in
    let places = c.args.places.now in
    let q = c.args.q.now in
    let s = c.loop-s.s in
    let row = c.loop-s.row in
    let k = slice_index_or places s 0 in
    let x = to_z w64 (of_z w64 c.low_cross-x.result) in
    let at : slice_index places s ≡ k = listed_place places s c.loop-s-test.true in
    let lt : k < length lead = listed_inside lead places s c.requires.places c.loop-s-test.true in
    let inside : k < length row = omega (arith, lt, c.requires.lead_count, c.loop-s.invariant.long) in
    let same : entry row k ≡ entry was k = c.loop-s.invariant.left k (fresh lead places s c.requires.places c.loop-s-test.true) in
    let read_x : x ≡ c.low_cross-x.result = read c.low_cross-x.result c.low_cross-x.ensures.small in
    let is : x ≡ entry was k -ℤ (q *ℤ entry lead k) = read_x ∙ c.low_cross-x.ensures.value ∙ once (entry row k) (q *ℤ entry lead k) ∙ ap (λ (z : ℤ). z -ℤ (q *ℤ entry lead k)) same in
    record {
      each = λ j. elim (look row k j x inside) as (λ _. (entry (slice_set row k x) j ≡ entry was j) ⊎ (entry (slice_set row k x) j ≡ entry was j -ℤ (q *ℤ entry lead j))) [
        | inl r ↦ inr (r.1 ∙ is ∙ ap (λ i. entry was i -ℤ (q *ℤ entry lead i)) (sym r.0))
        | inr r ↦ elim (c.loop-s.invariant.each j) as (λ _. (entry (slice_set row k x) j ≡ entry was j) ⊎ (entry (slice_set row k x) j ≡ entry was j -ℤ (q *ℤ entry lead j))) [
          | inl a ↦ inl (r.1 ∙ a)
          | inr b ↦ inr (r.1 ∙ b)
        ]
      ];
      done = λ i i_lt. elim (look row k (slice_index places i) x inside) as (λ _. entry (slice_set row k x) (slice_index places i) ≡ entry was (slice_index places i) -ℤ (q *ℤ entry lead (slice_index places i))) [
        | inl r ↦ r.1 ∙ is ∙ ap (λ j. entry was j -ℤ (q *ℤ entry lead j)) (sym r.0)
        | inr r ↦ elim (eq_or i s) as (λ _. entry (slice_set row k x) (slice_index places i) ≡ entry was (slice_index places i) -ℤ (q *ℤ entry lead (slice_index places i))) [
          | inl e ↦ absurd (r.0 (ap (λ j. slice_index places j) e ∙ at))
          | inr ne ↦ r.1 ∙ c.loop-s.invariant.done i (omega (arith, i_lt, ne))
        ]
      ];
      left = λ j h. elim (look row k j x inside) as (λ _. entry (slice_set row k x) j ≡ entry was j) [
        | inl r ↦ absurd (h s (omega arith) (at ∙ sym r.0))
        | inr r ↦ r.1 ∙ c.loop-s.invariant.left j (λ i i_lt. h i (omega (arith, i_lt)))
      ];
      small = λ j. elim (look row k j x inside) [
        | inl r ↦ omega (arith, ap unsigned_abs (r.1 ∙ read_x), c.low_cross-x.ensures.small)
        | inr r ↦ omega (arith, ap unsigned_abs r.1, c.loop-s.invariant.small j)
      ];
      below = λ yes j.
          let h = c.both-below.ensures yes in
          elim (look row k j x inside) [
            | inl r ↦ omega (arith, ap unsigned_abs r.1, c.is_below.ensures h.1)
            | inr r ↦ omega (arith, ap unsigned_abs r.1, c.loop-s.invariant.below h.0 j)
          ];
      long = length-set row k x ∙ c.loop-s.invariant.long;
    }

pub returns-clause-value : goal.returns-clause-value
returns-clause-value c =
    all_done c.args.row.now c.args.lead.now c.loop-s.row c.args.places.now c.args.q.now c.requires.lead_count c.requires.places c.loop-s.invariant.each
    (λ i lt. c.loop-s.invariant.done i (omega arith))
