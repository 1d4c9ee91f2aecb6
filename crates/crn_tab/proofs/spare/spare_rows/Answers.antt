use Rattle.crn_tab.proofs.Prelude.{◌≡◌, ◌≢◌, ◌<◌, ◌≤◌, ◌+◌, ◌-◌, ◌⊎◌, inl, inr, ℕ, List, length, set, refl, ap, ◌∙◌, sym, subst, arith, ℤ, pos, slice_index, unsigned_abs, length-set, entry, IsContent, row_at, AreFilled, IsKeptRow, IsLead, IsRowDone, IsRowMade, HasWideRow}
use Rattle.crn_tab.proofs.Signs.{is_none}
use Rattle.crn_tab.proofs.NewRows.{new_row_none}
use Rattle.crn_tab.proofs.LeadRow.{lead_small_at, lead_primitive_at}
use Rattle.crn_tab.proofs.LeadBack.{put_back, rows_after}
use Rattle.crn_tab.proofs.spare.spare_rows.Goals as goal

kept : (w w' m c r : ℕ) (rows spare lead lead' : List ℤ) (order : List ℕ) (least : ℕ) → w' ≡ w → lead' ≡ lead
    → ((i : ℕ) → i < m → i ≢ r → entry (row_at w' rows i) c ≢ pos 0 → IsRowDone w' c i rows lead' spare least (slice_index order (w' - 1 + i)))
    → (i : ℕ) → i < m → i ≢ r → entry (row_at w rows i) c ≢ pos 0 → IsRowDone w c i rows lead spare least (slice_index order (w - 1 + i))
kept w w' m c r rows spare lead lead' order least e f h =
    let A : ℕ → Type 0 = λ n. (i : ℕ) → i < m → i ≢ r → entry (row_at n rows i) c ≢ pos 0 → IsRowDone n c i rows lead' spare least (slice_index order (n - 1 + i)) in
    let B : List ℤ → Type 0 = λ l. (i : ℕ) → i < m → i ≢ r → entry (row_at w rows i) c ≢ pos 0 → IsRowDone w c i rows l spare least (slice_index order (w - 1 + i)) in
    subst B f (subst A e h)

wide_kept : (w w' m c r : ℕ) (rows lead lead' : List ℤ) (order : List ℕ) (least : ℕ) → w' ≡ w → lead' ≡ lead
    → (least ≡ length order) ⊎ HasWideRow w' m c r rows lead' order least → (least ≡ length order) ⊎ HasWideRow w m c r rows lead order least
wide_kept w w' m c r rows lead lead' order least e f h =
    let A : ℕ → Type 0 = λ n. (least ≡ length order) ⊎ HasWideRow n m c r rows lead' order least in
    let B : List ℤ → Type 0 = λ l. (least ≡ length order) ⊎ HasWideRow w m c r rows l order least in
    subst B f (subst A e h)

pub fill_rows-least-requires-clause-lead_primitive : goal.fill_rows-least-requires-clause-lead_primitive
fill_rows-least-requires-clause-lead_primitive c =
    let w = length c.args.lead.now in
    let rows = c.args.rows.now in
    let lead = c.make_lead.new.lead in
    let was = c.requires.row c.args.pivot.row c.requires.inside in
    let small = lead_small_at w c.args.pivot.slot (row_at w rows c.args.pivot.row) lead c.make_lead.ensures was.small in
    let some : 1 ≤ w = omega (arith, c.requires.place) in
    let lead0 = set lead (length lead - 1) (pos 0) in
    let back = put_back lead c.args.pivot.slot w (row_at w rows c.args.pivot.row) c.make_lead.ensures some (small (length lead - 1)) (length lead0 - 1) (ap (λ n. n - 1) (length-set lead (length lead - 1) (pos 0))) in
    subst (λ (l : List ℤ). IsContent l 1) (sym back) (lead_primitive_at w c.args.pivot.slot (row_at w rows c.args.pivot.row) lead some c.make_lead.ensures was.primitive)

-- the rows that were brought, for the width that the code reads
brought_at : (w w' m c : ℕ) (rows spare new : List ℤ) → w' ≡ w → ((i : ℕ) → i < m → entry (row_at w' rows i) c ≢ pos 0 → row_at w' new i ≡ row_at w' spare i) → ((i : ℕ) → i < m → entry (row_at w' rows i) c ≡ pos 0 → row_at w' new i ≡ row_at w' rows i)
    → ((i : ℕ) → i < m → entry (row_at w rows i) c ≢ pos 0 → row_at w new i ≡ row_at w spare i) × ((i : ℕ) → i < m → entry (row_at w rows i) c ≡ pos 0 → row_at w new i ≡ row_at w rows i)
brought_at w w' m c rows spare new e changed stays =
    let A : ℕ → Type 0 = λ n. ((i : ℕ) → i < m → entry (row_at n rows i) c ≢ pos 0 → row_at n new i ≡ row_at n spare i) × ((i : ℕ) → i < m → entry (row_at n rows i) c ≡ pos 0 → row_at n new i ≡ row_at n rows i) in
    subst A e (changed, stays)

-- a row without the leaving coordinate is its own new row
stays_made : (w c i : ℕ) (rows lead : List ℤ) (least own : ℕ) → c + 1 < w → IsKeptRow w (row_at w rows i) → entry (row_at w rows i) c ≡ pos 0 → IsRowMade w c i rows lead least own
stays_made w c i rows lead least own lt k e = record { z = row_at w rows i; is = new_row_none (w - 1) c (row_at w rows i) lead (omega (arith, lt, k.long)) e k.primitive; fits = inl k.small }

done_made : (w c i : ℕ) (rows lead spare : List ℤ) (least own : ℕ) → IsRowDone w c i rows lead spare least own → IsRowMade w c i rows lead least own
done_made w c i rows lead spare least own d = record { z = d.z; is = d.is; fits = elim d.fits [ inl f ↦ inl f.0 | inr f ↦ inr f ] }

-- the new row, with the place where it then is
record Placed (w c i : ℕ) (rows lead new : List ℤ) (least own count : ℕ) : Type 0 where
  pub made : IsRowMade w c i rows lead least own
  pub here : least ≡ count → row_at w new i ≡ made.z

-- what the fill loop made of a row that has the leaving coordinate
abbrev AreDone : ℕ → ℕ → ℕ → ℕ → List ℤ → List ℤ → List ℤ → List ℕ → ℕ → Type 0
AreDone w m c r rows lead spare order least = (i : ℕ) → i < m → i ≢ r → entry (row_at w rows i) c ≢ pos 0 → IsRowDone w c i rows lead spare least (slice_index order (w - 1 + i))

some_entry : (x : ℤ) → 1 ≤ unsigned_abs x → x ≢ pos 0
some_entry x h e = omega (arith, h, ap unsigned_abs e)

placed : (w m c r i : ℕ) (rows lead spare new : List ℤ) (order : List ℕ) (least : ℕ) → c + 1 < w → ((k : ℕ) → k < m → IsKeptRow w (row_at w rows k)) → AreDone w m c r rows lead spare order least
    → ((s : ℕ) → s < length order → slice_index order s < length order) → length order ≡ w - 1 + m
    → (least ≡ length order → entry (row_at w rows i) c ≢ pos 0 → row_at w new i ≡ row_at w spare i) → (least ≡ length order → entry (row_at w rows i) c ≡ pos 0 → row_at w new i ≡ row_at w rows i)
    → i < m → i ≢ r → Placed w c i rows lead new least (slice_index order (w - 1 + i)) (length order)
unfolding stays_made done_made
placed w m c r i rows lead spare new order least c_lt rows_kept done below long changed stays lt ne = elim (is_none (entry (row_at w rows i) c)) as (λ _. Placed w c i rows lead new least (slice_index order (w - 1 + i)) (length order)) [
  | inl none ↦ record { made = stays_made w c i rows lead least (slice_index order (w - 1 + i)) c_lt (rows_kept i lt) none; here = λ all. stays all none }
  | inr some ↦
      let d = done i lt ne (some_entry (entry (row_at w rows i) c) some) in
      record {
        made = done_made w c i rows lead spare least (slice_index order (w - 1 + i)) d;
        here = λ all. elim d.fits as (λ _. row_at w new i ≡ d.z) [
          | inl f ↦ changed all (some_entry (entry (row_at w rows i) c) some) ∙ f.1
          | inr f ↦ absurd (omega (arith, f.1, all, below (w - 1 + i) (omega (arith, lt, long))))
        ];
      }
]

-- rows of which one is too wide
filled_wide : (w m c r : ℕ) (rows new lead : List ℤ) (order : List ℕ) (least : ℕ) → IsLead w c (row_at w rows r) lead → ((i : ℕ) → i < m → i ≢ r → IsRowMade w c i rows lead least (slice_index order (w - 1 + i)))
    → least < length order → (least ≡ length order) ⊎ HasWideRow w m c r rows lead order least → AreFilled w m c r rows new order least
filled_wide w m c r rows new lead order least is made lt h = record {
  lead = lead;
  is = is;
  made = made;
  last = elim h [ inl e ↦ absurd (omega (arith, e, lt)) | inr wide ↦ inr wide ];
}

pub returns-then-least-order-clause-filled : goal.returns-then-least-order-clause-filled
returns-then-least-order-clause-filled c =
    let w = length c.args.lead.now in
    let rows = c.args.rows.now in
    let order = c.args.order.now in
    let lead = c.make_lead.new.lead in
    let lead0 = set lead (length lead - 1) (pos 0) in
    let least = c.fill_rows-least.result in
    let small = lead_small_at w c.args.pivot.slot (row_at w rows c.args.pivot.row) lead c.make_lead.ensures (c.requires.row c.args.pivot.row c.requires.inside).small in
    let some : 1 ≤ w = omega (arith, c.requires.place) in
    let width : length lead0 ≡ w = length-set lead (length lead - 1) (pos 0) ∙ c.make_lead.ensures.long in
    let back = put_back lead c.args.pivot.slot w (row_at w rows c.args.pivot.row) c.make_lead.ensures some (small (length lead - 1)) (length lead0 - 1) (ap (λ n. n - 1) (length-set lead (length lead - 1) (pos 0))) in
    let done = kept w (length lead0) c.args.pivot.rows c.args.pivot.slot c.args.pivot.row rows c.fill_rows-least.new.spare lead _ order least width back c.fill_rows-least.ensures.done in
    filled_wide w c.args.pivot.rows c.args.pivot.slot c.args.pivot.row rows rows lead order least c.make_lead.ensures
    (λ i lt ne. (placed w c.args.pivot.rows c.args.pivot.slot c.args.pivot.row i rows lead c.fill_rows-least.new.spare rows order least c.requires.place c.requires.row done c.requires.order_below c.requires.order
    (λ all. absurd (omega (arith, all))) (λ all. absurd (omega (arith, all))) lt ne).made)
    (omega arith) (wide_kept w (length lead0) c.args.pivot.rows c.args.pivot.slot c.args.pivot.row rows lead _ order least width back c.fill_rows-least.ensures.least)

pub returns-clause-filled : goal.returns-clause-filled
returns-clause-filled c =
    let w = length c.args.lead.now in
    let rows = c.args.rows.now in
    let order = c.args.order.now in
    let lead = c.make_lead.new.lead in
    let lead0 = set lead (length lead - 1) (pos 0) in
    let least = c.fill_rows-least.result in
    let small = lead_small_at w c.args.pivot.slot (row_at w rows c.args.pivot.row) lead c.make_lead.ensures (c.requires.row c.args.pivot.row c.requires.inside).small in
    let some : 1 ≤ w = omega (arith, c.requires.place) in
    let width : length lead0 ≡ w = length-set lead (length lead - 1) (pos 0) ∙ c.make_lead.ensures.long in
    let back = put_back lead c.args.pivot.slot w (row_at w rows c.args.pivot.row) c.make_lead.ensures some (small (length lead - 1)) (length lead0 - 1) (ap (λ n. n - 1) (length-set lead (length lead - 1) (pos 0))) in
    let again = put_back lead c.args.pivot.slot w (row_at w rows c.args.pivot.row) c.make_lead.ensures some (small (length lead - 1)) (length lead - 1) refl in
    let at_places = rows_after w c.args.pivot.row lead _ c.bring_rows.new.rows c.put_lead.new.rows again c.make_lead.ensures.long c.put_lead.ensures.own c.put_lead.ensures.others in
    let done = kept w (length lead0) c.args.pivot.rows c.args.pivot.slot c.args.pivot.row rows c.fill_rows-least.new.spare lead _ order least width back c.fill_rows-least.ensures.done in
    let brought = brought_at w _ c.args.pivot.rows c.args.pivot.slot rows c.fill_rows-least.new.spare c.bring_rows.new.rows (ap (length {A = ℤ}) again ∙ c.make_lead.ensures.long) c.bring_rows.ensures.changed c.bring_rows.ensures.same in
    let each : (i : ℕ) → i < c.args.pivot.rows → i ≢ c.args.pivot.row → Placed w c.args.pivot.slot i rows lead c.put_lead.new.rows least (slice_index order (w - 1 + i)) (length order) = λ i lt ne.
    placed w c.args.pivot.rows c.args.pivot.slot c.args.pivot.row i rows lead c.fill_rows-least.new.spare c.put_lead.new.rows order least c.requires.place c.requires.row done c.requires.order_below c.requires.order
    (λ _ some. at_places.1 i ne ∙ brought.0 i lt some) (λ _ none. at_places.1 i ne ∙ brought.1 i lt none) lt ne in
    record {
      lead = lead;
      is = c.make_lead.ensures;
      made = λ i lt ne. (each i lt ne).made;
      last = elim (wide_kept w (length lead0) c.args.pivot.rows c.args.pivot.slot c.args.pivot.row rows lead _ order least width back c.fill_rows-least.ensures.least) [
        | inl e ↦ inl (e, at_places.0, (λ i lt ne. (each i lt ne).here e))
        | inr h ↦ inr h
      ];
    }
