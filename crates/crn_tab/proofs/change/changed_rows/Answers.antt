use Rattle.crn_tab.proofs.Prelude.{◌≡◌, ◌≢◌, ◌<◌, ◌≤◌, ◌-◌, ◌^◌, ◌⊎◌, inl, inr, ℕ, List, length, set, refl, ap, ◌∙◌, sym, subst, arith, ℤ, pos, length-set, eq_or, IsContent, row_at, AreBelow, AreRowsBelow, IsKeptRow, IsRowChanged}
use Rattle.crn_tab.proofs.Finish.{below_row}
use Rattle.crn_tab.proofs.LeadRow.{lead_small_at, lead_below_at, lead_primitive_at}
use Rattle.crn_tab.proofs.LeadBack.{put_back, rows_after}
use Rattle.crn_tab.proofs.NewRows.{below_without}
use Rattle.crn_tab.proofs.change.changed_rows.Goals as goal

-- the changed rows, for the width and the lead that callers read
changed_at : (w w' m c r : ℕ) (rows lead lead' new : List ℤ) → w' ≡ w → lead' ≡ lead → ((i : ℕ) → i < m → i ≢ r → IsRowChanged w' c i rows lead' new)
    → (i : ℕ) → i < m → i ≢ r → IsRowChanged w c i rows lead new
changed_at w w' m c r rows lead lead' new e f h =
    let A : ℕ → Type 0 = λ n. (i : ℕ) → i < m → i ≢ r → IsRowChanged n c i rows lead' new in
    let B : List ℤ → Type 0 = λ l. (i : ℕ) → i < m → i ≢ r → IsRowChanged w c i rows l new in
    subst B f (subst A e h)

-- all rows are below a bound, if the lead is and the changed rows are
below_after : (b w w' m r : ℕ) (lead changed rows : List ℤ) → w' ≡ w → AreBelow b lead → row_at w rows r ≡ lead → ((i : ℕ) → i ≢ r → row_at w rows i ≡ row_at w changed i)
    → ((i : ℕ) → i < m → i ≢ r → AreBelow b (row_at w' changed i)) → (i : ℕ) → i < m → AreBelow b (row_at w rows i)
below_after b w w' m r lead changed rows width first own others h i lt =
    let A : ℕ → Type 0 = λ n. (j : ℕ) → j < m → j ≢ r → AreBelow b (row_at n changed j) in
    let B : List ℤ → Type 0 = AreBelow b in
    elim (eq_or i r) as (λ _. AreBelow b (row_at w rows i)) [
      | inl e ↦ subst B (sym (ap (row_at w rows) e ∙ own)) first
      | inr ne ↦ subst B (sym (others i ne)) (subst A width h i lt ne)
    ]

-- all rows are short, as is said or as they show
short_of : (w m : ℕ) (rows : List ℤ) (said : Type 0) → (said → AreRowsBelow (2 ^ 14) w m rows) → said ⊎ AreBelow (2 ^ 14) rows → AreRowsBelow (2 ^ 14) w m rows
short_of w m rows said known h = elim h as (λ _. AreRowsBelow (2 ^ 14) w m rows) [
  | inl told ↦ known told
  | inr all ↦ λ i lt. below_row (2 ^ 14) w i rows (omega arith) all
]

-- the same of rows of as many entries as the list that holds the lead
short_rows_at : (w w' m : ℕ) (rows : List ℤ) → w' ≡ w → AreRowsBelow (2 ^ 14) w m rows → AreRowsBelow (2 ^ 14) w' m rows
short_rows_at w w' m rows e h = let A : ℕ → Type 0 = λ n. AreRowsBelow (2 ^ 14) n m rows in subst A (sym e) h

pub put_narrow_if-requires-clause-short : goal.put_narrow_if-requires-clause-short
put_narrow_if-requires-clause-short c = λ yes.
    let w = length c.args.lead.now in
    let rows = c.args.rows.now in
    let lead = c.make_lead.new.lead in
    let short = short_of w c.args.pivot.rows rows _ c.requires.short_rows (c.is_narrow-by_narrow.ensures.short (c.is_narrow-by_narrow.ensures.narrow yes)) in
    below_without (2 ^ 14) lead (length lead - 1) (omega arith) (omega (arith, c.make_lead.ensures.long, c.requires.place))
    (lead_below_at (2 ^ 14) w c.args.pivot.slot (row_at w rows c.args.pivot.row) lead c.make_lead.ensures (short c.args.pivot.row c.requires.inside))

pub change_rows-low-requires-clause-short_rows : goal.change_rows-low-requires-clause-short_rows
change_rows-low-requires-clause-short_rows c = λ yes.
    let w = length c.args.lead.now in
    let lead = c.make_lead.new.lead in
    short_rows_at w (length (set lead (length lead - 1) (pos 0))) c.args.pivot.rows c.args.rows.now (length-set lead (length lead - 1) (pos 0) ∙ c.make_lead.ensures.long)
    (short_of w c.args.pivot.rows c.args.rows.now _ c.requires.short_rows (c.is_narrow-by_narrow.ensures.short yes))

pub change_rows-low-requires-clause-short : goal.change_rows-low-requires-clause-short
change_rows-low-requires-clause-short c = λ yes.
    let w = length c.args.lead.now in
    let rows = c.args.rows.now in
    let lead = c.make_lead.new.lead in
    let short = short_of w c.args.pivot.rows rows _ c.requires.short_rows (c.is_narrow-by_narrow.ensures.short (c.is_narrow-by_narrow.ensures.narrow yes)) in (
      c.put_narrow_if.ensures yes,
      below_without (2 ^ 14) lead (length lead - 1) (omega arith) (omega (arith, c.make_lead.ensures.long, c.requires.place))
          (lead_below_at (2 ^ 14) w c.args.pivot.slot (row_at w rows c.args.pivot.row) lead c.make_lead.ensures (short c.args.pivot.row c.requires.inside)),
      short_rows_at w (length (set lead (length lead - 1) (pos 0))) c.args.pivot.rows rows (length-set lead (length lead - 1) (pos 0) ∙ c.make_lead.ensures.long) short,
    )

pub change_rows-low-requires-clause-row : goal.change_rows-low-requires-clause-row
change_rows-low-requires-clause-row c =
    let lead = c.make_lead.new.lead in
    let A : ℕ → Type 0 = λ n. (i : ℕ) → i < c.args.pivot.rows → IsKeptRow n (row_at n c.args.rows.now i) in
    subst A (sym (length-set lead (length lead - 1) (pos 0) ∙ c.make_lead.ensures.long)) c.requires.row

pub change_rows-low-requires-clause-lead_primitive : goal.change_rows-low-requires-clause-lead_primitive
change_rows-low-requires-clause-lead_primitive c =
    let w = length c.args.lead.now in
    let rows = c.args.rows.now in
    let lead = c.make_lead.new.lead in
    let was = c.requires.row c.args.pivot.row c.requires.inside in
    let small = lead_small_at w c.args.pivot.slot (row_at w rows c.args.pivot.row) lead c.make_lead.ensures was.small in
    let some : 1 ≤ w = omega (arith, c.requires.place) in
    let lead0 = set lead (length lead - 1) (pos 0) in
    let back = put_back lead c.args.pivot.slot w (row_at w rows c.args.pivot.row) c.make_lead.ensures some (small (length lead - 1)) (length lead0 - 1) (ap (λ n. n - 1) (length-set lead (length lead - 1) (pos 0))) in
    subst (λ (l : List ℤ). IsContent l 1) (sym back) (lead_primitive_at w c.args.pivot.slot (row_at w rows c.args.pivot.row) lead some c.make_lead.ensures was.primitive)

pub returns-clause-filled : goal.returns-clause-filled
returns-clause-filled c = λ order.
    let w = length c.args.lead.now in
    let rows = c.args.rows.now in
    let lead = c.make_lead.new.lead in
    let lead0 = set lead (length lead - 1) (pos 0) in
    let small = lead_small_at w c.args.pivot.slot (row_at w rows c.args.pivot.row) lead c.make_lead.ensures (c.requires.row c.args.pivot.row c.requires.inside).small in
    let some : 1 ≤ w = omega (arith, c.requires.place) in
    let width : length lead0 ≡ w = length-set lead (length lead - 1) (pos 0) ∙ c.make_lead.ensures.long in
    let back = put_back lead c.args.pivot.slot w (row_at w rows c.args.pivot.row) c.make_lead.ensures some (small (length lead - 1)) (length lead0 - 1) (ap (λ n. n - 1) (length-set lead (length lead - 1) (pos 0))) in
    let again = put_back lead c.args.pivot.slot w (row_at w rows c.args.pivot.row) c.make_lead.ensures some (small (length lead - 1)) (length lead - 1) refl in
    let at_places = rows_after w c.args.pivot.row lead _ c.change_rows-low.new.rows c.put_lead.new.rows again c.make_lead.ensures.long c.put_lead.ensures.own c.put_lead.ensures.others in
    let changed = changed_at w (length lead0) c.args.pivot.rows c.args.pivot.slot c.args.pivot.row rows lead _ c.change_rows-low.new.rows width back c.change_rows-low.ensures.changed in
    record {
      lead = lead;
      is = c.make_lead.ensures;
      made = λ i lt ne. record { z = row_at w c.change_rows-low.new.rows i; is = (changed i lt ne).is; fits = inl (changed i lt ne).small };
      last = inl (refl, at_places.0, λ i lt ne. at_places.1 i ne);
    }

pub returns-clause-low : goal.returns-clause-low
returns-clause-low c = λ yes i lt.
    let w = length c.args.lead.now in
    let rows = c.args.rows.now in
    let lead = c.make_lead.new.lead in
    let lead0 = set lead (length lead - 1) (pos 0) in
    let small = lead_small_at w c.args.pivot.slot (row_at w rows c.args.pivot.row) lead c.make_lead.ensures (c.requires.row c.args.pivot.row c.requires.inside).small in
    let some : 1 ≤ w = omega (arith, c.requires.place) in
    let width : length lead0 ≡ w = length-set lead (length lead - 1) (pos 0) ∙ c.make_lead.ensures.long in
    let again = put_back lead c.args.pivot.slot w (row_at w rows c.args.pivot.row) c.make_lead.ensures some (small (length lead - 1)) (length lead - 1) refl in
    let at_places = rows_after w c.args.pivot.row lead _ c.change_rows-low.new.rows c.put_lead.new.rows again c.make_lead.ensures.long c.put_lead.ensures.own c.put_lead.ensures.others in
    below_after (2 ^ 30) w (length lead0) c.args.pivot.rows c.args.pivot.row lead c.change_rows-low.new.rows c.put_lead.new.rows width
    (lead_below_at (2 ^ 30) w c.args.pivot.slot (row_at w rows c.args.pivot.row) lead c.make_lead.ensures (c.requires.low_rows c.args.pivot.row c.requires.inside)) at_places.0 (λ j ne. at_places.1 j ne) (c.change_rows-low.ensures.low yes) i lt

pub returns-clause-short : goal.returns-clause-short
returns-clause-short c = λ yes i lt.
    let w = length c.args.lead.now in
    let rows = c.args.rows.now in
    let lead = c.make_lead.new.lead in
    let lead0 = set lead (length lead - 1) (pos 0) in
    let was = lead_small_at w c.args.pivot.slot (row_at w rows c.args.pivot.row) lead c.make_lead.ensures (c.requires.row c.args.pivot.row c.requires.inside).small in
    let some : 1 ≤ w = omega (arith, c.requires.place) in
    let width : length lead0 ≡ w = length-set lead (length lead - 1) (pos 0) ∙ c.make_lead.ensures.long in
    let again = put_back lead c.args.pivot.slot w (row_at w rows c.args.pivot.row) c.make_lead.ensures some (was (length lead - 1)) (length lead - 1) refl in
    let at_places = rows_after w c.args.pivot.row lead _ c.change_rows-low.new.rows c.put_lead.new.rows again c.make_lead.ensures.long c.put_lead.ensures.own c.put_lead.ensures.others in
    let made = c.change_rows-low.ensures.short yes in
    let short = short_of w c.args.pivot.rows rows _ c.requires.short_rows (c.is_narrow-by_narrow.ensures.short made.0) in
    below_after (2 ^ 14) w (length lead0) c.args.pivot.rows c.args.pivot.row lead c.change_rows-low.new.rows c.put_lead.new.rows width
    (lead_below_at (2 ^ 14) w c.args.pivot.slot (row_at w rows c.args.pivot.row) lead c.make_lead.ensures (short c.args.pivot.row c.requires.inside)) at_places.0 (λ j ne. at_places.1 j ne) made.1 i lt
