use Rattle.crn_tab.proofs.Prelude.{◌≡◌, ◌*◌, ◌++◌, ◌^◌, take, drop, List, length, ap, ◌∙◌, sym, subst, arith, vec_capacity, ℤ, written, AreBelow}
use Rattle.crn_tab.proofs.KeptRows.{kept_at, some_at, rows_below, filled_at, rows_in_place}
use Rattle.crn_tab.proofs.rows.Rows.exchange.Goals as goal

pub changed_rows-self-inside-requires-clause-few : goal.changed_rows-self-inside-requires-clause-few
changed_rows-self-inside-requires-clause-few c = omega (arith, c.requires.few, ap length (c.deref_mut.ensures.value ∙ c.self.view_is))

pub changed_rows-self-inside-requires-clause-count : goal.changed_rows-self-inside-requires-clause-count
changed_rows-self-inside-requires-clause-count c = ap length (c.deref_mut.ensures.value ∙ c.self.view_is) ∙ c.requires.count ∙ ap (λ w. c.args.pivot.rows * w) (sym (ap length c.deref_mut-then-self.ensures.value ∙ c.scratch.view_is))

pub changed_rows-self-inside-requires-clause-place : goal.changed_rows-self-inside-requires-clause-place
changed_rows-self-inside-requires-clause-place c = omega (arith, c.requires.place, ap length c.deref_mut-then-self.ensures.value ∙ c.scratch.view_is)

pub changed_rows-self-inside-requires-clause-room : goal.changed_rows-self-inside-requires-clause-room
changed_rows-self-inside-requires-clause-room c = omega (arith, ap length c.deref_mut-then-self.ensures.value, c.scratch.invariant.places_fit)

pub changed_rows-self-inside-requires-clause-row : goal.changed_rows-self-inside-requires-clause-row
changed_rows-self-inside-requires-clause-row c = kept_at c.args.scratch.now (length c.deref_mut-then-self.result.now) c.args.pivot.rows c.args.self.now c.deref_mut.result.now (ap length c.deref_mut-then-self.ensures.value ∙ c.scratch.view_is) (c.deref_mut.ensures.value ∙ c.self.view_is) c.requires.row

pub changed_rows-self-inside-requires-clause-some : goal.changed_rows-self-inside-requires-clause-some
changed_rows-self-inside-requires-clause-some c = some_at c.args.scratch.now (length c.deref_mut-then-self.result.now) c.args.pivot.slot c.args.pivot.row c.args.self.now c.deref_mut.result.now (ap length c.deref_mut-then-self.ensures.value ∙ c.scratch.view_is) (c.deref_mut.ensures.value ∙ c.self.view_is) c.requires.some

pub changed_rows-self-inside-requires-clause-low_rows : goal.changed_rows-self-inside-requires-clause-low_rows
changed_rows-self-inside-requires-clause-low_rows c = rows_below (2 ^ 30) (length c.deref_mut-then-self.result.now) c.args.pivot.rows c.self.inside.entries.items c.deref_mut.result.now (omega arith) c.deref_mut.ensures.value (c.self.invariant.low_is c.if-self.true)

pub changed_rows-self-inside-requires-clause-short_rows : goal.changed_rows-self-inside-requires-clause-short_rows
changed_rows-self-inside-requires-clause-short_rows c = λ yes. rows_below (2 ^ 14) (length c.deref_mut-then-self.result.now) c.args.pivot.rows c.self.inside.entries.items c.deref_mut.result.now (omega arith) c.deref_mut.ensures.value (c.self.invariant.short_is yes)

pub changed_rows-self-inside-requires-clause-narrow_count : goal.changed_rows-self-inside-requires-clause-narrow_count
changed_rows-self-inside-requires-clause-narrow_count c = ap length c.deref_mut-then-self-2.ensures.value ∙ c.scratch.invariant.narrow_lead_long ∙ sym (ap length c.deref_mut-then-self.ensures.value)

pub changed_rows-self-inside-requires-clause-narrow_work : goal.changed_rows-self-inside-requires-clause-narrow_work
changed_rows-self-inside-requires-clause-narrow_work c = ap length c.deref_mut-then-self-3.ensures.value ∙ c.scratch.invariant.narrow_work_long ∙ sym (ap length c.deref_mut-then-self.ensures.value)

pub invariant_of-self : goal.invariant_of-self
invariant_of-self c =
    let x = c.changed_rows-self-inside in
    let w = length c.deref_mut-then-self.result.now in
    let er = written c.self.inside.entries.len x.new.rows c.self.inside.entries.items (x.auto.rows ∙ c.deref_mut.ensures.len) in
    let long : length x.new.rows ≡ c.args.pivot.rows * w = x.auto.rows ∙ ap length (c.deref_mut.ensures.value ∙ c.self.view_is) ∙ c.requires.count ∙ ap (λ n. c.args.pivot.rows * n) (sym (ap length c.deref_mut-then-self.ensures.value ∙ c.scratch.view_is)) in
    rows_in_place w c.args.pivot.rows x.new.rows (take c.self.inside.entries.len (x.new.rows ++ drop (length x.new.rows) c.self.inside.entries.items)) x.result x.new.short (vec_capacity c.self.inside.spare)
    er (omega (arith, c.requires.place, ap length c.deref_mut-then-self.ensures.value ∙ c.scratch.view_is)) long x.ensures.low x.ensures.short (omega (arith, x.auto.rows, ap length c.deref_mut.ensures.value, c.self.invariant.spare_fits))

pub invariant_of-scratch : goal.invariant_of-scratch
invariant_of-scratch c =
    let x = c.changed_rows-self-inside in
    let h = c.scratch.invariant in
    let el = written c.scratch.inside.lead.len x.new.lead c.scratch.inside.lead.items (x.auto.lead ∙ c.deref_mut-then-self.ensures.len) in
    let long : length (take c.scratch.inside.lead.len (x.new.lead ++ drop (length x.new.lead) c.scratch.inside.lead.items)) ≡ length c.scratch.inside.lead.items = ap length el ∙ x.auto.lead ∙ ap length c.deref_mut-then-self.ensures.value in
    record {
      places_fit = omega (arith, long, h.places_fit, x.ensures.room);
      work_long = h.work_long ∙ sym long;
      narrow_lead_long = ap length (written c.scratch.inside.narrow_lead.len x.new.narrow_lead c.scratch.inside.narrow_lead.items (x.auto.narrow_lead ∙ c.deref_mut-then-self-2.ensures.len)) ∙ x.auto.narrow_lead ∙ ap length c.deref_mut-then-self-2.ensures.value ∙ h.narrow_lead_long ∙ sym long;
      narrow_work_long = ap length (written c.scratch.inside.narrow_work.len x.new.work c.scratch.inside.narrow_work.items (x.auto.work ∙ c.deref_mut-then-self-3.ensures.len)) ∙ x.auto.work ∙ ap length c.deref_mut-then-self-3.ensures.value ∙ h.narrow_work_long ∙ sym long;
    }

pub returns-then-self-clause-filled : goal.returns-then-self-clause-filled
returns-then-self-clause-filled c =
    let x = c.changed_rows-self-inside in
    filled_at c.args.scratch.now (length c.deref_mut-then-self.result.now) c.args.pivot.rows c.args.pivot.slot c.args.pivot.row c.args.self.now c.deref_mut.result.now
    (take c.self.inside.entries.len (x.new.rows ++ drop (length x.new.rows) c.self.inside.entries.items)) x.new.rows c.args.order.now (length c.args.order.now) (ap length c.deref_mut-then-self.ensures.value ∙ c.scratch.view_is) (c.deref_mut.ensures.value ∙ c.self.view_is) (sym (written c.self.inside.entries.len x.new.rows c.self.inside.entries.items (x.auto.rows ∙ c.deref_mut.ensures.len))) (x.ensures.filled c.args.order.now)

pub returns-then-self-clause-scratch : goal.returns-then-self-clause-scratch
returns-then-self-clause-scratch c =
    let x = c.changed_rows-self-inside in
    let el = written c.scratch.inside.lead.len x.new.lead c.scratch.inside.lead.items (x.auto.lead ∙ c.deref_mut-then-self.ensures.len) in
    let long : length (take c.scratch.inside.lead.len (x.new.lead ++ drop (length x.new.lead) c.scratch.inside.lead.items)) ≡ length c.scratch.inside.lead.items = ap length el ∙ x.auto.lead ∙ ap length c.deref_mut-then-self.ensures.value in
    long ∙ c.scratch.view_is

pub spare_rows-least-requires-clause-few : goal.spare_rows-least-requires-clause-few
spare_rows-least-requires-clause-few c = omega (arith, c.requires.few, ap length (c.deref_mut-2.ensures.value ∙ c.self.view_is))

pub spare_rows-least-requires-clause-count : goal.spare_rows-least-requires-clause-count
spare_rows-least-requires-clause-count c = ap length (c.deref_mut-2.ensures.value ∙ c.self.view_is) ∙ c.requires.count ∙ ap (λ w. c.args.pivot.rows * w) (sym (ap length c.deref_mut-4.ensures.value ∙ c.scratch.view_is))

pub spare_rows-least-requires-clause-place : goal.spare_rows-least-requires-clause-place
spare_rows-least-requires-clause-place c = omega (arith, c.requires.place, ap length c.deref_mut-4.ensures.value ∙ c.scratch.view_is)

pub spare_rows-least-requires-clause-room : goal.spare_rows-least-requires-clause-room
spare_rows-least-requires-clause-room c = omega (arith, ap length c.deref_mut-4.ensures.value, c.scratch.invariant.places_fit)

pub spare_rows-least-requires-clause-row : goal.spare_rows-least-requires-clause-row
spare_rows-least-requires-clause-row c = kept_at c.args.scratch.now (length c.deref_mut-4.result.now) c.args.pivot.rows c.args.self.now c.deref_mut-2.result.now (ap length c.deref_mut-4.ensures.value ∙ c.scratch.view_is) (c.deref_mut-2.ensures.value ∙ c.self.view_is) c.requires.row

pub spare_rows-least-requires-clause-some : goal.spare_rows-least-requires-clause-some
spare_rows-least-requires-clause-some c = some_at c.args.scratch.now (length c.deref_mut-4.result.now) c.args.pivot.slot c.args.pivot.row c.args.self.now c.deref_mut-2.result.now (ap length c.deref_mut-4.ensures.value ∙ c.scratch.view_is) (c.deref_mut-2.ensures.value ∙ c.self.view_is) c.requires.some

pub spare_rows-least-requires-clause-same : goal.spare_rows-least-requires-clause-same
spare_rows-least-requires-clause-same c = omega (arith, ap length c.deref_mut-3.ensures.value, c.set_length.ensures.count, c.len.ensures, ap length c.deref_mut-2.ensures.value)

pub spare_rows-least-requires-clause-order : goal.spare_rows-least-requires-clause-order
spare_rows-least-requires-clause-order c = omega (arith, c.requires.order, ap length c.deref_mut-4.ensures.value ∙ c.scratch.view_is)

pub spare_rows-least-requires-clause-work_count : goal.spare_rows-least-requires-clause-work_count
spare_rows-least-requires-clause-work_count c = ap length c.deref_mut-5.ensures.value ∙ c.scratch.invariant.work_long ∙ sym (ap length c.deref_mut-4.ensures.value)

pub invariant_of-self-2 : goal.invariant_of-self-2
invariant_of-self-2 c =
    let x = c.spare_rows-least in
    let er = written c.self.inside.entries.len x.new.rows c.self.inside.entries.items (x.auto.rows ∙ c.deref_mut-2.ensures.len) in
    record {
      low_is = λ yes. subst (λ (v : List ℤ). AreBelow (2 ^ 30) v) c.deref.ensures.value (c.all_low-self-inside.ensures yes);
      short_is = λ yes. absurd (cc yes);
      spare_fits = omega (arith, ap length er, x.auto.rows, ap length c.deref_mut-2.ensures.value, c.set_length.ensures.room, c.self.invariant.spare_fits);
    }

pub invariant_of-scratch-2 : goal.invariant_of-scratch-2
invariant_of-scratch-2 c =
    let x = c.spare_rows-least in
    let h = c.scratch.invariant in
    let el = written c.scratch.inside.lead.len x.new.lead c.scratch.inside.lead.items (x.auto.lead ∙ c.deref_mut-4.ensures.len) in
    let long : length (take c.scratch.inside.lead.len (x.new.lead ++ drop (length x.new.lead) c.scratch.inside.lead.items)) ≡ length c.scratch.inside.lead.items = ap length el ∙ x.auto.lead ∙ ap length c.deref_mut-4.ensures.value in
    record {
      places_fit = omega (arith, long, h.places_fit, x.ensures.room);
      work_long = ap length (written c.scratch.inside.work.len x.new.work c.scratch.inside.work.items (x.auto.work ∙ c.deref_mut-5.ensures.len)) ∙ x.auto.work ∙ ap length c.deref_mut-5.ensures.value ∙ h.work_long ∙ sym long;
      narrow_lead_long = h.narrow_lead_long ∙ sym long;
      narrow_work_long = h.narrow_work_long ∙ sym long;
    }

pub returns-clause-filled : goal.returns-clause-filled
returns-clause-filled c =
    let x = c.spare_rows-least in
    filled_at c.args.scratch.now (length c.deref_mut-4.result.now) c.args.pivot.rows c.args.pivot.slot c.args.pivot.row c.args.self.now c.deref_mut-2.result.now
    (take c.self.inside.entries.len (x.new.rows ++ drop (length x.new.rows) c.self.inside.entries.items)) x.new.rows c.args.order.now x.result (ap length c.deref_mut-4.ensures.value ∙ c.scratch.view_is) (c.deref_mut-2.ensures.value ∙ c.self.view_is) (sym (written c.self.inside.entries.len x.new.rows c.self.inside.entries.items (x.auto.rows ∙ c.deref_mut-2.ensures.len))) x.ensures.filled

pub returns-clause-stay : goal.returns-clause-stay
returns-clause-stay c = λ lt.
    let x = c.spare_rows-least in
    written c.self.inside.entries.len x.new.rows c.self.inside.entries.items (x.auto.rows ∙ c.deref_mut-2.ensures.len) ∙ x.ensures.stay lt ∙ c.deref_mut-2.ensures.value ∙ c.self.view_is

pub returns-clause-scratch : goal.returns-clause-scratch
returns-clause-scratch c =
    let x = c.spare_rows-least in
    let el = written c.scratch.inside.lead.len x.new.lead c.scratch.inside.lead.items (x.auto.lead ∙ c.deref_mut-4.ensures.len) in
    let long : length (take c.scratch.inside.lead.len (x.new.lead ++ drop (length x.new.lead) c.scratch.inside.lead.items)) ≡ length c.scratch.inside.lead.items = ap length el ∙ x.auto.lead ∙ ap length c.deref_mut-4.ensures.value in
    long ∙ c.scratch.view_is

pub returns-then-self-clause-long : goal.returns-then-self-clause-long
returns-then-self-clause-long c =
    let x = c.changed_rows-self-inside in
    let er = written c.self.inside.entries.len x.new.rows c.self.inside.entries.items (x.auto.rows ∙ c.deref_mut.ensures.len) in
    ap length er ∙ x.auto.rows ∙ ap length (c.deref_mut.ensures.value ∙ c.self.view_is)

pub returns-clause-long : goal.returns-clause-long
returns-clause-long c =
    let x = c.spare_rows-least in
    let er = written c.self.inside.entries.len x.new.rows c.self.inside.entries.items (x.auto.rows ∙ c.deref_mut-2.ensures.len) in
    ap length er ∙ x.auto.rows ∙ ap length (c.deref_mut-2.ensures.value ∙ c.self.view_is)
