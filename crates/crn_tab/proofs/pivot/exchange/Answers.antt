use Rattle.crn_tab.proofs.Prelude.{◌<◌, ◌≤◌, ◌-◌, ◌+◌, inl, inr, List, refl, sym, subst, arith, length-set, ℤ, slice_index, width, IsTableau}
use Rattle.crn_tab.proofs.Finish.{kept_row}
use Rattle.crn_tab.proofs.Here.{here, some_entry, ok_here, wide_here, row_here, least_here}
use Rattle.crn_tab.proofs.pivot.exchange.Goals as goal

pub bounds-at-leave : goal.bounds-at-leave
bounds-at-leave c =
    let h = here c.args.matrix.now c.args.at.now c.args.order.now c.args.rows.now c.args.leave c.args.enter c.requires.tableau c.requires.leave c.requires.inside c.requires.enter in
    omega (arith, h.leave_in, c.requires.tableau.placed.at_long)

pub bounds-at-leave-2 : goal.bounds-at-leave-2
bounds-at-leave-2 c =
    let h = here c.args.matrix.now c.args.at.now c.args.order.now c.args.rows.now c.args.leave c.args.enter c.requires.tableau c.requires.leave c.requires.inside c.requires.enter in
    omega (arith, h.leave_in, c.requires.tableau.placed.at_long)

pub offset_bounds-at-leave : goal.offset_bounds-at-leave
offset_bounds-at-leave c =
    let h = here c.args.matrix.now c.args.at.now c.args.order.now c.args.rows.now c.args.leave c.args.enter c.requires.tableau c.requires.leave c.requires.inside c.requires.enter in
    omega (arith, h.leave_in, c.requires.tableau.few)

pub offset_bounds-at-leave-2 : goal.offset_bounds-at-leave-2
offset_bounds-at-leave-2 c =
    let h = here c.args.matrix.now c.args.at.now c.args.order.now c.args.rows.now c.args.leave c.args.enter c.requires.tableau c.requires.leave c.requires.inside c.requires.enter in
    omega (arith, h.leave_in, c.requires.tableau.few)

pub overflow_sub-r : goal.overflow_sub-r
overflow_sub-r c =
    let h = here c.args.matrix.now c.args.at.now c.args.order.now c.args.rows.now c.args.leave c.args.enter c.requires.tableau c.requires.leave c.requires.inside c.requires.enter in
    omega (arith, h.own, c.cols-n.ensures.count)

pub exchange-least-requires-clause-place : goal.exchange-least-requires-clause-place
exchange-least-requires-clause-place c =
    let h = here c.args.matrix.now c.args.at.now c.args.order.now c.args.rows.now c.args.leave c.args.enter c.requires.tableau c.requires.leave c.requires.inside c.requires.enter in
    omega (arith, h.c_lt, c.requires.scratch)

pub exchange-least-requires-clause-inside : goal.exchange-least-requires-clause-inside
exchange-least-requires-clause-inside c =
    let h = here c.args.matrix.now c.args.at.now c.args.order.now c.args.rows.now c.args.leave c.args.enter c.requires.tableau c.requires.leave c.requires.inside c.requires.enter in
    omega (arith, h.r_lt, c.cols-n.ensures.count, c.rows-m.ensures.count)

pub exchange-least-requires-clause-row : goal.exchange-least-requires-clause-row
exchange-least-requires-clause-row c = λ i lt.
    rw c.requires.scratch (kept_row c.args.matrix.now c.args.at.now c.args.order.now c.args.rows.now i c.requires.tableau (omega (arith, lt, c.rows-m.ensures.count)))

pub exchange-least-requires-clause-some : goal.exchange-least-requires-clause-some
exchange-least-requires-clause-some c =
    let h = here c.args.matrix.now c.args.at.now c.args.order.now c.args.rows.now c.args.leave c.args.enter c.requires.tableau c.requires.leave c.requires.inside c.requires.enter in
    rw (c.requires.scratch, c.cols-n.ensures.count)
    (some_entry c.args.matrix.now c.args.at.now c.args.order.now c.args.rows.now c.args.leave c.args.enter (slice_index c.args.at.now c.args.leave) (slice_index c.args.at.now c.args.enter - c.args.matrix.now.cols)
    c.requires.tableau h c.requires.some)

pub returns-then-least-n-clause-wide : goal.returns-then-least-n-clause-wide
returns-then-least-n-clause-wide c = λ ne.
    let h = here c.args.matrix.now c.args.at.now c.args.order.now c.args.rows.now c.args.leave c.args.enter c.requires.tableau c.requires.leave c.requires.inside c.requires.enter in
    let f = rw (c.requires.scratch, c.cols-n.ensures.count, c.rows-m.ensures.count) at c.exchange-least.ensures.filled in
    let lt : c.exchange-least.result < width c.args.matrix.now = omega (arith, c.cols-n.ensures.count, c.rows-m.ensures.count) in (
      refl,
      refl,
      c.exchange-least.ensures.stay (omega (arith, c.cols-n.ensures.count, c.rows-m.ensures.count, c.requires.tableau.placed.order_long)),
      λ next ex. (
        wide_here c.args.matrix.now c.args.at.now c.args.order.now c.args.rows.now c.exchange-least.new.self c.args.leave c.args.enter
            (slice_index c.args.at.now c.args.leave) (slice_index c.args.at.now c.args.enter - c.args.matrix.now.cols) c.exchange-least.result c.requires.tableau h f
            lt next ex,
        least_here c.args.matrix.now c.args.at.now c.args.order.now c.args.rows.now c.exchange-least.new.self c.args.leave c.args.enter
            (slice_index c.args.at.now c.args.leave) (slice_index c.args.at.now c.args.enter - c.args.matrix.now.cols) c.exchange-least.result c.requires.tableau h f
            lt next ex,
      ),
    )

pub returns-then-least-n-clause-row : goal.returns-then-least-n-clause-row
returns-then-least-n-clause-row c = λ ne next ex.
    let h = here c.args.matrix.now c.args.at.now c.args.order.now c.args.rows.now c.args.leave c.args.enter c.requires.tableau c.requires.leave c.requires.inside c.requires.enter in
    let f = rw (c.requires.scratch, c.cols-n.ensures.count, c.rows-m.ensures.count) at c.exchange-least.ensures.filled in
    let lt : c.exchange-least.result < width c.args.matrix.now = omega (arith, c.cols-n.ensures.count, c.rows-m.ensures.count) in
    row_here c.args.matrix.now c.args.at.now c.args.order.now c.args.rows.now c.exchange-least.new.self c.args.leave c.args.enter
    (slice_index c.args.at.now c.args.leave) (slice_index c.args.at.now c.args.enter - c.args.matrix.now.cols) c.exchange-least.result c.requires.tableau h f
    lt next ex

pub returns-clause-ok : goal.returns-clause-ok
returns-clause-ok c = λ e.
    let h = here c.args.matrix.now c.args.at.now c.args.order.now c.args.rows.now c.args.leave c.args.enter c.requires.tableau c.requires.leave c.requires.inside c.requires.enter in
    let f = rw (c.requires.scratch, c.cols-n.ensures.count, c.rows-m.ensures.count) at c.exchange-least.ensures.filled in
    rw c.cols-n.ensures.count (let t = ok_here c.args.matrix.now c.args.at.now c.args.order.now c.args.rows.now c.exchange-least.new.self c.args.leave c.args.enter
    (slice_index c.args.at.now c.args.leave) (slice_index c.args.at.now c.args.enter - c.args.matrix.now.cols) c.exchange-least.result c.requires.tableau h c.exchange-least.ensures.long f e in (t.1, t.2))

pub bounds-order-c : goal.bounds-order-c
bounds-order-c c =
    let h = here c.args.matrix.now c.args.at.now c.args.order.now c.args.rows.now c.args.leave c.args.enter c.requires.tableau c.requires.leave c.requires.inside c.requires.enter in
    omega (arith, h.c_lt, c.requires.tableau.placed.order_long)

pub bounds-order-n : goal.bounds-order-n
bounds-order-n c =
    let h = here c.args.matrix.now c.args.at.now c.args.order.now c.args.rows.now c.args.leave c.args.enter c.requires.tableau c.requires.leave c.requires.inside c.requires.enter in
    omega (arith, h.own, h.r_lt, c.cols-n.ensures.count, c.requires.tableau.placed.order_long, length-set c.args.order.now (slice_index c.args.at.now c.args.leave) c.args.enter)

pub returns-clause-wide : goal.returns-clause-wide
returns-clause-wide c = λ ne.
    let f = rw (c.requires.scratch, c.cols-n.ensures.count, c.rows-m.ensures.count) at c.exchange-least.ensures.filled in
    let le : c.exchange-least.result ≤ width c.args.matrix.now = elim f.last [
      | inl h ↦ omega (arith, h.0, c.requires.tableau.placed.order_long)
      | inr w ↦ omega (arith, w.own, c.requires.tableau.placed.order_below (c.args.matrix.now.cols + 1 - 1 + w.i) (omega (arith, w.inside)))
    ] in
    absurd (ne (omega (arith, le, c.if-least-n.false, c.cols-n.ensures.count, c.rows-m.ensures.count)))

pub returns-then-least-n-clause-tableau : goal.returns-then-least-n-clause-tableau
returns-then-least-n-clause-tableau c =
    let same = c.exchange-least.ensures.stay (omega (arith, c.cols-n.ensures.count, c.rows-m.ensures.count, c.requires.tableau.placed.order_long)) in
    subst (λ (rows : List ℤ). IsTableau c.args.matrix.now c.args.at.now c.args.order.now rows) (sym same) c.requires.tableau

pub returns-clause-tableau : goal.returns-clause-tableau
returns-clause-tableau c =
    let h = here c.args.matrix.now c.args.at.now c.args.order.now c.args.rows.now c.args.leave c.args.enter c.requires.tableau c.requires.leave c.requires.inside c.requires.enter in
    let f = rw (c.requires.scratch, c.cols-n.ensures.count, c.rows-m.ensures.count) at c.exchange-least.ensures.filled in
    let le : c.exchange-least.result ≤ width c.args.matrix.now = elim f.last [
      | inl h ↦ omega (arith, h.0, c.requires.tableau.placed.order_long)
      | inr w ↦ omega (arith, w.own, c.requires.tableau.placed.order_below (c.args.matrix.now.cols + 1 - 1 + w.i) (omega (arith, w.inside)))
    ] in
    rw c.cols-n.ensures.count (ok_here c.args.matrix.now c.args.at.now c.args.order.now c.args.rows.now c.exchange-least.new.self c.args.leave c.args.enter
    (slice_index c.args.at.now c.args.leave) (slice_index c.args.at.now c.args.enter - c.args.matrix.now.cols) c.exchange-least.result c.requires.tableau h c.exchange-least.ensures.long f (omega (arith, le, c.if-least-n.false, c.cols-n.ensures.count, c.rows-m.ensures.count))).0
