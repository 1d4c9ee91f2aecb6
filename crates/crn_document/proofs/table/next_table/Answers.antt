use Rattle.crn_document.proofs.Prelude.{◌≡◌, ◌∷◌, ◌++◌, ◌∙◌, List, [], arith, ap, refl, Ok, Err, ℤ, err_from_is_err_and, Record, lists, IsTable, MovesBy, step_exits, stops_here}
use Rattle.crn_reading.specs.declared.fault.CheckStop.TheVariants as stop
use Rattle.crn_document.proofs.Tables.{is_second, no_table, table_is, table_stops, table_then}
use Rattle.crn_document.proofs.table.next_table.Goals as goal

pub returns-in_err-table-clause-step : goal.returns-in_err-table-clause-step
returns-in_err-table-clause-step g c = step_exits _ _ c.from_residual.result stop.NoMemory _ _ _ _ (err_from_is_err_and c.from_residual.result c.from_residual.ensures.1) (stops_here c.args.at.now _ c.requires.goes.reads, refl)

pub returns-then-at-eq1-clause-step : goal.returns-then-at-eq1-clause-step
returns-then-at-eq1-clause-step g c =
    let at = c.args.at.now in
    let none : IsTable at at c.in_ok-table.table [] = (omega arith, c.in_ok-table.ensures) in
    no_table (λ t rs. IsTable at at t rs) c.in_ok-table.table at (g.S.Source.seen c.args.source.now) (omega (arith, c.if-at-eq1.true)) none

pub returns-in_err-count-clause-step : goal.returns-in_err-count-clause-step
returns-in_err-count-clause-step g c =
    let second : c.args.at.now.version ≡ 2 = is_second c.args.at.now.version c.requires.goes.version (λ e. omega (arith, e, c.if-at-eq1.false)) in
    step_exits _ _ c.from_residual-in_err-count.result _ _ _ _ _ (err_from_is_err_and c.from_residual-in_err-count.result c.from_residual-in_err-count.ensures.1)
    (table_stops c.in_err-count.field-0.0 c.args.at.now _ _ second c.in_err-count.ensures.step)

pub returns-in_err-next_vectors-clause-step : goal.returns-in_err-next_vectors-clause-step
returns-in_err-next_vectors-clause-step g c =
    let old = c.args.at.now in
    let mid = c.next_count.new.at in
    let new = c.next_vectors.new.at in
    let second : old.version ≡ 2 = is_second old.version c.requires.goes.version (λ e. omega (arith, e, c.if-at-eq1.false)) in
    let s = c.in_ok-count.ensures.step in
    let e = c.in_err-next_vectors.field-0.0 in
    step_exits _ _ c.from_residual-in_err-next_vectors.result e _ _ _ _ (err_from_is_err_and c.from_residual-in_err-next_vectors.result c.from_residual-in_err-next_vectors.ensures.1)
    (table_then {T = Unit {0}} s.0 c.in_ok-count.count (λ t rs. MovesBy mid new rs) (λ t rs. Unit {0}) (Err e) old mid new (g.S.Source.seen c.args.source.now) (g.S.Source.seen c.next_count.new.source) (g.S.Source.seen c.next_vectors.new.source) second c.next_count.ensures.version c.in_ok-count.ensures.line s.1 (λ t rs h. tt) s.2 s.3 c.in_err-next_vectors.ensures.step)

pub returns-clause-step : goal.returns-clause-step
returns-clause-step g c =
    let old = c.args.at.now in
    let mid = c.next_count.new.at in
    let new = c.next_vectors.new.at in
    let second : old.version ≡ 2 = is_second old.version c.requires.goes.version (λ e. omega (arith, e, c.if-at-eq1.false)) in
    let s = c.in_ok-count.ensures.step in
    let t = c.in_ok-next_vectors.ensures.step in
    let kept : List (List ℤ) = c.next_vectors.new.table in
    let lists_are : kept ≡ lists t.0 = t.1.1 ∙ ap (λ (x : List (List ℤ)). x ++ lists t.0) c.in_ok-table.ensures in
    let moves : MovesBy mid new t.0 = t.1.0 in
    let more : (u : Unit {0}) (rs : List Record) → (rs ≡ t.0) → IsTable old new kept (s.0 ∷ rs) = λ u rs same. table_is old mid new kept s.0 t.0 rs same moves lists_are c.in_ok-count.ensures.line in
    let r = table_then {T = Unit {0}} s.0 c.in_ok-count.count (λ u rs. rs ≡ t.0) (λ u rs. IsTable old new kept rs) (Ok tt) old mid new (g.S.Source.seen c.args.source.now) (g.S.Source.seen c.next_count.new.source) (g.S.Source.seen c.next_vectors.new.source) second c.next_count.ensures.version c.in_ok-count.ensures.line s.1 more s.2 s.3 (t.0, refl, t.2, t.3) in
    r
