use Rattle.crn_document.proofs.Prelude.{◌≡◌, ◌∷◌, [], List, map, ap, arith, length, refl, Form, err_from_is_err_and, asks, Row, row_form, StopIs, step_exits, stop_first}
use Rattle.crn_document.proofs.Records.{first_row, rows_after, rows_then, no_rows}
use Rattle.crn_document.proofs.rows.+next_rows.Goals as goal

none_of : (f : Row → Form) (rows : List Row) → length rows ≡ 0 → map f rows ≡ []
none_of f [] e = refl
none_of f (r ∷ rs) e = absurd (omega (arith, e))

pub returns-in_err-next_row-in-Some-clause-step : goal.returns-in_err-next_row-in-Some-clause-step
returns-in_err-next_row-in-Some-clause-step g t c =
    let f : Row → Form = row_form c.args.below.now.net.now c.args.below.now.labels.now c.args.below.now.classes in
    let form = f c.in-Some.row.now in
    let forms = map f c.in-Some.rest.now in
    let all = map f c.args.rows.now in
    let is : all ≡ form ∷ forms = ap (λ (rs : List Row). map f rs) c.in-Some.ensures.cases.0 in
    step_exits _ _ c.from_residual.result _ c.args.at.now c.next_row.new.at _ _ (err_from_is_err_and c.from_residual.result c.from_residual.ensures.1)
    (first_row (λ d. StopIs d c.in_err-next_row-in-Some.field-0.0 c.args.at.now (g.S.Source.seen c.args.source.now) (g.S.Source.seen c.next_row.new.source)) c.args.at.now.version c.args.at.now.line form forms all is
    (stop_first (asks c.args.at.now.version c.args.at.now.line _ (form ∷ [])) (rows_after c.args.at.now.version c.args.at.now.line forms) c.in_err-next_row-in-Some.field-0.0 _ _ _ c.in_err-next_row-in-Some.ensures.step))

pub returns-in-None-clause-step : goal.returns-in-None-clause-step
returns-in-None-clause-step g t c =
    let f : Row → Form = row_form c.args.below.now.net.now c.args.below.now.labels.now c.args.below.now.classes in
    no_rows c.args.at.now.version c.args.at.now.line (map f c.args.rows.now) c.args.at.now c.args.into.now (g.S.Source.seen c.args.source.now) (none_of f c.args.rows.now c.in-None.ensures.cases)

pub returns-in_ok-next_row-in-Some-clause-step : goal.returns-in_ok-next_row-in-Some-clause-step
returns-in_ok-next_row-in-Some-clause-step g t c =
    let f : Row → Form = row_form c.args.below.now.net.now c.args.below.now.labels.now c.args.below.now.classes in
    let form = f c.in-Some.row.now in
    let forms = map f c.in-Some.rest.now in
    let all = map f c.args.rows.now in
    let is : all ≡ form ∷ forms = ap (λ (rs : List Row). map f rs) c.in-Some.ensures.cases.0 in
    let s = c.in_ok-next_row-in-Some.ensures.step in
    rows_then c.args.at.now.version c.args.at.now.line form forms all s.0 c.args.into.now c.next_row.new.into c.next_rows.new.into c.next_rows.result c.args.at.now c.next_row.new.at c.next_rows.new.at _ _ _ is c.next_row.ensures.version c.in_ok-next_row-in-Some.ensures.line s.1 s.2 s.3 c.next_rows.ensures.step
