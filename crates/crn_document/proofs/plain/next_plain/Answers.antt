use Rattle.crn_document.proofs.Prelude.{◌∷◌, [], asks_for, IsSaid, IsPlain, plain_form, StepIs, step_says}
use Rattle.crn_document.proofs.Records.{as_expected, row_said}
use Rattle.crn_document.proofs.plain.next_plain.Goals as goal

pub returns-clause-step : goal.returns-clause-step
returns-clause-step g c =
    let e = c.plain_expect-expect.result in
    let form = plain_form c.args.plain in
    let numbers = c.next_record.new.at.numbers.list in
    as_expected (λ d. StepIs d (λ t r. IsPlain c.args.plain numbers r) c.next_record.result c.args.at.now c.next_record.new.at (g.S.Source.seen c.args.source.now) (g.S.Source.seen c.next_record.new.source)) e c.args.at.now.version c.args.at.now.line c.args.after_tree (form ∷ []) c.plain_expect-expect.ensures.due
    (step_says (asks_for e c.args.at.now.line) (λ t r. IsSaid e numbers r) (λ t r. IsPlain c.args.plain numbers r) c.next_record.result c.args.at.now c.next_record.new.at _ _
    (λ t r s. row_said e c.args.at.now.version c.args.after_tree form c.plain_expect-expect.ensures.due c.plain_expect-expect.ensures.untagged r numbers s) c.next_record.ensures.step)
