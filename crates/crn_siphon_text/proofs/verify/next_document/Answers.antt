use Rattle.crn_siphon_text.proofs.Prelude.{Ok, Err, refl, err_from_is_err_and, part_course, last_exits, head_stop, head_then, answer_stops, answer_then, IsOutcomeOf, part}
use Rattle.crn_siphon_text.proofs.verify.next_document.Goals as goal

pub returns-in_err-net : goal.returns-in_err-net
returns-in_err-net g c =
    last_exits (part_course part) IsOutcomeOf c.from_residual.result c.in_err-net.field-0.0 c.args.at.now _ _ (err_from_is_err_and c.from_residual.result c.from_residual.ensures.1)
    (head_stop part c.in_err-net.field-0.0 c.args.at.now _ _ c.in_err-net.ensures.step)

pub returns-in_err-outcome : goal.returns-in_err-outcome
returns-in_err-outcome g c =
    let e = c.in_err-outcome.field-0.0 in
    let mid = c.read_part_head.new.at in
    let s = c.in_ok-net.ensures.step in
    last_exits (part_course part) IsOutcomeOf c.from_residual-in_err-outcome.result e c.args.at.now _ _ (err_from_is_err_and c.from_residual-in_err-outcome.result c.from_residual-in_err-outcome.ensures.1)
    (head_then part IsOutcomeOf c.in_ok-net.net s.0 (Err e) c.args.at.now mid _ _ _ s.1 s.2 s.3
    (answer_stops part c.in_ok-net.net e mid _ _ c.in_err-outcome.ensures.step))

pub returns-in_err-next_end : goal.returns-in_err-next_end
returns-in_err-next_end g c =
    let e = c.in_err-next_end.field-0.0 in
    let net = c.in_ok-net.net in
    let outcome = c.in_ok-outcome.outcome in
    let mid = c.read_part_head.new.at in
    let s = c.in_ok-net.ensures.step in
    let t = c.in_ok-outcome.ensures.step in
    last_exits (part_course part) IsOutcomeOf c.from_residual-in_err-next_end.result e c.args.at.now _ _ (err_from_is_err_and c.from_residual-in_err-next_end.result c.from_residual-in_err-next_end.ensures.1)
    (head_then part IsOutcomeOf net s.0 (Err e) c.args.at.now mid _ _ _ s.1 s.2 s.3
    (answer_then part IsOutcomeOf net outcome t.0 (Err e) mid c.next_answer.new.at _ _ _ t.1 t.2 t.3 (let h = c.in_err-next_end.ensures in h (net, outcome))))

pub returns : goal.returns
returns g c =
    let net = c.in_ok-net.net in
    let outcome = c.in_ok-outcome.outcome in
    let mid = c.read_part_head.new.at in
    let s = c.in_ok-net.ensures.step in
    let t = c.in_ok-outcome.ensures.step in
    head_then part IsOutcomeOf net s.0 (Ok outcome) c.args.at.now mid _ _ _ s.1 s.2 s.3
    (answer_then part IsOutcomeOf net outcome t.0 (Ok outcome) mid c.next_answer.new.at _ _ _ t.1 t.2 t.3 ((net, outcome), refl, (let h = c.in_ok-next_end.ensures in h (net, outcome))))
