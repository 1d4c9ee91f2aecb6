use Rattle.crn_robust_text.proofs.Prelude.{Ok, Err, refl, err_from_is_err_and, part_course, last_exits, head_stop, head_then, answer_stops, answer_then, IsReadAs, part, Verified}
use Rattle.crn_robust_text.proofs.DocumentsRead.{line_told}
use Rattle.crn_robust_text.proofs.verify.next_document.Goals as goal

pub returns-in_err-net-clause-step : goal.returns-in_err-net-clause-step
returns-in_err-net-clause-step g c =
    last_exits (part_course part) IsReadAs c.from_residual.result c.in_err-net.field-0.0 c.args.at.now _ _ (err_from_is_err_and c.from_residual.result c.from_residual.ensures.1)
    (head_stop part c.in_err-net.field-0.0 c.args.at.now _ _ c.in_err-net.ensures.step)

pub returns-in_err-answer-clause-step : goal.returns-in_err-answer-clause-step
returns-in_err-answer-clause-step g c =
    let e = c.in_err-answer.field-0.0 in
    let mid = c.read_part_head.new.at in
    let s = c.in_ok-net.ensures.step in
    last_exits (part_course part) IsReadAs c.from_residual-in_err-answer.result e c.args.at.now _ _ (err_from_is_err_and c.from_residual-in_err-answer.result c.from_residual-in_err-answer.ensures.1)
    (head_then part IsReadAs c.in_ok-net.net s.0 (Err e) c.args.at.now mid _ _ _ s.1 s.2 s.3
    (answer_stops part c.in_ok-net.net e mid _ _ c.in_err-answer.ensures.step))

pub returns-in_err-next_end-clause-step : goal.returns-in_err-next_end-clause-step
returns-in_err-next_end-clause-step g c =
    let e = c.in_err-next_end.field-0.0 in
    let net = c.in_ok-net.net in
    let answer = c.in_ok-answer.answer in
    let mid = c.read_part_head.new.at in
    let s = c.in_ok-net.ensures.step in
    let t = c.in_ok-answer.ensures.step in
    last_exits (part_course part) IsReadAs c.from_residual-in_err-next_end.result e c.args.at.now _ _ (err_from_is_err_and c.from_residual-in_err-next_end.result c.from_residual-in_err-next_end.ensures.1)
    (head_then part IsReadAs net s.0 (Err e) c.args.at.now mid _ _ _ s.1 s.2 s.3
    (answer_then part IsReadAs net answer t.0 (Err e) mid c.next_answer.new.at _ _ _ t.1 t.2 t.3 (let h = c.in_err-next_end.ensures in h (net, answer))))

pub returns-clause-step : goal.returns-clause-step
returns-clause-step g c =
    let net = c.in_ok-net.net in
    let answer = c.in_ok-answer.answer in
    let mid = c.read_part_head.new.at in
    let s = c.in_ok-net.ensures.step in
    let t = c.in_ok-answer.ensures.step in
    let v : Verified = record { net = net; answer = answer; line = c.says_line-line.result } in
    head_then part IsReadAs net s.0 (Ok v) c.args.at.now mid _ _ _ s.1 s.2 s.3
    (answer_then part IsReadAs net answer t.0 (Ok v) mid c.next_answer.new.at _ _ _ t.1 t.2 t.3 ((net, answer), (refl, refl), (let h = c.in_ok-next_end.ensures in h (net, answer))))

pub returns-clause-line : goal.returns-clause-line
returns-clause-line g c =
    let law = line_told c.in_ok-net.net c.in_ok-answer.answer c.in_ok-net.ensures.network c.in_ok-answer.ensures.holds in
    (λ yes. law.0 (c.says_line-line.ensures.0 yes), λ h. c.says_line-line.ensures.1 (law.1 h))
