use Rattle.crn_endo_text.proofs.Prelude.{Ok, Err, refl, err_from_is_err_and, part_course, last_exits, head_stop, head_then, answer_stops, answer_then, IsSeenOf, part}
use Rattle.crn_endo_text.proofs.verify.next_document.Goals as goal

pub returns-in_err-net : goal.returns-in_err-net
returns-in_err-net g c =
    last_exits (part_course part) IsSeenOf c.from_residual.result c.in_err-net.field-0.0 c.args.at.now _ _ (err_from_is_err_and c.from_residual.result c.from_residual.ensures.1)
    (head_stop part c.in_err-net.field-0.0 c.args.at.now _ _ c.in_err-net.ensures.step)

pub returns-in_err-seen : goal.returns-in_err-seen
returns-in_err-seen g c =
    let e = c.in_err-seen.field-0.0 in
    let mid = c.read_part_head.new.at in
    let s = c.in_ok-net.ensures.step in
    last_exits (part_course part) IsSeenOf c.from_residual-in_err-seen.result e c.args.at.now _ _ (err_from_is_err_and c.from_residual-in_err-seen.result c.from_residual-in_err-seen.ensures.1)
    (head_then part IsSeenOf c.in_ok-net.net s.0 (Err e) c.args.at.now mid _ _ _ s.1 s.2 s.3
    (answer_stops part c.in_ok-net.net e mid _ _ c.in_err-seen.ensures.step))

pub returns-in_err-next_end : goal.returns-in_err-next_end
returns-in_err-next_end g c =
    let e = c.in_err-next_end.field-0.0 in
    let net = c.in_ok-net.net in
    let seen = c.in_ok-seen.seen in
    let mid = c.read_part_head.new.at in
    let s = c.in_ok-net.ensures.step in
    let t = c.in_ok-seen.ensures.step in
    last_exits (part_course part) IsSeenOf c.from_residual-in_err-next_end.result e c.args.at.now _ _ (err_from_is_err_and c.from_residual-in_err-next_end.result c.from_residual-in_err-next_end.ensures.1)
    (head_then part IsSeenOf net s.0 (Err e) c.args.at.now mid _ _ _ s.1 s.2 s.3
    (answer_then part IsSeenOf net seen t.0 (Err e) mid c.next_answer.new.at _ _ _ t.1 t.2 t.3 (let h = c.in_err-next_end.ensures in h (net, seen))))

pub returns : goal.returns
returns g c =
    let net = c.in_ok-net.net in
    let seen = c.in_ok-seen.seen in
    let mid = c.read_part_head.new.at in
    let s = c.in_ok-net.ensures.step in
    let t = c.in_ok-seen.ensures.step in
    head_then part IsSeenOf net s.0 (Ok seen) c.args.at.now mid _ _ _ s.1 s.2 s.3
    (answer_then part IsSeenOf net seen t.0 (Ok seen) mid c.next_answer.new.at _ _ _ t.1 t.2 t.3 ((net, seen), refl, (let h = c.in_ok-next_end.ensures in h (net, seen))))
