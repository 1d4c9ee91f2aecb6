use Rattle.crn_solve.proofs.Prelude.{[], List, sym, subst, arith, Answer, first_questions, HaveNodeForEachVisit}
use Rattle.crn_solve.proofs.Solved.{AreLast, AreSolved, answers_counted, one_more, solved_after, two_more, visits_after}
use Rattle.crn_solve.proofs.answers.solve.Goals as goal

pub push-requires : goal.push-requires
push-requires c = let n = answers_counted c.args.net.now c.args.budget [] first_questions c.in_ok-first.first.answers c.in_ok-first.ensures.answers.all in omega (arith, n)

pub push-requires-2 : goal.push-requires-2
push-requires-2 c =
    let n = answers_counted c.args.net.now c.args.budget [] first_questions c.in_ok-first.first.answers c.in_ok-first.ensures.answers.all in
    omega (arith, n, one_more c.in_ok-first.first.answers _ _ c.push.ensures)

pub returns : goal.returns
returns c =
    let net = c.args.net.now in
    let budget = c.args.budget in
    let last : AreLast net budget c.in_ok-on_tables.on_tables.plain c.in_ok-on_tables.on_tables.strong = record { plain = c.in_ok-on_tables.ensures.plain; strong = c.in_ok-on_tables.ensures.strong } in
    let s = solved_after net budget c.in_ok-first.first.answers _ _ c.in_ok-first.ensures.answers last in
    let t = subst (λ (answers : List Answer). AreSolved net budget answers) (sym (two_more c.in_ok-first.first.answers _ _ _ _ c.push.ensures c.push-2.ensures)) s in
    let visits = visits_after net budget c.in_ok-first.first.answers _ _ c.in_ok-first.ensures.answers last in
    let all = subst (HaveNodeForEachVisit net) (sym (two_more c.in_ok-first.first.answers _ _ _ _ c.push.ensures c.push-2.ensures)) visits in
    record { formed = t.formed; valid = t.valid; answered = t.answered; decided = t.decided; nodes = t.nodes; visits = all; spent = t.spent; first = t.first }
