use Rattle.crn_shelf.proofs.Prelude.{true, inr, length, refl, sym, subst, negsuc, negative, Shape, signals, IsShapeOf, reaction_system, if_ok, negatives_have_opposite_shapes, Answer, Earlier, IsOpen, Q13, PassForSignals, IsAnswer, HasFewNodes, IsSearchEnd, Found, Refuted, Spent, GiveVector, ListSignalVisits, EndsFor, IsFoundAnswer, IsStopAnswer}
use Rattle.crn_shelf.proofs.Answered.{found_is, two_is, spent_is, stopped, stops_for, stops_negative, negative_too, no_signal, few_two, found_visits, stop_visits, visits_one}
use Rattle.crn_shelf.proofs.Budgets.{found_within, refuted_within, stop_open}
use Rattle.crn_shelf.proofs.answer.by_negative.Goals as goal

pub search_over-requires-clause-species : goal.search_over-requires-clause-species
search_over-requires-clause-species c =
    (subst (IsShapeOf c.args.net.now (negative c.args.g.now)) (sym c.negate.ensures) (negatives_have_opposite_shapes c.args.net.now c.args.g.now c.args.shape c.requires.shape)).shape.species

pub returns-in-Ok-Found-clause-answer : goal.returns-in-Ok-Found-clause-answer
returns-in-Ok-Found-clause-answer c =
    let net = c.args.net.now in
    let g = c.args.g.now in
    let s = c.args.strong.now in
    let f = c.in-Ok-Found in
    let n = c.species.ensures.network in
    let u : Shape = c.negate.new.self in
    let e : EndsFor net (negative g) c.args.budget (Found f.pattern f.a f.b) = (u, subst (IsShapeOf net (negative g)) (sym c.negate.ensures) (negatives_have_opposite_shapes net g c.args.shape c.requires.shape), subst (IsSearchEnd (signals u (reaction_system net)) c.args.budget) f.field-0-is f.ensures) in
    if_ok (IsFoundAnswer (negsuc 0) s.terminal (length net.names) c.as_slice.result.now f.a.list f.b.list)
    (λ (answer : Answer). (earlier : Earlier) → GiveVector net earlier g true → IsAnswer net c.args.budget earlier Q13 answer) c.found_answer.result
    (λ answer h earlier v. found_is net earlier g true (negsuc 0) c.args.budget s.count s.terminal s.label.list s.exit.list c.as_slice.result.now f.pattern f.a f.b answer n c.requires.regular c.requires.line c.requires.vector c.requires.strong
    (inr refl) (λ t. refl) (negative_too net g n c.requires.regular c.requires.line c.requires.weak c.requires.vector.confluence) v c.as_slice.ensures e h)
    c.found_answer.ensures

pub returns-in-Ok-Refuted-clause-answer : goal.returns-in-Ok-Refuted-clause-answer
returns-in-Ok-Refuted-clause-answer c =
    let net = c.args.net.now in
    let g = c.args.g.now in
    let r = c.in-Ok-Refuted in
    let u : Shape = c.negate.new.self in
    let e : EndsFor net (negative g) c.args.budget (Refuted r.second) = (u, subst (IsShapeOf net (negative g)) (sym c.negate.ensures) (negatives_have_opposite_shapes net g c.args.shape c.requires.shape), subst (IsSearchEnd (signals u (reaction_system net)) c.args.budget) r.field-0-is r.ensures) in
    λ earlier v. subst (IsAnswer net c.args.budget earlier Q13) (sym c.two_answer.ensures)
    (two_is net earlier g c.args.budget c.args.tree r.second c.species.ensures.network c.requires.regular c.requires.line c.requires.vector v c.requires.tree e)

pub returns-in-Ok-Refuted-clause-nodes : goal.returns-in-Ok-Refuted-clause-nodes
returns-in-Ok-Refuted-clause-nodes c =
    let net = c.args.net.now in
    let g = c.args.g.now in
    let r = c.in-Ok-Refuted in
    let u : Shape = c.negate.new.self in
    let e : EndsFor net (negative g) c.args.budget (Refuted r.second) = (u, subst (IsShapeOf net (negative g)) (sym c.negate.ensures) (negatives_have_opposite_shapes net g c.args.shape c.requires.shape), subst (IsSearchEnd (signals u (reaction_system net)) c.args.budget) r.field-0-is r.ensures) in
    subst (λ (a : Answer). HasFewNodes c.args.budget a.proof) (sym c.two_answer.ensures)
    (few_two net g (negative g) c.args.budget c.args.tree r.second c.requires.tree e)

pub returns-in-Ok-Refuted-clause-visits : goal.returns-in-Ok-Refuted-clause-visits
returns-in-Ok-Refuted-clause-visits c =
    let net = c.args.net.now in
    let g = c.args.g.now in
    let r = c.in-Ok-Refuted in
    let u : Shape = c.negate.new.self in
    let e : EndsFor net (negative g) c.args.budget (Refuted r.second) = (u, subst (IsShapeOf net (negative g)) (sym c.negate.ensures) (negatives_have_opposite_shapes net g c.args.shape c.requires.shape), subst (IsSearchEnd (signals u (reaction_system net)) c.args.budget) r.field-0-is r.ensures) in
    subst (λ (a : Answer). ListSignalVisits net g a.proof) (sym c.two_answer.ensures)
    (visits_one net g c.args.budget c.args.tree c.requires.tree, visits_one net (negative g) c.args.budget r.second e)

pub returns-in-Ok-Found-clause-visits : goal.returns-in-Ok-Found-clause-visits
returns-in-Ok-Found-clause-visits c =
    let net = c.args.net.now in
    let g = c.args.g.now in
    let f = c.in-Ok-Found in
    if_ok (IsFoundAnswer (negsuc 0) c.args.strong.now.terminal (length net.names) c.as_slice.result.now f.a.list f.b.list)
    (λ (answer : Answer). ListSignalVisits net g answer.proof) c.found_answer.result
    (λ answer h. found_visits net g (negsuc 0) c.args.strong.now.terminal (length net.names) c.as_slice.result.now f.a.list f.b.list answer h) c.found_answer.ensures

pub returns-in-Ok-Spent-clause-visits : goal.returns-in-Ok-Spent-clause-visits
returns-in-Ok-Spent-clause-visits c = subst (λ (a : Answer). ListSignalVisits c.args.net.now c.args.g.now a.proof) (sym c.plain.ensures) tt

pub returns-clause-visits : goal.returns-clause-visits
returns-clause-visits c =
    if_ok (IsStopAnswer c.in-Err.stop) (λ (answer : Answer). ListSignalVisits c.args.net.now c.args.g.now answer.proof) c.stop_answer.result
    (λ answer e. stop_visits c.args.net.now c.args.g.now c.in-Err.stop answer e) c.stop_answer.ensures

pub returns-in-Ok-Spent-clause-answer : goal.returns-in-Ok-Spent-clause-answer
returns-in-Ok-Spent-clause-answer c =
    let net = c.args.net.now in
    let g = c.args.g.now in
    let u : Shape = c.negate.new.self in
    let e : EndsFor net (negative g) c.args.budget Spent = (u, subst (IsShapeOf net (negative g)) (sym c.negate.ensures) (negatives_have_opposite_shapes net g c.args.shape c.requires.shape), subst (IsSearchEnd (signals u (reaction_system net)) c.args.budget) c.in-Ok-Spent.field-0-is c.in-Ok-Spent.ensures) in
    λ earlier v. subst (IsAnswer net c.args.budget earlier Q13) (sym c.plain.ensures)
    (spent_is net earlier g true c.args.budget c.requires.low c.requires.high v (inr (c.requires.weak, no_signal net g c.args.budget c.args.tree c.species.ensures.network c.requires.regular c.requires.tree, e)))

pub returns-clause-answer : goal.returns-clause-answer
returns-clause-answer c =
    let net = c.args.net.now in
    let g = c.args.g.now in
    let n = c.species.ensures.network in
    let even = c.requires.vector.confluence.space.long in
    let stop = c.in-Err.stop in
    let h = stops_for net (negative g) c.negate.new.self stop (subst (IsShapeOf net (negative g)) (sym c.negate.ensures) (negatives_have_opposite_shapes net g c.args.shape c.requires.shape)) c.in-Err.ensures in
    if_ok (IsStopAnswer stop) (λ (answer : Answer). (earlier : Earlier) → GiveVector net earlier g true → IsAnswer net c.args.budget earlier Q13 answer) c.stop_answer.result
    (λ answer e earlier v. stopped net earlier g true c.args.budget stop answer n even v (stops_negative net earlier g stop n v.strong_is even h) e) c.stop_answer.ensures

pub returns-in-Ok-Found-clause-spent : goal.returns-in-Ok-Found-clause-spent
returns-in-Ok-Found-clause-spent c =
    let net = c.args.net.now in
    let g = c.args.g.now in
    let f = c.in-Ok-Found in
    let u : Shape = c.negate.new.self in
    let e : EndsFor net (negative g) c.args.budget (Found f.pattern f.a f.b) = (u, subst (IsShapeOf net (negative g)) (sym c.negate.ensures) (negatives_have_opposite_shapes net g c.args.shape c.requires.shape), subst (IsSearchEnd (signals u (reaction_system net)) c.args.budget) f.field-0-is f.ensures) in
    if_ok (IsFoundAnswer (negsuc 0) c.args.strong.now.terminal (length net.names) c.as_slice.result.now f.a.list f.b.list)
    (λ (answer : Answer). PassForSignals net (negative g) c.args.budget → IsOpen answer.verdict) c.found_answer.result
    (λ answer h pass. absurd (found_within net (negative g) c.args.budget f.pattern f.a f.b e pass)) c.found_answer.ensures

pub returns-in-Ok-Refuted-clause-spent : goal.returns-in-Ok-Refuted-clause-spent
returns-in-Ok-Refuted-clause-spent c =
    let net = c.args.net.now in
    let g = c.args.g.now in
    let r = c.in-Ok-Refuted in
    let u : Shape = c.negate.new.self in
    let e : EndsFor net (negative g) c.args.budget (Refuted r.second) = (u, subst (IsShapeOf net (negative g)) (sym c.negate.ensures) (negatives_have_opposite_shapes net g c.args.shape c.requires.shape), subst (IsSearchEnd (signals u (reaction_system net)) c.args.budget) r.field-0-is r.ensures) in
    λ pass. absurd (refuted_within net (negative g) c.args.budget r.second e pass)

pub returns-in-Ok-Spent-clause-spent : goal.returns-in-Ok-Spent-clause-spent
returns-in-Ok-Spent-clause-spent c = λ pass. subst (λ (a : Answer). IsOpen a.verdict) (sym c.plain.ensures) tt

pub returns-clause-spent : goal.returns-clause-spent
returns-clause-spent c =
    if_ok (IsStopAnswer c.in-Err.stop) (λ (answer : Answer). PassForSignals c.args.net.now (negative c.args.g.now) c.args.budget → IsOpen answer.verdict) c.stop_answer.result
    (λ answer e pass. stop_open c.in-Err.stop answer e) c.stop_answer.ensures

pub unreachable-requires : goal.unreachable-requires
unreachable-requires c = subst (IsSearchEnd (signals c.negate.new.self (reaction_system c.args.net.now)) c.args.budget) c.in-Ok-Infeasible.field-0-is c.in-Ok-Infeasible.ensures
