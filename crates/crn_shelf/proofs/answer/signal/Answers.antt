use Rattle.crn_shelf.proofs.Prelude.{true, inl, length, refl, sym, subst, ◌∙◌, arith, pos, IsTrue, negative, false≢true, ints, reaction_system, HasNoSignal, Shape, signals, IsSearchEnd, Found, Spent, Answer, Earlier, IsOpen, Q13, PassForSignals, IsAnswer, HasFewNodes, GiveVector, ListSignalVisits, EndsFor, IsFoundAnswer, IsStopAnswer, IsForNegative, if_ok}
use Rattle.crn_shelf.proofs.Answered.{found_is, found_has_signal, one_is, spent_is, stopped, stops_for, few_one, classes_by, no_signal, found_visits, stop_visits, visits_one}
use Rattle.crn_shelf.proofs.Budgets.{found_within, refuted_within, stop_open, open_is_no_yes, found_is_first}
use Rattle.crn_shelf.proofs.answer.signal.Goals as goal

pub new-requires-clause-classes : goal.new-requires-clause-classes
new-requires-clause-classes c =
    let s = c.args.strong.now in
    classes_by c.args.net.now s.count s.terminal s.label.list s.exit.list c.as_slice-labels.result.now c.as_slice-exits.result.now c.as_slice-labels.ensures c.as_slice-exits.ensures c.requires.strong

pub search_over-requires-clause-species : goal.search_over-requires-clause-species
search_over-requires-clause-species c = c.in_ok-shape.ensures.shape.species

pub by_negative-requires-clause-tree : goal.by_negative-requires-clause-tree
by_negative-requires-clause-tree c =
    let net = c.args.net.now in
    let u : Shape = c.in_ok-shape.shape in
    (u, c.in_ok-shape.ensures, subst (IsSearchEnd (signals u (reaction_system net)) c.args.budget) c.in-Ok-Refuted.field-0-is c.in-Ok-Refuted.ensures)

pub by_negative-requires-clause-weak : goal.by_negative-requires-clause-weak
by_negative-requires-clause-weak c = c.requires.weak.0 c.if-weak.true

pub returns-in-Ok-Found-clause-answer : goal.returns-in-Ok-Found-clause-answer
returns-in-Ok-Found-clause-answer c =
    let net = c.args.net.now in
    let g = c.args.g.now in
    let s = c.args.strong.now in
    let f = c.in-Ok-Found in
    if_ok (IsFoundAnswer (pos 1) s.terminal (length net.names) c.as_slice.result.now f.a.list f.b.list)
    (λ (answer : Answer). (earlier : Earlier) → GiveVector net earlier g c.args.weak → IsAnswer net c.args.budget earlier Q13 answer) c.found_answer.result
    (λ answer h earlier v. found_is net earlier g c.args.weak (pos 1) c.args.budget s.count s.terminal s.label.list s.exit.list c.as_slice.result.now f.pattern f.a f.b answer c.species.ensures.network c.requires.regular c.requires.line c.requires.vector c.requires.strong
    (inl refl) (λ t. absurd (omega (arith, ints, t))) c.requires.vector.confluence v c.as_slice.ensures (c.in_ok-shape.shape, c.in_ok-shape.ensures, subst (IsSearchEnd (signals c.in_ok-shape.shape (reaction_system net)) c.args.budget) f.field-0-is f.ensures) h)
    c.found_answer.ensures

pub returns-then-weak-clause-answer : goal.returns-then-weak-clause-answer
returns-then-weak-clause-answer c =
    let net = c.args.net.now in
    let g = c.args.g.now in
    if_ok (λ (answer : Answer). (earlier : Earlier) → GiveVector net earlier g true → IsAnswer net c.args.budget earlier Q13 answer)
    (λ (answer : Answer). (earlier : Earlier) → GiveVector net earlier g c.args.weak → IsAnswer net c.args.budget earlier Q13 answer) c.by_negative.result
    (λ answer h earlier v. h earlier (subst (GiveVector net earlier g) c.if-weak.true v)) c.by_negative.ensures.answer

pub returns-else-weak-clause-answer : goal.returns-else-weak-clause-answer
returns-else-weak-clause-answer c =
    let net = c.args.net.now in
    λ earlier v. subst (IsAnswer net c.args.budget earlier Q13) (sym c.one_answer.ensures)
    (one_is net earlier c.args.g.now c.args.weak c.args.budget c.in-Ok-Refuted.tree c.species.ensures.network c.requires.regular c.requires.line c.requires.vector c.requires.weak.1 (λ t. false≢true (sym c.if-weak.false ∙ t)) v (c.in_ok-shape.shape, c.in_ok-shape.ensures, subst (IsSearchEnd (signals c.in_ok-shape.shape (reaction_system c.args.net.now)) c.args.budget) c.in-Ok-Refuted.field-0-is c.in-Ok-Refuted.ensures))

pub returns-else-weak-clause-nodes : goal.returns-else-weak-clause-nodes
returns-else-weak-clause-nodes c =
    subst (λ (a : Answer). HasFewNodes c.args.budget a.proof) (sym c.one_answer.ensures)
    (few_one c.args.net.now c.args.g.now c.args.budget c.in-Ok-Refuted.tree (c.in_ok-shape.shape, c.in_ok-shape.ensures, subst (IsSearchEnd (signals c.in_ok-shape.shape (reaction_system c.args.net.now)) c.args.budget) c.in-Ok-Refuted.field-0-is c.in-Ok-Refuted.ensures))

pub returns-else-weak-clause-visits : goal.returns-else-weak-clause-visits
returns-else-weak-clause-visits c =
    subst (λ (a : Answer). ListSignalVisits c.args.net.now c.args.g.now a.proof) (sym c.one_answer.ensures)
    (visits_one c.args.net.now c.args.g.now c.args.budget c.in-Ok-Refuted.tree (c.in_ok-shape.shape, c.in_ok-shape.ensures, subst (IsSearchEnd (signals c.in_ok-shape.shape (reaction_system c.args.net.now)) c.args.budget) c.in-Ok-Refuted.field-0-is c.in-Ok-Refuted.ensures))

pub returns-in-Ok-Found-clause-visits : goal.returns-in-Ok-Found-clause-visits
returns-in-Ok-Found-clause-visits c =
    let net = c.args.net.now in
    let g = c.args.g.now in
    let f = c.in-Ok-Found in
    if_ok (IsFoundAnswer (pos 1) c.args.strong.now.terminal (length net.names) c.as_slice.result.now f.a.list f.b.list)
    (λ (answer : Answer). ListSignalVisits net g answer.proof) c.found_answer.result
    (λ answer h. found_visits net g (pos 1) c.args.strong.now.terminal (length net.names) c.as_slice.result.now f.a.list f.b.list answer h) c.found_answer.ensures

pub returns-in-Ok-Spent-clause-visits : goal.returns-in-Ok-Spent-clause-visits
returns-in-Ok-Spent-clause-visits c = subst (λ (a : Answer). ListSignalVisits c.args.net.now c.args.g.now a.proof) (sym c.plain.ensures) tt

pub returns-in-Err-clause-visits : goal.returns-in-Err-clause-visits
returns-in-Err-clause-visits c =
    if_ok (IsStopAnswer c.in-Err.stop) (λ (answer : Answer). ListSignalVisits c.args.net.now c.args.g.now answer.proof) c.stop_answer.result
    (λ answer e. stop_visits c.args.net.now c.args.g.now c.in-Err.stop answer e) c.stop_answer.ensures

pub returns-in-Err-clause-answer : goal.returns-in-Err-clause-answer
returns-in-Err-clause-answer c =
    let net = c.args.net.now in
    let g = c.args.g.now in
    let stop = c.in-Err.stop in
    if_ok (IsStopAnswer stop) (λ (answer : Answer). (earlier : Earlier) → GiveVector net earlier g c.args.weak → IsAnswer net c.args.budget earlier Q13 answer) c.stop_answer.result
    (λ answer e earlier v. stopped net earlier g c.args.weak c.args.budget stop answer c.species.ensures.network c.requires.vector.confluence.space.long v (stops_for net g c.in_ok-shape.shape stop c.in_ok-shape.ensures c.in-Err.ensures) e) c.stop_answer.ensures

pub returns-in-Ok-Spent-clause-answer : goal.returns-in-Ok-Spent-clause-answer
returns-in-Ok-Spent-clause-answer c =
    let net = c.args.net.now in
    let g = c.args.g.now in
    let u : Shape = c.in_ok-shape.shape in
    let e : EndsFor net g c.args.budget Spent = (u, c.in_ok-shape.ensures, subst (IsSearchEnd (signals u (reaction_system net)) c.args.budget) c.in-Ok-Spent.field-0-is c.in-Ok-Spent.ensures) in
    λ earlier v. subst (IsAnswer net c.args.budget earlier Q13) (sym c.plain.ensures)
    (spent_is net earlier g c.args.weak c.args.budget c.requires.low c.requires.high v (inl e))

pub returns-in-Ok-Found-clause-spent : goal.returns-in-Ok-Found-clause-spent
returns-in-Ok-Found-clause-spent c =
    let net = c.args.net.now in
    let g = c.args.g.now in
    let f = c.in-Ok-Found in
    if_ok (IsFoundAnswer (pos 1) c.args.strong.now.terminal (length net.names) c.as_slice.result.now f.a.list f.b.list)
    (λ (answer : Answer). PassForSignals net g c.args.budget → IsOpen answer.verdict) c.found_answer.result
    (λ answer h pass. absurd (found_within net g c.args.budget f.pattern f.a f.b (c.in_ok-shape.shape, c.in_ok-shape.ensures, subst (IsSearchEnd (signals c.in_ok-shape.shape (reaction_system net)) c.args.budget) f.field-0-is f.ensures) pass))
    c.found_answer.ensures

pub returns-then-weak-clause-spent : goal.returns-then-weak-clause-spent
returns-then-weak-clause-spent c =
    let net = c.args.net.now in
    let g = c.args.g.now in
    if_ok (λ (answer : Answer). (earlier : Earlier) → GiveVector net earlier g true → IsAnswer net c.args.budget earlier Q13 answer)
    (λ (answer : Answer). PassForSignals net g c.args.budget → IsOpen answer.verdict) c.by_negative.result
    (λ answer h pass. absurd (refuted_within net g c.args.budget c.in-Ok-Refuted.tree (c.in_ok-shape.shape, c.in_ok-shape.ensures, subst (IsSearchEnd (signals c.in_ok-shape.shape (reaction_system net)) c.args.budget) c.in-Ok-Refuted.field-0-is c.in-Ok-Refuted.ensures) pass))
    c.by_negative.ensures.answer

pub returns-else-weak-clause-spent : goal.returns-else-weak-clause-spent
returns-else-weak-clause-spent c =
    let net = c.args.net.now in
    λ pass. absurd (refuted_within net c.args.g.now c.args.budget c.in-Ok-Refuted.tree (c.in_ok-shape.shape, c.in_ok-shape.ensures, subst (IsSearchEnd (signals c.in_ok-shape.shape (reaction_system net)) c.args.budget) c.in-Ok-Refuted.field-0-is c.in-Ok-Refuted.ensures) pass)

pub returns-in-Ok-Spent-clause-spent : goal.returns-in-Ok-Spent-clause-spent
returns-in-Ok-Spent-clause-spent c = λ pass. subst (λ (a : Answer). IsOpen a.verdict) (sym c.plain.ensures) tt

pub returns-in-Err-clause-spent : goal.returns-in-Err-clause-spent
returns-in-Err-clause-spent c =
    if_ok (IsStopAnswer c.in-Err.stop) (λ (answer : Answer). PassForSignals c.args.net.now c.args.g.now c.args.budget → IsOpen answer.verdict) c.stop_answer.result
    (λ answer e pass. stop_open c.in-Err.stop answer e) c.stop_answer.ensures

pub returns-in-Ok-Found-clause-first : goal.returns-in-Ok-Found-clause-first
returns-in-Ok-Found-clause-first c =
    let net = c.args.net.now in
    let g = c.args.g.now in
    let f = c.in-Ok-Found in
    if_ok (IsFoundAnswer (pos 1) c.args.strong.now.terminal (length net.names) c.as_slice.result.now f.a.list f.b.list)
    (λ (answer : Answer). IsForNegative answer.verdict → HasNoSignal net g) c.found_answer.result
    (λ answer h yes. absurd (found_is_first c.args.strong.now.terminal (length net.names) c.as_slice.result.now f.a.list f.b.list answer h yes))
    c.found_answer.ensures

pub returns-then-weak-clause-first : goal.returns-then-weak-clause-first
returns-then-weak-clause-first c =
    let net = c.args.net.now in
    let g = c.args.g.now in
    if_ok (λ (answer : Answer). (earlier : Earlier) → GiveVector net earlier g true → IsAnswer net c.args.budget earlier Q13 answer)
    (λ (answer : Answer). IsForNegative answer.verdict → HasNoSignal net g) c.by_negative.result
    (λ answer h yes. no_signal net g c.args.budget c.in-Ok-Refuted.tree c.species.ensures.network c.requires.regular (c.in_ok-shape.shape, c.in_ok-shape.ensures, subst (IsSearchEnd (signals c.in_ok-shape.shape (reaction_system net)) c.args.budget) c.in-Ok-Refuted.field-0-is c.in-Ok-Refuted.ensures))
    c.by_negative.ensures.answer

pub returns-else-weak-clause-first : goal.returns-else-weak-clause-first
returns-else-weak-clause-first c = λ yes. absurd (subst (λ (a : Answer). IsForNegative a.verdict) c.one_answer.ensures yes)

pub returns-in-Ok-Spent-clause-first : goal.returns-in-Ok-Spent-clause-first
returns-in-Ok-Spent-clause-first c = λ yes. absurd (subst (λ (a : Answer). IsForNegative a.verdict) c.plain.ensures yes)

pub returns-in-Err-clause-first : goal.returns-in-Err-clause-first
returns-in-Err-clause-first c =
    if_ok (IsStopAnswer c.in-Err.stop) (λ (answer : Answer). IsForNegative answer.verdict → HasNoSignal c.args.net.now c.args.g.now) c.stop_answer.result
    (λ answer e yes. absurd (open_is_no_yes answer.verdict (stop_open c.in-Err.stop answer e) yes)) c.stop_answer.ensures

pub returns-in-Ok-Found-clause-second : goal.returns-in-Ok-Found-clause-second
returns-in-Ok-Found-clause-second c =
    let net = c.args.net.now in
    let g = c.args.g.now in
    let f = c.in-Ok-Found in
    let e : EndsFor net g c.args.budget (Found f.pattern f.a f.b) = (c.in_ok-shape.shape, c.in_ok-shape.ensures, subst (IsSearchEnd (signals c.in_ok-shape.shape (reaction_system net)) c.args.budget) f.field-0-is f.ensures) in
    if_ok (IsFoundAnswer (pos 1) c.args.strong.now.terminal (length net.names) c.as_slice.result.now f.a.list f.b.list)
    (λ (answer : Answer). IsTrue c.args.weak → HasNoSignal net g → PassForSignals net (negative g) c.args.budget → IsOpen answer.verdict) c.found_answer.result
    (λ answer h weak none pass. absurd (found_has_signal net g c.args.budget f.pattern f.a f.b c.species.ensures.network c.requires.regular c.requires.vector.confluence e none)) c.found_answer.ensures

pub returns-then-weak-clause-second : goal.returns-then-weak-clause-second
returns-then-weak-clause-second c =
    let net = c.args.net.now in
    let g = c.args.g.now in
    if_ok (λ (answer : Answer). PassForSignals net (negative g) c.args.budget → IsOpen answer.verdict)
    (λ (answer : Answer). IsTrue c.args.weak → HasNoSignal net g → PassForSignals net (negative g) c.args.budget → IsOpen answer.verdict) c.by_negative.result
    (λ answer h weak none pass. h pass) c.by_negative.ensures.spent

pub returns-else-weak-clause-second : goal.returns-else-weak-clause-second
returns-else-weak-clause-second c = λ weak none pass. absurd (false≢true (sym c.if-weak.false ∙ weak))

pub returns-in-Ok-Spent-clause-second : goal.returns-in-Ok-Spent-clause-second
returns-in-Ok-Spent-clause-second c = λ weak none pass. subst (λ (a : Answer). IsOpen a.verdict) (sym c.plain.ensures) tt

pub returns-in-Err-clause-second : goal.returns-in-Err-clause-second
returns-in-Err-clause-second c =
    if_ok (IsStopAnswer c.in-Err.stop) (λ (answer : Answer). IsTrue c.args.weak → HasNoSignal c.args.net.now c.args.g.now → PassForSignals c.args.net.now (negative c.args.g.now) c.args.budget → IsOpen answer.verdict) c.stop_answer.result
    (λ answer e weak none pass. stop_open c.in-Err.stop answer e) c.stop_answer.ensures

pub unreachable-requires : goal.unreachable-requires
unreachable-requires c = subst (IsSearchEnd (signals c.in_ok-shape.shape (reaction_system c.args.net.now)) c.args.budget) c.in-Ok-Infeasible.field-0-is c.in-Ok-Infeasible.ensures
