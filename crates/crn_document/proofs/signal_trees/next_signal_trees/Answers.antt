use Rattle.crn_document.proofs.Prelude.{◌≡◌, ◌∙◌, [], ℕ, Bool, true, false, Ok, ap, sym, subst, pos, negsuc, err_from_is_err_and, Q4, on, asks_tree, is_yes, signal_problem, signal_problems, known_of, StepIs, step_exits}
use Rattle.crn_document.proofs.Linkages.{on_ok}
use Rattle.crn_document.proofs.SignalTrees.{first_signals, later_signals}
use Rattle.crn_document.proofs.SignalsKnown.{held, none_shown}
use Rattle.crn_document.proofs.TreesBelow.{trees_one, trees_stop, trees_two}
use Rattle.crn_document.proofs.signal_trees.next_signal_trees.Goals as goal

pub returns-in_err-next_signal_tree-clause-step : goal.returns-in_err-next_signal_tree-clause-step
returns-in_err-next_signal_tree-clause-step g c =
    let known = known_of c.args.net.now c.args.checked.now.facts.earlier in
    let weak = is_yes (on known.earlier Q4) in
    let e = c.in_err-next_signal_tree.field-0.0 in
    step_exits _ _ c.from_residual.result e _ _ _ _ (err_from_is_err_and c.from_residual.result c.from_residual.ensures.1)
    (trees_stop c.args.at.now.version c.args.at.now.line c.args.table.now (signal_problem known (pos 1)) (later_signals known weak) (signal_problems known weak) e c.args.at.now _ _ (first_signals known weak) c.in_err-next_signal_tree.ensures.step)

pub is_weak-requires : goal.is_weak-requires
is_weak-requires g c = (held c.args.net.now c.args.checked.now.facts c.requires.ready.known).weak

pub returns-then-is_weak-clause-step : goal.returns-then-is_weak-clause-step
returns-then-is_weak-clause-step g c =
    let known = known_of c.args.net.now c.args.checked.now.facts.earlier in
    let table = c.args.table.now in
    let at = c.args.at.now in
    let mid = c.next_signal_tree.new.at in
    let new = c.next_signal_tree-then-is_weak.new.at in
    let result = c.next_signal_tree-then-is_weak.result in
    let between = g.S.Source.seen c.next_signal_tree.new.source in
    let now = g.S.Source.seen c.next_signal_tree-then-is_weak.new.source in
    let p = signal_problem known (pos 1) in
    let q = signal_problem known (negsuc 0) in
    let weak : is_yes (on known.earlier Q4) ≡ true = sym c.is_weak.ensures ∙ c.if-is_weak.true in
    let s = c.in_ok-next_signal_tree.ensures.step in
    let last = c.next_signal_tree-then-is_weak.ensures.step in
    trees_two at.version at.line table p q (signal_problems known (is_yes (on known.earlier Q4))) s.0 (λ t line. line ≡ new.line) result at mid new _ between now
    (ap (λ (b : Bool). signal_problems known b) weak) s.2 s.3
    (subst (λ (n : ℕ). StepIs (asks_tree at.version table q q.choices [] n) (λ (t : Unit {0}) line. line ≡ new.line) result mid new between now) (sym s.1)
    (subst (λ (v : ℕ). StepIs (asks_tree v table q q.choices [] mid.line) (λ (t : Unit {0}) line. line ≡ new.line) result mid new between now) c.next_signal_tree.ensures.version last))

pub returns-then-is_weak-clause-shown : goal.returns-then-is_weak-clause-shown
returns-then-is_weak-clause-shown g c =
    on_ok c.next_signal_tree-then-is_weak.result _ _ (λ second. none_shown c.args.net.now c.args.checked.now.facts c.requires.ready.known c.requires.vector c.in_ok-next_signal_tree.ensures.shown (λ weak. second)) c.next_signal_tree-then-is_weak.ensures.shown

pub returns-clause-step : goal.returns-clause-step
returns-clause-step g c =
    let known = known_of c.args.net.now c.args.checked.now.facts.earlier in
    let at = c.args.at.now in
    let mid = c.next_signal_tree.new.at in
    let p = signal_problem known (pos 1) in
    let strict : is_yes (on known.earlier Q4) ≡ false = sym c.is_weak.ensures ∙ c.if-is_weak.false in
    trees_one at.version at.line c.args.table.now p (signal_problems known (is_yes (on known.earlier Q4))) (λ (t : Unit {0}) line. line ≡ mid.line) (Ok tt) at mid _ _ (ap (λ (b : Bool). signal_problems known b) strict) c.in_ok-next_signal_tree.ensures.step

pub returns-clause-shown : goal.returns-clause-shown
returns-clause-shown g c =
    let earlier = c.args.checked.now.facts.earlier in
    let strict : is_yes (on earlier Q4) ≡ false = sym c.is_weak.ensures ∙ c.if-is_weak.false in
    none_shown c.args.net.now c.args.checked.now.facts c.requires.ready.known c.requires.vector c.in_ok-next_signal_tree.ensures.shown (λ weak. let same : true ≡ false = sym weak ∙ strict in absurd cc)
