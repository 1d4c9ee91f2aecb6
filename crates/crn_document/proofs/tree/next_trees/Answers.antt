use Rattle.crn_document.proofs.Prelude.{◌≡◌, [], ◌∷◌, sym, ap, subst, ℕ, OnOk, IsTrueOf, problems_by, Plain, Concordance, asked, shown_by_tree, tree_place, IsReadyFor, known_of, StepIs, problem_in, asks_trees}
use Rattle.crn_ctree.specs.declared.problem.InfluenceTable.TheVariants.{Strong}
use Rattle.crn_document.proofs.TreesBelow.{other_question, trees_one}
use Rattle.crn_document.proofs.tree.next_trees.Goals as goal

pub next_signal_trees-requires-clause-ready : goal.next_signal_trees-requires-clause-ready
next_signal_trees-requires-clause-ready g c = subst (λ (q : ℕ). IsReadyFor c.args.net.now q c.args.checked.now) c.if-question-eq13.true c.requires.ready

pub returns-then-question-eq13-clause-step : goal.returns-then-question-eq13-clause-step
returns-then-question-eq13-clause-step g c =
    let known = known_of c.args.net.now c.args.checked.now.facts.earlier in
    subst (λ (q : ℕ). StepIs (asks_trees c.args.at.now.version c.args.table.now (problems_by (asked q) known (tree_place q)) c.args.at.now.line) (λ t line. line ≡ c.next_signal_trees.new.at.line) c.next_signal_trees.result c.args.at.now c.next_signal_trees.new.at (g.S.Source.seen c.args.source.now) (g.S.Source.seen c.next_signal_trees.new.source)) (sym c.if-question-eq13.true) c.next_signal_trees.ensures.step

pub returns-then-question-eq13-clause-shown : goal.returns-then-question-eq13-clause-shown
returns-then-question-eq13-clause-shown g c = subst (λ (q : ℕ). OnOk c.next_signal_trees.result (IsTrueOf c.args.net.now (asked q) (shown_by_tree (asked q)))) (sym c.if-question-eq13.true) c.next_signal_trees.ensures.shown

pub returns-then-question-eq14-clause-step : goal.returns-then-question-eq14-clause-step
returns-then-question-eq14-clause-step g c =
    let net = c.args.net.now in
    let known = known_of net c.args.checked.now.facts.earlier in
    let p = problem_in net (Concordance Plain) in
    let is : problems_by (asked c.args.question) known (tree_place c.args.question) ≡ p ∷ [] = ap (λ (q : ℕ). problems_by (asked q) known (tree_place q)) c.if-question-eq14.true in
    trees_one c.args.at.now.version c.args.at.now.line c.args.table.now p (problems_by (asked c.args.question) known (tree_place c.args.question)) _ c.next_tree.result c.args.at.now c.next_tree.new.at _ _ is c.next_tree.ensures.step

pub returns-then-question-eq14-clause-shown : goal.returns-then-question-eq14-clause-shown
returns-then-question-eq14-clause-shown g c = subst (λ (q : ℕ). OnOk c.next_tree.result (IsTrueOf c.args.net.now (asked q) (shown_by_tree (asked q)))) (sym c.if-question-eq14.true) c.next_tree.ensures.shown

pub returns-clause-step : goal.returns-clause-step
returns-clause-step g c =
    let net = c.args.net.now in
    let known = known_of net c.args.checked.now.facts.earlier in
    let other = other_question c.args.question c.requires.tree c.if-question-eq13.false c.if-question-eq14.false in
    let p = problem_in net (Concordance Strong) in
    let is : problems_by (asked c.args.question) known (tree_place c.args.question) ≡ p ∷ [] = ap (λ (q : ℕ). problems_by (asked q) known (tree_place q)) other in
    trees_one c.args.at.now.version c.args.at.now.line c.args.table.now p (problems_by (asked c.args.question) known (tree_place c.args.question)) _ c.next_tree-2.result c.args.at.now c.next_tree-2.new.at _ _ is c.next_tree-2.ensures.step

pub returns-clause-shown : goal.returns-clause-shown
returns-clause-shown g c =
    let other = other_question c.args.question c.requires.tree c.if-question-eq13.false c.if-question-eq14.false in
    subst (λ (q : ℕ). OnOk c.next_tree-2.result (IsTrueOf c.args.net.now (asked q) (shown_by_tree (asked q)))) (sym other) c.next_tree-2.ensures.shown
