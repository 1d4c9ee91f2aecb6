use Rattle.crn_document.proofs.Prelude.{◌≡◌, ◌++◌, ◌∷◌, ◌∙◌, [], Ok, Err, Bool, List, refl, sym, subst, ap, err_from_is_err_and, shown_by_tree, tree_place, Problem, has_tree, problems_by, asked, IsAfter, after_at, end_course, tests_course, known_of, StepIs, step_exits, stop_first, tests_give}
use Rattle.crn_document.proofs.Blocks.{vector_shown, block_then, block_shown, read_small}
use Rattle.crn_document.proofs.TreesBelow.{no_tree_below, tree_below, trees_none}
use Rattle.crn_document.proofs.block.end_block.Goals as goal

pub number_of-requires : goal.number_of-requires
number_of-requires g c = read_small c.requires.read

pub accept_shown-requires-clause-vector : goal.accept_shown-requires-clause-vector
accept_shown-requires-clause-vector g c = λ is.
    let r = c.requires.read in
    vector_shown c.args.net.now c.args.checked.now.facts.earlier c.args.block.now.question c.args.block.now.head.now is (sym c.number_of.ensures ∙ (c.ends_in_tree.ensures.some c.if-ends_in_tree.true).1) r.holds

pub returns-in_err-accept_shown-clause-step : goal.returns-in_err-accept_shown-clause-step
returns-in_err-accept_shown-clause-step g c = λ h rs blocks b.
    let at = c.args.at.now in
    let earlier = c.args.checked.now.facts.earlier in
    let n = c.args.block.now.question in
    let new = earlier ++ (asked n, shown_by_tree (asked n)) ∷ [] in
    let before = g.S.Source.seen c.args.source.now in
    let now = g.S.Source.seen c.accept_shown.new.source in
    let e = c.in_err-accept_shown.field-0.0 in
    let some = c.ends_in_tree.ensures.some c.if-ends_in_tree.true in
    let one = sym c.number_of.ensures ∙ some.1 in
    let y = block_shown c.requires.read b new some.0 one refl in
    step_exits _ _ _ e _ _ _ _ (err_from_is_err_and _ c.from_residual.ensures.1)
    (block_then at c.requires.read b new (tree_place n) c.args.table.now blocks (Err e) c.accept_shown.new.at before now (sym one) y.0
    (tests_give (tests_course c.args.net.now earlier n c.args.block.now.line h rs) tt at.line at.lines before.left y.1) c.in_err-accept_shown.ensures.step)

pub returns-then-ends_in_tree-clause-step : goal.returns-then-ends_in_tree-clause-step
returns-then-ends_in_tree-clause-step g c = λ h rs blocks b.
    let table = c.args.table.now in
    let at = c.args.at.now in
    let last = c.accept_shown.new.at in
    let net = c.args.net.now in
    let earlier = c.args.checked.now.facts.earlier in
    let new = c.accept_shown.new.checked.facts.earlier in
    let n = c.args.block.now.question in
    let line = c.args.block.now.line in
    let before = g.S.Source.seen c.args.source.now in
    let now = g.S.Source.seen c.accept_shown.new.source in
    let some = c.ends_in_tree.ensures.some c.if-ends_in_tree.true in
    let one = sym c.number_of.ensures ∙ some.1 in
    let y = block_shown c.requires.read b new some.0 one c.in_ok-accept_shown.ensures.accepted in
    subst (λ (t : Bool). StepIs (end_course at.version table (asked n) (after_at net earlier line blocks) h rs) (λ (u : Unit {0}) y. IsAfter net new t last.line y) (Ok tt) at last before now) (tree_below n some.0 (known_of net earlier))
    (block_then at c.requires.read b new (tree_place n) table blocks (Ok tt) last before now (sym one) y.0
    (tests_give (tests_course net earlier n line h rs) tt at.line at.lines before.left y.1) c.in_ok-accept_shown.ensures.step)

pub accept-requires-clause-treeless : goal.accept-requires-clause-treeless
accept-requires-clause-treeless g c = λ tree one. c.ends_in_tree.ensures.none c.if-ends_in_tree.false tree (c.number_of.ensures ∙ one)

pub returns-in_err-accept-clause-step : goal.returns-in_err-accept-clause-step
returns-in_err-accept-clause-step g c = λ h rs blocks b.
    let before = g.S.Source.seen c.args.source.now in
    let e = c.in_err-accept.field-0.0 in
    let a = c.in_err-accept.ensures.step in
    step_exits _ _ _ e _ _ _ _ (err_from_is_err_and _ c.from_residual-in_err-accept.ensures.1)
    (stop_first (tests_course c.args.net.now c.args.checked.now.facts.earlier c.args.block.now.question c.args.block.now.line h rs) _ e c.args.at.now before before (a h rs before b))

pub returns-clause-step : goal.returns-clause-step
returns-clause-step g c = λ h rs blocks b.
    let table = c.args.table.now in
    let at = c.args.at.now in
    let net = c.args.net.now in
    let earlier = c.args.checked.now.facts.earlier in
    let new = c.accept.new.checked.facts.earlier in
    let n = c.args.block.now.question in
    let place = c.number_of.result in
    let before = g.S.Source.seen c.args.source.now in
    let read = c.requires.read in
    let a = c.in_ok-accept.ensures.step in
    let t = a h rs before b in
    let nothing : problems_by (asked n) (known_of net earlier) place ≡ [] = no_tree_below n read.built (known_of net earlier) place (c.ends_in_tree.ensures.none c.if-ends_in_tree.false) in
    subst (λ (u : Bool). StepIs (end_course at.version table (asked n) (after_at net earlier c.args.block.now.line blocks) h rs) (λ (v : Unit {0}) y. IsAfter net new u at.line y) (Ok tt) at at before before) (ap (λ (ps : List {1} Problem). has_tree ps) nothing)
    (block_then at read b new place table blocks (Ok tt) at before before c.number_of.ensures t.1 t.2
    (trees_none at.version table (problems_by (asked n) (known_of net earlier) place) at before nothing))

pub returns-then-ends_in_tree-clause-plain : goal.returns-then-ends_in_tree-clause-plain
returns-then-ends_in_tree-clause-plain g c = λ none. absurd (none (c.ends_in_tree.ensures.some c.if-ends_in_tree.true).0)
