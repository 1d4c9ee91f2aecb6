use Rattle.crn_siphon_text.proofs.Prelude.{◌≡◌, ◌+◌, ◌++◌, ℕ, suc, Bool, true, false, List, [], ◌∷◌, length, sym, ap, subst, arith, Ok, ℤ, err_from_is_err_and, length-append, Place, Gives, FailsFirst, StepIs, IsPartSaid, step_exits, stop_first, step_then_is, words, node_forms, node_of, leaf, asks_tree}
use Rattle.crn_siphon_text.proofs.NodesRead.{fork_said}
use Rattle.crn_siphon_text.proofs.TreesRead.{tree_stop, tree_leaf, tree_refused, tree_fork_at, fork_place}
use Rattle.crn_siphon_text.proofs.tree.+tree.Goals.{next_tree-then-place-eq8+else-len-species, next_tree-else-place-eq8}
use Rattle.crn_siphon_text.proofs.tree.+tree.Goals as goal

pub next_child-returns-clause-step : goal.next_child-returns-clause-step
next_child-returns-clause-step g t c = λ more e.
    let p : List Bool = c.args.prefix.now.items in
    let q : List Bool = c.push_reserved.new.self.items in
    let long : length q + more ≡ length c.args.net.now.names = omega (arith, e, ap (λ (l : List Bool). length l) c.push_reserved.ensures.items, length-append p (c.args.is_in ∷ [])) in
    subst (λ (l : List Bool). StepIs {T = Unit {0}} (asks_tree c.args.net.now more l c.args.at.now.line) (λ _ line. line ≡ c.next_tree.new.at.line) (Ok tt) c.args.at.now c.next_tree.new.at (g.S.Source.seen c.args.source.now) (g.S.Source.seen c.next_tree.new.source))
    c.push_reserved.ensures.items (c.in_ok-next_tree.ensures.step more long)

pub next_children-returns-in_err-next_child-clause-step : goal.next_children-returns-in_err-next_child-clause-step
next_children-returns-in_err-next_child-clause-step g t c = λ more e.
    let net = c.args.net.now in
    let p : List Bool = c.args.prefix.now.items in
    step_exits _ _ c.from_residual.result _ _ _ _ _ (err_from_is_err_and c.from_residual.result c.from_residual.ensures.1)
    (stop_first (asks_tree net more (p ++ true ∷ []) c.args.at.now.line) (λ (k : ℕ). asks_tree net more (p ++ false ∷ []) k) _ _ _ _ (c.in_err-next_child.ensures.step more e))

pub next_children-returns-clause-step : goal.next_children-returns-clause-step
next_children-returns-clause-step g t c = λ more e.
    let net = c.args.net.now in
    let p : List Bool = c.args.prefix.now.items in
    let q : List Bool = c.next_child.new.prefix.items in
    let same : q ≡ p = c.in_ok-next_child.ensures.prefix in
    let s = c.in_ok-next_child.ensures.step more e in
    let mid = c.next_child.new.at in
    let new = c.next_child-2.new.at in
    let between = g.S.Source.seen c.next_child.new.source in
    let now = g.S.Source.seen c.next_child-2.new.source in
    let long : length q + suc more ≡ length net.names = omega (arith, e, ap (λ (l : List Bool). length l) same) in
    let there = subst (λ (l : List Bool). StepIs (asks_tree net more (l ++ false ∷ []) mid.line) (λ _ line. line ≡ new.line) c.next_child-2.result mid new between now) same (c.next_child-2.ensures.step more long) in
    let here = subst (λ (k : ℕ). StepIs (asks_tree net more (p ++ false ∷ []) k) (λ _ line. line ≡ new.line) c.next_child-2.result mid new between now) (sym s.1) there in
    step_then_is (asks_tree net more (p ++ true ∷ []) c.args.at.now.line) (λ (k : ℕ). asks_tree net more (p ++ false ∷ []) k) s.0 (λ _ line. line ≡ new.line) c.next_child-2.result c.args.at.now mid new (g.S.Source.seen c.args.source.now) between now s.2 s.3 here

pub next_tree-returns-in_err-place-clause-step : goal.next_tree-returns-in_err-place-clause-step
next_tree-returns-in_err-place-clause-step g t c = λ more e.
    step_exits _ _ c.from_residual.result _ _ _ _ _ (err_from_is_err_and c.from_residual.result c.from_residual.ensures.1)
    (tree_stop c.args.net.now more c.args.prefix.now.items _ c.args.at.now _ _ c.in_err-place.ensures.step)

pub next_tree-returns-then-len-species-clause-step : goal.next_tree-returns-then-len-species-clause-step
next_tree-returns-then-len-species-clause-step g t c = λ more e.
    let net = c.args.net.now in
    let p : List Bool = c.args.prefix.now.items in
    let s = c.in_ok-place.ensures.step in
    let mid = c.next_node.new.at in
    tree_fork_at net more p s.0 c.next_children.result c.args.at.now mid c.next_children.new.at (g.S.Source.seen c.args.source.now) (g.S.Source.seen c.next_node.new.source) (g.S.Source.seen c.next_children.new.source)
    (omega (arith, c.len.ensures, c.species.ensures.count, c.if-len-species.true)) e s.2 s.3
    (fork_said net c.in_ok-place.place mid.numbers.list s.0 (omega arith) s.1) c.in_ok-place.ensures.line c.next_children.ensures.step

pub next_tree-returns-in-Ok-clause-step : goal.next_tree-returns-in-Ok-clause-step
next_tree-returns-in-Ok-clause-step g t c = λ more e.
    let net = c.args.net.now in
    let p : List Bool = c.args.prefix.now.items in
    let s = c.in_ok-place.ensures.step in
    let mid = c.next_node.new.at in
    let said = subst (λ (l : List ℤ). IsPartSaid words (node_forms net) c.in_ok-place.place l s.0) (sym c.as_slice.ensures) s.1 in
    let gives = subst (λ (q : List Bool). (n : ℕ) (at : Place) → Gives (leaf net q n (node_of s.0)) at tt at) c.deref.ensures.value (c.in-Ok.ensures s.0 said) in
    tree_leaf net more p s.0 c.args.at.now mid (g.S.Source.seen c.args.source.now) (g.S.Source.seen c.next_node.new.source) s.2 s.3 gives c.in_ok-place.ensures.line

pub next_tree-returns-in-Err-clause-step : goal.next_tree-returns-in-Err-clause-step
next_tree-returns-in-Err-clause-step g t c = λ more e.
    let net = c.args.net.now in
    let p : List Bool = c.args.prefix.now.items in
    let s = c.in_ok-place.ensures.step in
    let mid = c.next_node.new.at in
    let said = subst (λ (l : List ℤ). IsPartSaid words (node_forms net) c.in_ok-place.place l s.0) (sym c.as_slice.ensures) s.1 in
    let fails = subst (λ (q : List Bool). (n : ℕ) (at : Place) → FailsFirst (leaf net q n (node_of s.0)) at n c.in-Err.code) c.deref.ensures.value (c.in-Err.ensures s.0 said) in
    tree_refused net more c.in-Err.code p s.0 c.args.at.now mid (g.S.Source.seen c.args.source.now) (g.S.Source.seen c.next_node.new.source) s.2 s.3 fails
    (λ fork.
    let eight = fork_place net c.in_ok-place.place mid.numbers.list s.0 s.1 fork in
    elim c.if-place-eq8.branch as (λ _. more ≡ 0) [
      | next_tree-then-place-eq8+else-len-species w ↦ omega (arith, e, w.len.ensures, w.species.ensures.count, w.if-len-species.false)
      | next_tree-else-place-eq8 w ↦ absurd (omega (arith, eight, w.if-place-eq8.false))
    ])
    c.in_ok-place.ensures.goes.reads c.in_ok-place.ensures.line
