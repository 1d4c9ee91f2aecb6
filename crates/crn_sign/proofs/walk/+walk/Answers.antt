use Rattle.crn_sign.proofs.Prelude.{◌≡◌, ◌+◌, Bool, List, [], ◌∷◌, ◌++◌, length, refl, sym, ◌∙◌, ap, subst, arith, rules, Bits, Flat, Listing, ListedSplitTwo, ListedSplitThree, listed, EndsAt, EndsBelow, IsFoundAt, split_node, Sign, Signed, IsFeasible, all_zero, AreAround, AreRoomsBelow, IsLevelUnless, IsSolvedUnless, MayListLeaf}
use Rattle.crn_vec.specs.declared.signs.Sign.TheVariants.{Zero, Plus, Minus}
use Rattle.crn_sign.proofs.PlaceLaws.{asked_around, level_moved, taken_back}
use Rattle.crn_sign.proofs.Walks.{run_out, feasible_from, leaf_flat, leaf_at, AppendsOne, appends_one, found_at, opened_at, child_tree, first_child, second_child, third_child, both_trees}
use Rattle.crn_sign.proofs.walk.+walk.Goals as goal

pub walk-returns-then-search-eq0-clause-answer : goal.walk-returns-then-search-eq0-clause-answer
walk-returns-then-search-eq0-clause-answer g t c = run_out (g.P.SignProblem.signed c.args.problem.now) c.args.search.now.prefix.items c.args.search.now.left (omega arith)

pub walk-returns-then-closed-clause-answer : goal.walk-returns-then-closed-clause-answer
walk-returns-then-closed-clause-answer g t c =
    let w : Signed = g.P.SignProblem.signed c.args.problem.now in
    let p : List Sign = c.args.search.now.prefix.items in
    let old = c.args.listing.now in
    let new = c.list_node.new.listing in
    let one = appends_one old new Flat (listed Flat) refl c.in_ok-list_node.ensures.keeps c.in_ok-list_node.ensures.nodes in
    leaf_at w p c.args.search.now.left _ old new (omega arith) (leaf_flat w p old new one (ap (λ (q : List Sign). w.closed q) (sym c.deref.ensures.value) ∙ sym c.closed.ensures ∙ c.if-closed.true))

pub split-returns-in_default : goal.split-returns-in_default
split-returns-in_default g t c = record {
  prefix = c.in_ok-end.ensures.prefix;
  ready = c.in_ok-end.ensures.ready;
  next = c.in_ok-end.ensures.next;
  rest = c.in_ok-end.ensures.rest;
  answer = first_child (g.P.SignProblem.signed c.args.problem.now) c.args.search.now.prefix.items c.args.search.now.left c.child.new.search.left c.args.listing.now c.list_node.new.listing c.child.new.listing c.in_ok-end.end c.in_default.not-Refuted c.in_ok-end.ensures.answer;
}

pub split-returns-in_default-2 : goal.split-returns-in_default-2
split-returns-in_default-2 g t c =
    let w : Signed = g.P.SignProblem.signed c.args.problem.now in
    let p : List Sign = c.args.search.now.prefix.items in
    let first : Listing = c.child.new.listing in
    let new : Listing = c.child-2.new.listing in
    let z = child_tree w (p ++ Zero ∷ []) c.args.search.now.left c.child.new.search.left c.list_node.new.listing first c.in_ok-end.end c.in_ok-end.ensures.answer c.in-Refuted.is in
    let a = subst (λ (q : List Sign). EndsAt w (q ++ Plus ∷ []) c.child.new.search.left c.child-2.new.search.left first new c.in_ok-end-2.end) c.in_ok-end.ensures.prefix c.in_ok-end-2.ensures.answer in
    record {
      prefix = c.in_ok-end-2.ensures.prefix ∙ c.in_ok-end.ensures.prefix;
      ready = c.in_ok-end-2.ensures.ready;
      next = subst (λ (q : List Sign). AreAround w q c.child-2.new.next) c.in_ok-end.ensures.prefix c.in_ok-end-2.ensures.next;
      rest = subst (λ (q : List Sign). AreRoomsBelow w q c.child-2.new.rest) c.in_ok-end.ensures.prefix c.in_ok-end-2.ensures.rest;
      answer = second_child w p c.args.search.now.left c.child.new.search.left c.child-2.new.search.left c.args.listing.now c.list_node.new.listing first new c.in_ok-end-2.end z c.in_default-2.not-Refuted a;
    }

pub split-returns-then-zeros-clause-answer : goal.split-returns-then-zeros-clause-answer
split-returns-then-zeros-clause-answer g t c =
    let w : Signed = g.P.SignProblem.signed c.args.problem.now in
    let p : List Sign = c.args.search.now.prefix.items in
    let old : Listing = c.args.listing.now in
    let root : Listing = c.list_node.new.listing in
    let first : Listing = c.child.new.listing in
    let new : Listing = c.child-2.new.listing in
    let one : AppendsOne old root ListedSplitTwo = appends_one old root _ ListedSplitTwo (ap listed (c.split_node.ensures ∙ ap split_node c.if-zeros.true)) c.in_ok-list_node.ensures.keeps c.in_ok-list_node.ensures.nodes in
    let z = child_tree w (p ++ Zero ∷ []) c.args.search.now.left c.child.new.search.left root first c.in_ok-end.end c.in_ok-end.ensures.answer c.in-Refuted.is in
    let a = subst (λ (q : List Sign). EndsAt w (q ++ Plus ∷ []) c.child.new.search.left c.child-2.new.search.left first new c.in_ok-end-2.end) c.in_ok-end.ensures.prefix c.in_ok-end-2.ensures.answer in
    let q = child_tree w (p ++ Plus ∷ []) c.child.new.search.left c.child-2.new.search.left first new c.in_ok-end-2.end a c.in-Refuted-2.is in
    both_trees w p c.args.search.now.left c.child.new.search.left c.child-2.new.search.left old root first new one c.requires.room (ap all_zero (sym c.deref.ensures.value) ∙ sym c.is_all_zero-zeros.ensures ∙ c.if-zeros.true) z q

pub split-returns-clause-answer : goal.split-returns-clause-answer
split-returns-clause-answer g t c =
    let w : Signed = g.P.SignProblem.signed c.args.problem.now in
    let p : List Sign = c.args.search.now.prefix.items in
    let old : Listing = c.args.listing.now in
    let root : Listing = c.list_node.new.listing in
    let first : Listing = c.child.new.listing in
    let second : Listing = c.child-2.new.listing in
    let new : Listing = c.child-3.new.listing in
    let one : AppendsOne old root ListedSplitThree = appends_one old root _ ListedSplitThree (ap listed (c.split_node.ensures ∙ ap split_node c.if-zeros.false)) c.in_ok-list_node.ensures.keeps c.in_ok-list_node.ensures.nodes in
    let z = child_tree w (p ++ Zero ∷ []) c.args.search.now.left c.child.new.search.left root first c.in_ok-end.end c.in_ok-end.ensures.answer c.in-Refuted.is in
    let a = subst (λ (q : List Sign). EndsAt w (q ++ Plus ∷ []) c.child.new.search.left c.child-2.new.search.left first second c.in_ok-end-2.end) c.in_ok-end.ensures.prefix c.in_ok-end-2.ensures.answer in
    let q = child_tree w (p ++ Plus ∷ []) c.child.new.search.left c.child-2.new.search.left first second c.in_ok-end-2.end a c.in-Refuted-2.is in
    let b = subst (λ (q : List Sign). EndsAt w (q ++ Minus ∷ []) c.child-2.new.search.left c.child-3.new.search.left second new c.in_ok-end-3.end) (c.in_ok-end-2.ensures.prefix ∙ c.in_ok-end.ensures.prefix) c.in_ok-end-3.ensures.answer in
    third_child w p c.args.search.now.left c.child.new.search.left c.child-2.new.search.left c.child-3.new.search.left old root first second new c.in_ok-end-3.end one c.requires.room (ap all_zero (sym c.deref.ensures.value) ∙ sym c.is_all_zero-zeros.ensures ∙ c.if-zeros.false) z q b

pub split-returns-clause-next : goal.split-returns-clause-next
split-returns-clause-next g t c =
    let w : Signed = g.P.SignProblem.signed c.args.problem.now in
    subst (λ (q : List Sign). AreAround w q c.child-3.new.next) (c.in_ok-end-2.ensures.prefix ∙ c.in_ok-end.ensures.prefix) c.in_ok-end-3.ensures.next

pub split-returns-clause-rest : goal.split-returns-clause-rest
split-returns-clause-rest g t c =
    let w : Signed = g.P.SignProblem.signed c.args.problem.now in
    subst (λ (q : List Sign). AreRoomsBelow w q c.child-3.new.rest) (c.in_ok-end-2.ensures.prefix ∙ c.in_ok-end.ensures.prefix) c.in_ok-end-3.ensures.rest

pub walk-returns-then-ruled-clause-answer : goal.walk-returns-then-ruled-clause-answer
walk-returns-then-ruled-clause-answer g t c =
    let w : Signed = g.P.SignProblem.signed c.args.problem.now in
    let p : List Sign = c.args.search.now.prefix.items in
    let l = subst (λ (b : Bool). MayListLeaf w p c.args.listing.now c.rule_out.new.listing b) c.if-ruled.true c.in_ok-ruled.ensures.leaf in
    leaf_at w p c.args.search.now.left _ c.args.listing.now c.rule_out.new.listing (omega (arith, c.in_ok-ruled.ensures.place.left)) l

pub walk-returns-then-len-length-clause-answer : goal.walk-returns-then-len-length-clause-answer
walk-returns-then-len-length-clause-answer g t c =
    let w : Signed = g.P.SignProblem.signed c.args.problem.now in
    let f = subst (λ (p : List Sign). IsFoundAt w p c.in_ok-found_end.field-0) c.in_ok-ruled.ensures.place.prefix c.in_ok-found_end.ensures.answer in
    found_at w c.args.search.now.prefix.items c.args.search.now.left _ c.args.listing.now c.rule_out.new.listing c.in_ok-found_end.field-0 (omega (arith, c.in_ok-ruled.ensures.place.left, c.in_ok-found_end.ensures.place.left)) f

pub walk-found_end-requires-clause-feasible : goal.walk-found_end-requires-clause-feasible
walk-found_end-requires-clause-feasible g t c =
    let w : Signed = g.P.SignProblem.signed c.args.problem.now in
    let p : List Sign = c.args.search.now.prefix.items in
    let d = subst (λ (b : Bool). IsSolvedUnless b w p) c.if-ruled.false c.in_ok-ruled.ensures.solved in
    let s = feasible_from w p p refl (ap (λ (q : List Sign). w.closed q) (sym c.deref.ensures.value) ∙ sym c.closed.ensures ∙ c.if-closed.false) d.0 d.1 in
    subst (IsFeasible w) (sym c.in_ok-ruled.ensures.place.prefix) s

pub walk-returns-clause-answer : goal.walk-returns-clause-answer
walk-returns-clause-answer g t c =
    let w : Signed = g.P.SignProblem.signed c.args.problem.now in
    let p : List Sign = c.args.search.now.prefix.items in
    let old : Listing = c.args.listing.now in
    let mid : Listing = c.rule_out.new.listing in
    let new : Listing = c.split.new.listing in
    let d = subst (λ (b : Bool). IsSolvedUnless b w p) c.if-ruled.false c.in_ok-ruled.ensures.solved in
    let unlisted : mid ≡ old = subst (λ (b : Bool). MayListLeaf w p old mid b) c.if-ruled.false c.in_ok-ruled.ensures.leaf in
    let same = c.in_ok-ruled.ensures.place.prefix in
    let s = feasible_from w p p refl (ap (λ (q : List Sign). w.closed q) (sym c.deref.ensures.value) ∙ sym c.closed.ensures ∙ c.if-closed.false) d.0 d.1 in
    let b = subst (λ (q : List Sign). EndsBelow w q c.rule_out.new.search.left c.split.new.search.left mid new c.in_ok-end.end) same c.in_ok-end.ensures.answer in
    let e = subst (λ (l : Listing). EndsBelow w p c.rule_out.new.search.left c.split.new.search.left l new c.in_ok-end.end) unlisted b in
    let long : length c.rule_out.new.search.prefix.items ≡ length p = ap (λ (q : List Sign). length q) same in
    let one : c.rule_out.new.search.left + 1 ≡ c.args.search.now.left = omega (arith, c.in_ok-ruled.ensures.place.left) in
    opened_at w p c.args.search.now.left c.rule_out.new.search.left c.split.new.search.left old new c.in_ok-end.end one s (λ (f : length p ≡ w.choices). omega (arith, f, long, c.len.ensures, c.length.ensures.choices, c.if-len-length.false)) e

pub walk-at_level-requires : goal.walk-at_level-requires
walk-at_level-requires g t c =
    let w : Signed = g.P.SignProblem.signed c.args.problem.now in
    let weak = g.P.SignProblem.weak c.args.problem.now in
    let p : List Sign = c.args.search.now.prefix.items in
    level_moved w weak p c.rule_out.new.search.prefix.items c.rule_out.new.here c.in_ok-ruled.ensures.place.prefix (subst (λ (b : Bool). IsLevelUnless b w weak p c.rule_out.new.here) c.if-ruled.false c.in_ok-ruled.ensures.level)

pub child-returns-clause-ready : goal.child-returns-clause-ready
child-returns-clause-ready g t c =
    let same : c.pop.new.self.items ≡ c.args.search.now.prefix.items =
    taken_back c.args.search.now.prefix.items c.walk.new.search.prefix.items c.pop.new.self.items c.args.option _ (c.in_ok-end.ensures.prefix ∙ c.push_reserved.ensures.items) (omega (arith, c.walk.new.search.prefix.ok.0)) c.pop.ensures.rest in record {
      lawful = search rules;
      part_a = search rules;
      part_b = search rules;
      prefix = search rules;
      room = search rules;
    }

pub child-enter-requires-clause-here : goal.child-enter-requires-clause-here
child-enter-requires-clause-here g t c = (c.args.search.now.prefix.items, c.args.option, c.deref.ensures.value ∙ c.push_reserved.ensures.items, c.requires.next, c.requires.sums)

pub child-returns-clause-next : goal.child-returns-clause-next
child-returns-clause-next g t c =
    let w : Signed = g.P.SignProblem.signed c.args.problem.now in
    asked_around w (g.P.SignProblem.weak c.args.problem.now) c.args.search.now.prefix.items _ c.args.option c.walk.new.here c.push_reserved.ensures.items (ap (λ (l : List Bits). length l) c.in_ok-end.ensures.sums ∙ c.enter.ensures.sums.count) c.in_ok-end.ensures.here
