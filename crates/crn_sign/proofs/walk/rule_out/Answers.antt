use Rattle.crn_sign.proofs.Prelude.{◌≡◌, Bool, List, [], ℤ, ◌∙◌, refl, sym, subst, Sign, Signed, SolvesA, SolvesB, IsSmallCut, Level, Listing, ListedCutA, ListedCutB, IsHere, IsLeafAt, IsLevelUnless, MayListLeaf}
use Rattle.crn_sign.proofs.PlaceLaws.{asked_at, level_asked, level_at}
use Rattle.crn_sign.proofs.Walks.{appends_one, leaf_a, leaf_b}
use Rattle.crn_sign.proofs.walk.rule_out.Goals as goal

pub returns-then-known-clause-leaf : goal.returns-then-known-clause-leaf
returns-then-known-clause-leaf g c =
    let w : Signed = g.P.SignProblem.signed c.args.problem.now in
    let p : List Sign = c.args.search.now.prefix.items in
    subst (λ (b : Bool). MayListLeaf w p c.args.listing.now c.arrive.new.listing b) c.if-known.true c.in_ok-known.ensures.leaf

pub returns-in-Some-clause-leaf : goal.returns-in-Some-clause-leaf
returns-in-Some-clause-leaf g c =
    let w : Signed = g.P.SignProblem.signed c.args.problem.now in
    let p : List Sign = c.args.search.now.prefix.items in
    let mid = c.arrive.new.listing in
    let u : List ℤ = c.in-Some.u.value.list in
    let new = c.list_node.new.listing in
    let same : mid ≡ c.args.listing.now = subst (λ (b : Bool). MayListLeaf w p c.args.listing.now mid b) c.if-known.false c.in_ok-known.ensures.leaf in
    let d = rw c.in-Some.is at c.in_ok-u.ensures.answer in
    let cut = subst (λ (q : List Sign). IsSmallCut w.matrix_b (w.kinds_b q) u) c.in_ok-known.ensures.place.prefix d in
    subst (λ (m : Listing). IsLeafAt w p m new) same (leaf_b w p u mid new (appends_one mid new _ (ListedCutB u) refl c.in_ok-list_node.ensures.keeps c.in_ok-list_node.ensures.nodes) cut)

pub returns-in-Some-2-clause-leaf : goal.returns-in-Some-2-clause-leaf
returns-in-Some-2-clause-leaf g c =
    let w : Signed = g.P.SignProblem.signed c.args.problem.now in
    let p : List Sign = c.args.search.now.prefix.items in
    let mid = c.arrive.new.listing in
    let u : List ℤ = c.in-Some-2.u.value.list in
    let new = c.list_node-in-Some-2.new.listing in
    let same : mid ≡ c.args.listing.now = subst (λ (b : Bool). MayListLeaf w p c.args.listing.now mid b) c.if-known.false c.in_ok-known.ensures.leaf in
    let d = rw c.in-Some-2.is at c.in_ok-u-2.ensures.answer in
    let cut = subst (λ (q : List Sign). IsSmallCut w.matrix_a (w.kinds_a q) u) (c.in_ok-u.ensures.place.prefix ∙ c.in_ok-known.ensures.place.prefix) d in
    subst (λ (m : Listing). IsLeafAt w p m new) same (leaf_a w p u mid new (appends_one mid new _ (ListedCutA u) refl c.in_ok-list_node-2.ensures.keeps c.in_ok-list_node-2.ensures.nodes) cut)

pub returns-clause-leaf : goal.returns-clause-leaf
returns-clause-leaf g c =
    let w : Signed = g.P.SignProblem.signed c.args.problem.now in
    let p : List Sign = c.args.search.now.prefix.items in
    subst (λ (b : Bool). MayListLeaf w p c.args.listing.now c.arrive.new.listing b) c.if-known.false c.in_ok-known.ensures.leaf

pub returns-clause-solved : goal.returns-clause-solved
returns-clause-solved g c =
    let w : Signed = g.P.SignProblem.signed c.args.problem.now in
    let b = rw c.in_default.is at c.in_ok-u.ensures.answer in
    let a = rw c.in_default-2.is at c.in_ok-u-2.ensures.answer in (
      subst (λ (p : List Sign). (x : List ℤ) × SolvesB w p x) c.in_ok-known.ensures.place.prefix b,
      subst (λ (p : List Sign). (x : List ℤ) × SolvesA w p x) (c.in_ok-u.ensures.place.prefix ∙ c.in_ok-known.ensures.place.prefix) a,
    )

pub rule_out_b-requires-clause-here : goal.rule_out_b-requires-clause-here
rule_out_b-requires-clause-here g c =
    let w : Signed = g.P.SignProblem.signed c.args.problem.now in
    let l = subst (λ (b : Bool). IsLevelUnless b w (g.P.SignProblem.weak c.args.problem.now) c.args.search.now.prefix.items c.arrive.new.here) c.if-known.false c.in_ok-known.ensures.level in
    subst (λ (p : List Sign). IsHere w.matrix_b [] (w.kinds_b p) c.arrive.new.here.b) (sym c.in_ok-known.ensures.place.prefix) l.b

pub rule_out_a-requires-clause-here : goal.rule_out_a-requires-clause-here
rule_out_a-requires-clause-here g c =
    let w : Signed = g.P.SignProblem.signed c.args.problem.now in
    let l = subst (λ (b : Bool). IsLevelUnless b w (g.P.SignProblem.weak c.args.problem.now) c.args.search.now.prefix.items c.arrive.new.here) c.if-known.false c.in_ok-known.ensures.level in
    subst (λ (p : List Sign). IsHere w.matrix_a (g.P.SignProblem.weak c.args.problem.now) (w.kinds_a p) c.arrive.new.here.a) (sym (c.in_ok-u.ensures.place.prefix ∙ c.in_ok-known.ensures.place.prefix)) l.a

pub returns-in-Some-clause-asked : goal.returns-in-Some-clause-asked
returns-in-Some-clause-asked g c =
    let w : Signed = g.P.SignProblem.signed c.args.problem.now in
    let p : List Sign = c.args.search.now.prefix.items in
    record {
      a = c.in_ok-known.ensures.asked.a;
      b = asked_at w.matrix_b [] (w.kinds_b p) c.rule_out_b.new.here (subst (λ (r : List Sign). IsHere w.matrix_b [] (w.kinds_b r) c.rule_out_b.new.here) c.in_ok-known.ensures.place.prefix c.in_ok-u.ensures.here);
    }

pub returns-in-Some-2-clause-asked : goal.returns-in-Some-2-clause-asked
returns-in-Some-2-clause-asked g c =
    let w : Signed = g.P.SignProblem.signed c.args.problem.now in
    let p : List Sign = c.args.search.now.prefix.items in
    let l : Level = record { a = c.rule_out_a.new.here; b = c.rule_out_b.new.here; sums = c.arrive.new.here.sums } in
    level_asked w (g.P.SignProblem.weak c.args.problem.now) p l (level_at w (g.P.SignProblem.weak c.args.problem.now) p c.rule_out_b.new.search.prefix.items l (c.in_ok-u.ensures.place.prefix ∙ c.in_ok-known.ensures.place.prefix) c.in_ok-u-2.ensures.here
    (subst (λ (r : List Sign). IsHere w.matrix_b [] (w.kinds_b r) c.rule_out_b.new.here) c.in_ok-known.ensures.place.prefix c.in_ok-u.ensures.here))

pub returns-clause-asked : goal.returns-clause-asked
returns-clause-asked g c =
    let w : Signed = g.P.SignProblem.signed c.args.problem.now in
    let p : List Sign = c.args.search.now.prefix.items in
    let l : Level = record { a = c.rule_out_a.new.here; b = c.rule_out_b.new.here; sums = c.arrive.new.here.sums } in
    level_asked w (g.P.SignProblem.weak c.args.problem.now) p l (level_at w (g.P.SignProblem.weak c.args.problem.now) p c.rule_out_b.new.search.prefix.items l (c.in_ok-u.ensures.place.prefix ∙ c.in_ok-known.ensures.place.prefix) c.in_ok-u-2.ensures.here
    (subst (λ (r : List Sign). IsHere w.matrix_b [] (w.kinds_b r) c.rule_out_b.new.here) c.in_ok-known.ensures.place.prefix c.in_ok-u.ensures.here))

pub returns-clause-level : goal.returns-clause-level
returns-clause-level g c =
    let w : Signed = g.P.SignProblem.signed c.args.problem.now in
    let p : List Sign = c.args.search.now.prefix.items in
    let l : Level = record { a = c.rule_out_a.new.here; b = c.rule_out_b.new.here; sums = c.arrive.new.here.sums } in
    level_at w (g.P.SignProblem.weak c.args.problem.now) p c.rule_out_b.new.search.prefix.items l (c.in_ok-u.ensures.place.prefix ∙ c.in_ok-known.ensures.place.prefix) c.in_ok-u-2.ensures.here
    (subst (λ (r : List Sign). IsHere w.matrix_b [] (w.kinds_b r) c.rule_out_b.new.here) c.in_ok-known.ensures.place.prefix c.in_ok-u.ensures.here)
