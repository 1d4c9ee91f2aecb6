use Rattle.crn_sign.proofs.Prelude.{◌≡◌, List, Bool, subst, ◌∙◌, Sign, Signed, Listing, AreAsked, IsLeafAt, MayListLeaf}
use Rattle.crn_sign.proofs.PlaceLaws.{level_asked, taken_level}
use Rattle.crn_sign.proofs.walk.arrive.Goals as goal

pub returns-then-by_b-clause-leaf : goal.returns-then-by_b-clause-leaf
returns-then-by_b-clause-leaf g c =
    let w : Signed = g.P.SignProblem.signed c.args.problem.now in
    subst (λ (b : Bool). MayListLeaf w c.args.search.now.prefix.items c.args.listing.now c.is_known_b.new.listing b) c.if-by_b.true c.in_ok-by_b.ensures.leaf

pub returns-then-by_a-clause-leaf : goal.returns-then-by_a-clause-leaf
returns-then-by_a-clause-leaf g c =
    let w : Signed = g.P.SignProblem.signed c.args.problem.now in
    let p = c.args.search.now.prefix.items in
    let mid = c.is_known_b.new.listing in
    let new = c.is_known_a.new.listing in
    let same : mid ≡ c.args.listing.now = subst (λ (b : Bool). MayListLeaf w p c.args.listing.now mid b) c.if-by_b.false c.in_ok-by_b.ensures.leaf in
    let leaf = subst (λ (b : Bool). MayListLeaf w c.is_known_b.new.search.prefix.items mid new b) c.if-by_a.true c.in_ok-by_a.ensures.leaf in
    subst (λ (l : Listing). IsLeafAt w p l new) same (subst (λ (q : List Sign). IsLeafAt w q mid new) c.in_ok-by_b.ensures.place.prefix leaf)

pub returns-clause-leaf : goal.returns-clause-leaf
returns-clause-leaf g c =
    let w : Signed = g.P.SignProblem.signed c.args.problem.now in
    let mid = c.is_known_b.new.listing in
    let new = c.is_known_a.new.listing in
    let first : mid ≡ c.args.listing.now = subst (λ (b : Bool). MayListLeaf w c.args.search.now.prefix.items c.args.listing.now mid b) c.if-by_b.false c.in_ok-by_b.ensures.leaf in
    let second : new ≡ mid = subst (λ (b : Bool). MayListLeaf w c.is_known_b.new.search.prefix.items mid new b) c.if-by_a.false c.in_ok-by_a.ensures.leaf in
    second ∙ first

pub returns-clause-level : goal.returns-clause-level
returns-clause-level g c =
    let w : Signed = g.P.SignProblem.signed c.args.problem.now in
    let t = c.take.ensures in
    taken_level w (g.P.SignProblem.weak c.args.problem.now) c.args.search.now.prefix.items c.look.new.here c.take.new.here t.a t.b t.asked_a t.asked_b (subst (λ (p : List Sign). AreAsked w (g.P.SignProblem.weak c.args.problem.now) p c.look.new.here) c.deref.ensures.value c.look.ensures.asked)

pub returns-clause-asked : goal.returns-clause-asked
returns-clause-asked g c =
    let w : Signed = g.P.SignProblem.signed c.args.problem.now in
    let t = c.take.ensures in
    level_asked w (g.P.SignProblem.weak c.args.problem.now) c.args.search.now.prefix.items c.take.new.here
    (taken_level w (g.P.SignProblem.weak c.args.problem.now) c.args.search.now.prefix.items c.look.new.here c.take.new.here t.a t.b t.asked_a t.asked_b (subst (λ (p : List Sign). AreAsked w (g.P.SignProblem.weak c.args.problem.now) p c.look.new.here) c.deref.ensures.value c.look.ensures.asked))
