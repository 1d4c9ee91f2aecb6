use Rattle.crn_siphon.proofs.Prelude.{[], ℕ, arith, ap, refl, ◌∙◌, Fact, marks, err_from_is_err_and, Vec, Global, Node, weights_of}
use Rattle.crn_siphon.proofs.Nodes.{same_tree}
use Rattle.crn_siphon.proofs.Stops.{root_place, root_last}
use Rattle.crn_siphon.proofs.EndLaws.{siphon_shown, tree_shown, found_end, refuted_end, spent_end, all_put}
use Rattle.crn_siphon.proofs.answer.visit_root.Goals as goal

pub walk-requires-clause-last : goal.walk-requires-clause-last
walk-requires-clause-last c = root_last c.args.net.now _ refl

pub index-requires : goal.index-requires
index-requires c =
    let h = found_end c.args.search.now c.walk.new.search _ c.in-Found.inside c.in-Found.cover c.in-Found.is (c.in_ok-inside.ensures.answer [] (root_place _ refl refl refl)) in
    omega (arith, h.at.inside, c.walk.new.search.known.covers.ok)

pub returns-in_ok-cover-in-Found : goal.returns-in_ok-cover-in-Found
returns-in_ok-cover-in-Found c =
    let net = c.args.net.now in
    let h = found_end c.args.search.now c.walk.new.search _ c.in-Found.inside c.in-Found.cover c.in-Found.is (c.in_ok-inside.ensures.answer [] (root_place _ refl refl refl)) in
    siphon_shown net c.args.search.now.left c.walk.new.search.left _ c.in_ok-marks-in-Found.marks c.in_ok-cover-in-Found.cover (c.in_ok-marks-in-Found.ensures ∙ ap (λ (n : ℕ). marks c.in-Found.inside n) c.species.ensures.count) h.numbers
    (c.in_ok-cover-in-Found.ensures.list ∙ ap (λ (f : Fact). f.numbers.list) c.index.ensures ∙ (let is = h.at.is in is c.index.result.now)) h.ends

pub new-requires-in-Refuted : goal.new-requires-in-Refuted
new-requires-in-Refuted c =
    let h = refuted_end c.args.search.now c.walk.new.search _ c.in-Refuted.is (c.in_ok-inside.ensures.answer [] (root_place _ refl refl refl)) in
    let nodes = ap (λ (v : Vec Node Global). v.items) c.replace-nodes.ensures.value in
    (h.0, all_put c.args.search.now c.walk.new.search c.deref.result.now c.replace-nodes.result.items (weights_of c.in_ok-laws-in-Refuted.laws.items) h.0 c.deref.ensures.value nodes c.requires.fresh c.in_ok-laws-in-Refuted.ensures h.2)

pub returns-in_ok-laws-in-Refuted : goal.returns-in_ok-laws-in-Refuted
returns-in_ok-laws-in-Refuted c =
    let net = c.args.net.now in
    let h = refuted_end c.args.search.now c.walk.new.search _ c.in-Refuted.is (c.in_ok-inside.ensures.answer [] (root_place _ refl refl refl)) in
    let nodes = ap (λ (v : Vec Node Global). v.items) c.replace-nodes.ensures.value in
    let weights = weights_of c.in_ok-laws-in-Refuted.laws.items in
    let put = all_put c.args.search.now c.walk.new.search c.deref.result.now c.replace-nodes.result.items weights h.0 c.deref.ensures.value nodes c.requires.fresh c.in_ok-laws-in-Refuted.ensures h.2 in
    tree_shown net c.args.search.now.left c.walk.new.search.left h.0 c.new-in-Refuted.result (same_tree c.new-in-Refuted.result h.0 weights c.replace-nodes.result.items c.new-in-Refuted.ensures put) h.1

pub returns-in-Spent : goal.returns-in-Spent
returns-in-Spent c =
    let h = spent_end c.args.search.now c.walk.new.search _ c.in-Spent.is (c.in_ok-inside.ensures.answer [] (root_place _ refl refl refl)) in
    h.passes

pub returns-in_err-inside : goal.returns-in_err-inside
returns-in_err-inside c =
    let p = err_from_is_err_and c.from_residual.result c.from_residual.ensures.1 in
    rw (p.1, p.2) (c.in_err-inside.ensures.answer [] (root_place _ refl refl refl))
