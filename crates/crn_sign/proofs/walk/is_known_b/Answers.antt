use Rattle.crn_sign.proofs.Prelude.{List, [], ℤ, refl, Signed, ListedCutB}
use Rattle.crn_sign.proofs.PlaceLaws.{cut_of}
use Rattle.crn_sign.proofs.Walks.{appends_none, appends_one, leaf_b}
use Rattle.crn_sign.proofs.walk.is_known_b.Goals as goal

pub returns-in-RuledOut-clause-leaf : goal.returns-in-RuledOut-clause-leaf
returns-in-RuledOut-clause-leaf g c =
    let w : Signed = g.P.SignProblem.signed c.args.problem.now in
    let p = c.args.search.now.prefix.items in
    let old = c.args.listing.now in
    let d = rw c.in-RuledOut.is at c.in_ok-known.ensures.known in
    leaf_b w p d.0 old old (appends_none old (ListedCutB d.0) d.1) (cut_of w.matrix_b c.matrix_b.result.now [] [] (w.kinds_b p) c.args.here.now.asked.items d.0 c.matrix_b.ensures refl c.requires.here.kinds_are d.2)

pub returns-in_ok-list_node-in-RuledOutBy-clause-leaf : goal.returns-in_ok-list_node-in-RuledOutBy-clause-leaf
returns-in_ok-list_node-in-RuledOutBy-clause-leaf g c =
    let w : Signed = g.P.SignProblem.signed c.args.problem.now in
    let p = c.args.search.now.prefix.items in
    let u : List ℤ = c.in-RuledOutBy.u.value.list in
    let d = rw c.in-RuledOutBy.is at c.in_ok-known.ensures.known in
    leaf_b w p u c.args.listing.now c.list_node.new.listing (appends_one c.args.listing.now c.list_node.new.listing _ (ListedCutB u) refl c.in_ok-list_node-in-RuledOutBy.ensures.keeps c.in_ok-list_node-in-RuledOutBy.ensures.nodes) (cut_of w.matrix_b c.matrix_b.result.now [] [] (w.kinds_b p) c.args.here.now.asked.items u c.matrix_b.ensures refl c.requires.here.kinds_are d)
