use Rattle.crn_sign.proofs.Prelude.{refl, Signed, Listing}
use Rattle.crn_sign.proofs.Walks.{has_tree, search_end}
use Rattle.crn_sign.proofs.walk.search.Goals as goal

pub end_of-requires : goal.end_of-requires
end_of-requires g c = λ on.
    let w : Signed = g.P.SignProblem.signed c.args.problem.now in
    let h = c.in_ok-end.ensures in
    let old : Listing = record { nodes = c.in_ok-nodes.nodes; keeps = c.args.keeps } in
    has_tree w c.args.budget h.0 old c.visit_all.new.listing c.in_ok-end.end on c.in_ok-nodes.ensures.items h.1

pub returns : goal.returns
returns g c =
    let w : Signed = g.P.SignProblem.signed c.args.problem.now in
    let h = c.in_ok-end.ensures in
    let old : Listing = record { nodes = c.in_ok-nodes.nodes; keeps = c.args.keeps } in
    search_end w c.args.budget h.0 c.args.keeps old c.visit_all.new.listing c.in_ok-end.end c.end_of.result c.end_of.ensures refl c.in_ok-nodes.ensures.items h.1
