use Rattle.crn_graph.proofs.Prelude.{List, sym, subst, Arc, DoLeadBack, AreJoined}
use Rattle.crn_graph.proofs.Joined.{arcs_return, joined}
use Rattle.crn_graph.proofs.forests.forest.Goals as goal

pub label_all-count-requires-clause-returning : goal.label_all-count-requires-clause-returning
label_all-count-requires-clause-returning c =
    arcs_return c.in_ok-graph.graph.arcs (subst DoLeadBack (sym c.in_ok-graph.ensures.arcs) c.requires.back)

pub returns : goal.returns
returns c =
    let s = c.label_all-count.new.search in
    let count = c.label_all-count.result in
    let n = c.args.nodes in
    let all = joined c.in_ok-graph.graph.arcs s count n c.label_all-count.ensures.long c.label_all-count.ensures.classes in
    let mine = subst (λ (arcs : List Arc). AreJoined arcs n count s.label.items s.up.items s.depth.items) c.in_ok-graph.ensures.arcs all in
    let label = c.from_vec.ensures.list in
    let up = c.from_vec-2.ensures.list in
    let depth = c.from_vec-3.ensures.list in
    rw (label, up, depth) mine
