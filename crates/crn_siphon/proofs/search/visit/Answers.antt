use Rattle.crn_siphon.proofs.Prelude.{◌++◌, ◌∷◌, [], List, length, ap, subst, ◌∙◌, Node, Fork, Standing, Lists, IsShown, NoneStopsIf}
use Rattle.crn_siphon.proofs.Nodes.{leaf_put}
use Rattle.crn_siphon.proofs.search.visit.Goals as goal

pub returns-in_ok-put_node-in-Stops-clause-answer : goal.returns-in_ok-put_node-in-Stops-clause-answer
returns-in_ok-put_node-in-Stops-clause-answer c = λ p is.
    let known = c.look.new.search.known in
    let leaf = subst (λ (v : Standing). IsShown c.args.net.now p known v) c.in-Stops.is (c.in_ok-leaf.ensures.answer p is) in
    let longer = c.put_node.new.nodes.items in
    let put = subst (λ (l : List Node). Lists known.laws.items longer leaf.0 (length l) (length longer)) c.look.ensures.nodes
    (leaf_put known.laws.items c.look.new.search.nodes.items longer leaf.0 c.in-Stops.leaf c.in_ok-put_node-in-Stops.ensures leaf.2) in
    (leaf.0, leaf.1, put)

pub returns-in_ok-put_node-in-Stops-clause-grown : goal.returns-in_ok-put_node-in-Stops-clause-grown
returns-in_ok-put_node-in-Stops-clause-grown c = record {
  laws = c.in_ok-leaf.ensures.laws;
  nodes = (c.in-Stops.leaf ∷ [], c.in_ok-put_node-in-Stops.ensures ∙ ap (λ (l : List Node). l ++ c.in-Stops.leaf ∷ []) c.look.ensures.nodes);
}

pub returns-in_ok-put_node-in-Stands-clause-answer : goal.returns-in_ok-put_node-in-Stands-clause-answer
returns-in_ok-put_node-in-Stands-clause-answer c = λ p is. (
  subst (λ (v : Standing). IsShown c.args.net.now p c.look.new.search.known v) c.in-Stands.is (c.in_ok-leaf.ensures.answer p is),
  c.in_ok-put_node-in-Stands.ensures ∙ ap (λ (l : List Node). l ++ Fork ∷ []) c.look.ensures.nodes,
)

pub returns-in_ok-put_node-in-Stands-clause-grown : goal.returns-in_ok-put_node-in-Stands-clause-grown
returns-in_ok-put_node-in-Stands-clause-grown c = record {
  laws = c.in_ok-leaf.ensures.laws;
  nodes = (Fork ∷ [], c.in_ok-put_node-in-Stands.ensures ∙ ap (λ (l : List Node). l ++ Fork ∷ []) c.look.ensures.nodes);
}

pub returns-in_ok-put_node-in-Stands-clause-none : goal.returns-in_ok-put_node-in-Stands-clause-none
returns-in_ok-put_node-in-Stands-clause-none c = subst (λ (v : Standing). NoneStopsIf c.args.net.now c.args.place v) c.in-Stands.is c.in_ok-leaf.ensures.none
