use Rattle.crn_cert.proofs.Prelude.{◌≡◌, ◌∙◌, ◌++◌, List, map, take, ap, sym, subst, append_assoc, take_all, arith, ℤ, cuts_of, AreNumbered, cuts_listed}
use Rattle.crn_cert.specs.Preorder.{listed}
use Rattle.crn_cert.proofs.ShareTables.{cuts_node, cuts_all}
use Rattle.crn_cert.proofs.share.Numbered.add_tree.Goals as goal

pub loop-node-preserved : goal.loop-node-preserved
loop-node-preserved c =
    let made = c.add_node.new.self in
    let nodes = c.nodes-node-items.result.now in
    let before = cuts_listed (map listed (take c.loop-node.node-index nodes)) in
    let more = cuts_node nodes c.loop-node.node-index c.node-item.result c.loop-node-test.true c.node-item.is in
    record {
      few = c.in_ok-add_node.ensures.few;
      added = λ us h.
          subst (AreNumbered made.lists.set.keys made.leaf.list) (append_assoc us before _ ∙ ap (λ (cuts : List (List ℤ)). us ++ cuts) (sym more))
          (c.in_ok-add_node.ensures.added (us ++ before) (c.loop-node.invariant.added us h));
    }

pub returns-clause-added : goal.returns-clause-added
returns-clause-added c us h =
    let made = c.loop-node.self in
    let nodes = c.nodes-node-items.result.now in
    let all : take c.loop-node.node-index nodes ≡ nodes = take_all c.loop-node.node-index nodes (omega (arith, c.loop-node-test.false)) in
    let cuts : cuts_listed (map listed (take c.loop-node.node-index nodes)) ≡ cuts_of c.args.tree.now =
    ap (λ ns. cuts_listed (map listed ns)) all ∙ ap cuts_listed c.nodes-node-items.ensures ∙ cuts_all c.args.tree.now in
    subst (AreNumbered made.lists.set.keys made.leaf.list) (ap (λ (cuts : List (List ℤ)). us ++ cuts) cuts) (c.loop-node.invariant.added us h)
