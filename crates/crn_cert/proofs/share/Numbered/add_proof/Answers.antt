use Rattle.crn_cert.proofs.Prelude.{◌∙◌, ◌++◌, List, ap, sym, subst, append_assoc, ℤ, on_ok_weaker, cuts_of, cuts_in, AreNumbered}
use Rattle.crn_cert.proofs.share.Numbered.add_proof.Goals as goal

pub returns-in_ok-add_tree-in-Two-clause-added :
    goal.returns-in_ok-add_tree-in-Two-clause-added
returns-in_ok-add_tree-in-Two-clause-added c =
    let first = cuts_of c.in-Two.tree in
    let second = cuts_of c.in-Two.second in
    let made = c.add_tree-in-Two-2.new.self in
    on_ok_weaker c.add_tree-in-Two-2.result
    (λ added us h.
    let all = append_assoc us first second ∙ ap (λ (cuts : List (List ℤ)). us ++ cuts) (sym (ap cuts_in c.in-Two.is)) in
    subst (AreNumbered made.lists.set.keys made.leaf.list) all (added (us ++ first) (c.in_ok-add_tree-in-Two.ensures.added us h)))
    c.add_tree-in-Two-2.ensures.added
