use Rattle.crn_ctree.proofs.Prelude.{◌≡◌, ◌-◌, [], length, get_or, refl, sym, ap, subst, ◌∙◌, AreNumbersFor, Said, NodeGives, problem_of, place_of, said_with, said_by_shared}
use Rattle.crn_ctree.proofs.NodeTests.{shape_long, long_shape, shared_numbers, shared_from}
use Rattle.crn_ctree.proofs.check.TreeCheck.shared_node.Goals as goal

pub returns-then-numbers-row_count-clause-gives : goal.returns-then-numbers-row_count-clause-gives
returns-then-numbers-row_count-clause-gives c =
    let u = get_or c.args.table.now (place_of c.args.cut - 1) [] in
    let same : c.get-numbers.result.now ≡ u = c.get-numbers.ensures.value ∙ ap (λ k. get_or c.args.table.now (k - 1) []) c.place.ensures in
    (λ h. c.if-numbers-row_count.true (ap length same ∙ shape_long c.args.net.now c.args.self.now.problem c.args.cut u h ∙ sym c.row_count.ensures), refl)

pub node-requires-2-clause-numbers : goal.node-requires-2-clause-numbers
node-requires-2-clause-numbers c =
    subst (λ (said : Said). AreNumbersFor (problem_of c.args.net.now c.args.self.now.problem) said) (sym c.node.ensures)
    (shared_numbers c.args.net.now c.args.self.now.problem c.args.cut c.get-numbers.result.now c.get-numbers.ensures.shared (c.if-numbers-row_count.false ∙ c.row_count.ensures))

pub returns-clause-gives : goal.returns-clause-gives
returns-clause-gives c =
    let w = problem_of c.args.net.now c.args.self.now.problem in
    let u = get_or c.args.table.now (place_of c.args.cut - 1) [] in
    let same : c.get-numbers.result.now ≡ u = c.get-numbers.ensures.value ∙ ap (λ k. get_or c.args.table.now (k - 1) []) c.place.ensures in
    let said = c.node.ensures ∙ ap (said_with c.args.cut) same in
    let shape = long_shape c.args.net.now c.args.self.now.problem c.args.cut u (sym (ap length same) ∙ c.if-numbers-row_count.false ∙ c.row_count.ensures) in
    shared_from w c.args.self.now.due (said_by_shared c.args.table.now c.args.cut) c.node-2.new.self.due c.node-2.result shape
    (subst (λ (s : Said). NodeGives w c.args.self.now.due s c.node-2.new.self.due c.node-2.result) said c.node-2.ensures.gives)
