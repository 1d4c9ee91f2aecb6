use Rattle.crn_farkas.proofs.Prelude.{◌∙◌, length, ap, sym, rules, width, HasPartSum}
use Rattle.crn_farkas.proofs.Marks.{marks_none, solution_by_marks}
use Rattle.crn_farkas.proofs.feasible.by_signs.Goals as goal

pub settle_everywhere-requires-clause-sum : goal.settle_everywhere-requires-clause-sum
settle_everywhere-requires-clause-sum c = marks_none c.args.tableau.now.matrix c.args.kinds.now (length c.args.marks.now) c.fill.new.self c.requires.kinds (c.fill.ensures.after (λ y e. e))

pub returns-in-None-clause-answer : goal.returns-in-None-clause-answer
returns-in-None-clause-answer c =
    let a = c.settle_everywhere.new.tableau.matrix in
    let kinds = c.args.kinds.now in
    let marks = c.settle_everywhere.new.marks in
    let sum : HasPartSum a kinds (length kinds) marks = search rules in
    solution_by_marks a kinds marks (c.requires.kinds ∙ ap width (sym c.settle_everywhere.ensures.matrix)) sum
