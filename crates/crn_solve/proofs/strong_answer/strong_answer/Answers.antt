use Rattle.crn_solve.proofs.Prelude.{refl, Answer, Strong, StrongTrees, Q2, IsFormed, IsValid, valid_answers_are_true}
use Rattle.crn_solve.proofs.strong_answer.strong_answer.Goals as goal

pub returns-clause-answer : goal.returns-clause-answer
returns-clause-answer c net earlier n d =
    let classes = c.args.classes in
    let answer : Answer = record {
      verdict = Strong classes.count classes.terminal classes.label classes.exit;
      proof = StrongTrees classes.from classes.from_depth classes.to classes.to_depth classes.level;
    } in
    let formed : IsFormed net earlier Q2 answer =
    (record { head = ((d.count, d.terminals), tt); rows = (d.labels, (d.from_forest.names_are, (d.from_forest.depth_is, (d.to_forest.names_are, (d.to_forest.depth_is, (d.levels, (d.exit_numbers, tt))))))); trees = tt }, (refl, refl)) in
    let valid : IsValid net earlier Q2 answer = (d.numbered, (d.from_trees, (d.to_trees, (d.falls, (d.exits, (d.terminal, tt)))))) in
    record { formed = formed; valid = valid; true_of = valid_answers_are_true Q2 net earlier answer n tt tt formed valid; decided = λ o. o }
