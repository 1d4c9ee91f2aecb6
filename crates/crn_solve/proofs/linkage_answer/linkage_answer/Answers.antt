use Rattle.crn_solve.proofs.Prelude.{refl, Answer, Classes, Forest, Q1, IsFormed, IsValid, valid_answers_are_true}
use Rattle.crn_solve.proofs.linkage_answer.linkage_answer.Goals as goal

pub returns-clause-answer : goal.returns-clause-answer
returns-clause-answer c net earlier n d =
    let classes = c.args.classes in
    let answer : Answer = record { verdict = Classes classes.count classes.label; proof = Forest classes.up classes.depth } in
    let formed : IsFormed net earlier Q1 answer =
    (record { head = (d.count, tt); rows = (d.labels, (d.forest.names_are, (d.forest.depth_is, tt))); trees = tt }, (refl, refl)) in
    let valid : IsValid net earlier Q1 answer = ((d.numbered, d.even), (d.trees, tt)) in
    record { formed = formed; valid = valid; true_of = valid_answers_are_true Q1 net earlier answer n tt tt formed valid; decided = λ o. o }
