use Rattle.crn_conc.proofs.Prelude.{IfSome, plain_table, strong_table, Q14, Q15, Searched, IsNameOf, IsNamed, IsStopAnswer, AnswersTable, if_ok}
use Rattle.crn_conc.proofs.Ended.{plain, strong, fits, rows_wide, end_by, stop_by, stop_names}
use Rattle.crn_conc.proofs.answer.answer_by.Goals as goal

pub invariant_of-problem : goal.invariant_of-problem
invariant_of-problem c =
    let m = c.args.matrix.now in
    let t = fits c.args.net.now m c.args.table.now c.species.ensures.network c.requires.matrix c.requires.table in
    record { columns_are = c.in-Ok.ensures; coordinates_are = c.in-Ok-coordinates.ensures; reactions = t.reactions; species = rows_wide m c.args.table.now t; few_reactions = t.few_reactions; few_species = t.few_species }

pub returns-in-Ok-search-clause-plain : goal.returns-in-Ok-search-clause-plain
returns-in-Ok-search-clause-plain c = end_by plain c.args.matrix.now c.args.table.now c.args.keeps c.args.budget c.in-Ok-search.end c.end_answer.result c.species.ensures.network c.requires.low c.requires.high c.requires.matrix c.end_answer.ensures c.in-Ok-search.ensures

pub returns-in-Ok-search-clause-strong : goal.returns-in-Ok-search-clause-strong
returns-in-Ok-search-clause-strong c = end_by strong c.args.matrix.now c.args.table.now c.args.keeps c.args.budget c.in-Ok-search.end c.end_answer.result c.species.ensures.network c.requires.low c.requires.high c.requires.matrix c.end_answer.ensures c.in-Ok-search.ensures

pub returns-clause-plain : goal.returns-clause-plain
returns-clause-plain c = λ e. if_ok (λ (made : Searched). IsStopAnswer c.in-Err.stop made.answer) (λ (made : Searched). AnswersTable c.args.keeps c.args.net.now c.args.budget Q14 (plain_table c.args.net.now) made.answer) c.stop_answer.result
    (λ made k. stop_by plain c.args.matrix.now c.args.table.now c.args.keeps c.args.budget c.in-Err.stop made.answer c.requires.matrix c.in-Err.ensures e k) c.stop_answer.ensures.answer

pub returns-clause-strong : goal.returns-clause-strong
returns-clause-strong c = λ e. if_ok (λ (made : Searched). IsStopAnswer c.in-Err.stop made.answer) (λ (made : Searched). AnswersTable c.args.keeps c.args.net.now c.args.budget Q15 (strong_table c.args.net.now) made.answer) c.stop_answer.result
    (λ made k. stop_by strong c.args.matrix.now c.args.table.now c.args.keeps c.args.budget c.in-Err.stop made.answer c.requires.matrix c.in-Err.ensures e k) c.stop_answer.ensures.answer

pub returns-clause-shared : goal.returns-clause-shared
returns-clause-shared c = if_ok (λ (made : Searched). IfSome made.shared (IsNameOf c.in-Err.stop)) (λ (made : Searched). IsNamed c.args.net.now made.shared) c.stop_answer.result
    (λ made e. stop_names c.args.net.now c.args.matrix.now c.args.table.now c.in-Err.stop made.shared c.requires.matrix c.in-Err.ensures e) c.stop_answer.ensures.shared
