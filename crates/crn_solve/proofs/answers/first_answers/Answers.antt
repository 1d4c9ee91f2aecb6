use Rattle.crn_solve.proofs.Prelude.{◌≡◌, [], ◌∷◌, ◌++◌, ◌∙◌, List, sym, refl, zip, verdicts_of, built, Answer, Earlier, Q1, Q2, Q3, Q4, Q5, Q6, Q7, Q8, Q9, Q10, Q11, Q12, Q13, Classes, Strong, GiveClasses, tight, labels_tight, count_tight, exits_tight, is_true_tight, true_or_open, strong_right, AreLinkageData, AreStrongData, AreAnswers, first_questions}
use Rattle.crn_solve.proofs.AllAnswers.{answer_of}
use Rattle.crn_solve.proofs.Deficiencies.{rank_or_open}
use Rattle.crn_solve.proofs.FewNodes.{first_few}
use Rattle.crn_solve.proofs.SignalSides.{gives_sides}
use Rattle.crn_solve.proofs.answers.first_answers.Goals as goal

pub deficiency_answer-requires-clause-classes : goal.deficiency_answer-requires-clause-classes
deficiency_answer-requires-clause-classes c =
    let l = c.in_ok-linkage.ensures in
    record { labelled = record { long = l.labels.long; right = l.right }; count_is = l.numbered.count_is }

pub deficiency_answer-requires-clause-rank : goal.deficiency_answer-requires-clause-rank
deficiency_answer-requires-clause-rank c =
    let a5 = c.in_ok-on_species.on_species.rank in
    rank_or_open c.args.net.now c.args.budget [] a5.verdict (c.in_ok-on_species.ensures.rank c.args.budget []).answered

-- the linkage classes are right, and so are the strong classes
pub zero_answer-zero-requires-clause-classes : goal.zero_answer-zero-requires-clause-classes
zero_answer-zero-requires-clause-classes c =
    let l = c.in_ok-linkage.ensures in
    record { labelled = record { long = l.labels.long; right = l.right }; count_is = l.numbered.count_is }

pub one_hypotheses-one-requires-clause-classes : goal.one_hypotheses-one-requires-clause-classes
one_hypotheses-one-requires-clause-classes c =
    let l = c.in_ok-linkage.ensures in
    record { labelled = record { long = l.labels.long; right = l.right }; count_is = l.numbered.count_is }

pub one_hypotheses-one-requires-clause-strong_classes : goal.one_hypotheses-one-requires-clause-strong_classes
one_hypotheses-one-requires-clause-strong_classes c =
    let s = c.in_ok-strong.ensures in
    strong_right c.args.net.now c.in_ok-strong.strong c.meets_definition.ensures s.count s.terminal_number s.labels s.numbered s.from_forest s.from_trees s.to_forest s.to_trees s.levels s.falls s.exit_numbers s.exits s.terminal

pub one_hypotheses-one-requires-clause-q6 : goal.one_hypotheses-one-requires-clause-q6
one_hypotheses-one-requires-clause-q6 c =
    let l = c.in_ok-linkage.linkage in
    let a5 = c.in_ok-on_species.on_species.rank in
    let a6 = c.in_ok-deficiency.deficiency in
    let earlier : Earlier = (Q1, Classes l.count l.label) ∷ (Q5, tight a5.verdict) ∷ [] in
    true_or_open c.args.net.now c.args.budget earlier Q6 a6.verdict (c.in_ok-deficiency.ensures c.args.budget earlier refl refl refl).answered

pub zero_answer-zero-requires-clause-rank : goal.zero_answer-zero-requires-clause-rank
zero_answer-zero-requires-clause-rank c =
    let a5 = c.in_ok-on_species.on_species.rank in
    rank_or_open c.args.net.now c.args.budget [] a5.verdict (c.in_ok-on_species.ensures.rank c.args.budget []).answered

pub zero_answer-zero-requires-clause-weak : goal.zero_answer-zero-requires-clause-weak
zero_answer-zero-requires-clause-weak c =
    let s = c.in_ok-strong.strong in
    let e = c.in_ok-strong.ensures in
    let earlier : Earlier = (Q2, Strong s.count s.terminal s.label s.exit) ∷ [] in
    let right = strong_right c.args.net.now s c.meets_definition.ensures e.count e.terminal_number e.labels e.numbered e.from_forest e.from_trees e.to_forest e.to_trees e.levels e.falls e.exit_numbers e.exits e.terminal in
    (c.weakly_reversible-weakly_reversible.ensures earlier (sym c.as_slice.ensures) right).true_of

pub regular-requires-clause-classes : goal.regular-requires-clause-classes
regular-requires-clause-classes c =
    let l = c.in_ok-linkage.ensures in
    record { labelled = record { long = l.labels.long; right = l.right }; count_is = l.numbered.count_is }

pub regular-requires-clause-strong_classes : goal.regular-requires-clause-strong_classes
regular-requires-clause-strong_classes c =
    let s = c.in_ok-strong.ensures in
    strong_right c.args.net.now c.in_ok-strong.strong c.meets_definition.ensures s.count s.terminal_number s.labels s.numbered s.from_forest s.from_trees s.to_forest s.to_trees s.levels s.falls s.exit_numbers s.exits s.terminal

pub regular-requires-clause-q7 : goal.regular-requires-clause-q7
regular-requires-clause-q7 c =
    let a7 = c.in_ok-decided.decided.answer in
    true_or_open c.args.net.now c.args.budget [] Q7 a7.verdict (c.in_ok-decided.ensures.answer c.args.budget []).answered

pub confluence_answer-requires-clause-classes : goal.confluence_answer-requires-clause-classes
confluence_answer-requires-clause-classes c =
    let l = c.in_ok-linkage.ensures in
    record { labelled = record { long = l.labels.long; right = l.right }; count_is = l.numbered.count_is }

pub confluence_answer-requires-clause-strong_classes : goal.confluence_answer-requires-clause-strong_classes
confluence_answer-requires-clause-strong_classes c =
    let s = c.in_ok-strong.ensures in
    strong_right c.args.net.now c.in_ok-strong.strong c.meets_definition.ensures s.count s.terminal_number s.labels s.numbered s.from_forest s.from_trees s.to_forest s.to_trees s.levels s.falls s.exit_numbers s.exits s.terminal

pub confluence_answer-requires-clause-weak : goal.confluence_answer-requires-clause-weak
confluence_answer-requires-clause-weak c =
    let s = c.in_ok-strong.strong in
    let e = c.in_ok-strong.ensures in
    let earlier : Earlier = (Q2, Strong s.count s.terminal s.label s.exit) ∷ [] in
    let right = strong_right c.args.net.now s c.meets_definition.ensures e.count e.terminal_number e.labels e.numbered e.from_forest e.from_trees e.to_forest e.to_trees e.levels e.falls e.exit_numbers e.exits e.terminal in
    (c.weakly_reversible-weakly_reversible.ensures earlier (sym c.as_slice.ensures) right).true_of

pub confluence_answer-requires-clause-regular : goal.confluence_answer-requires-clause-regular
confluence_answer-requires-clause-regular c =
    let l = c.in_ok-linkage.linkage in
    let s = c.in_ok-strong.strong in
    let a7 = c.in_ok-decided.decided.answer in
    let a11 = c.in_ok-regular.regular in
    let earlier : Earlier = (Q1, Classes l.count l.label) ∷ (Q2, Strong s.count s.terminal s.label s.exit) ∷ (Q7, tight a7.verdict) ∷ [] in
    let gives : GiveClasses earlier l.label.list l.count s.label.list s.exit.list = record { labels_are = refl; count_is = refl; strong_are = refl; exits_are = refl; strong_count = sym c.in_ok-strong.ensures.exit_numbers.long } in
    true_or_open c.args.net.now c.args.budget earlier Q11 a11.verdict (c.in_ok-regular.ensures c.args.budget earlier gives refl).answered

pub signal_answer-requires-clause-strong_classes : goal.signal_answer-requires-clause-strong_classes
signal_answer-requires-clause-strong_classes c =
    let s = c.in_ok-strong.ensures in
    strong_right c.args.net.now c.in_ok-strong.strong c.meets_definition.ensures s.count s.terminal_number s.labels s.numbered s.from_forest s.from_trees s.to_forest s.to_trees s.levels s.falls s.exit_numbers s.exits s.terminal

pub signal_answer-requires-clause-weak : goal.signal_answer-requires-clause-weak
signal_answer-requires-clause-weak c =
    let s = c.in_ok-strong.strong in
    let e = c.in_ok-strong.ensures in
    let earlier : Earlier = (Q2, Strong s.count s.terminal s.label s.exit) ∷ [] in
    let right = strong_right c.args.net.now s c.meets_definition.ensures e.count e.terminal_number e.labels e.numbered e.from_forest e.from_trees e.to_forest e.to_trees e.levels e.falls e.exit_numbers e.exits e.terminal in
    (c.weakly_reversible-weakly_reversible.ensures earlier (sym c.as_slice.ensures) right).true_of

pub signal_answer-requires-clause-sides : goal.signal_answer-requires-clause-sides
signal_answer-requires-clause-sides c =
    let net = c.args.net.now in
    let n = c.meets_definition.ensures in
    let l = c.in_ok-linkage.linkage in
    let s = c.in_ok-strong.strong in
    let le = c.in_ok-linkage.ensures in
    let e = c.in_ok-strong.ensures in
    let a4 = c.weakly_reversible-weakly_reversible.result in
    let a7 = c.in_ok-decided.decided.answer in
    let a11 = c.in_ok-regular.regular in
    let a12 = c.in_ok-confluence.confluence in
    let right = strong_right net s n e.count e.terminal_number e.labels e.numbered e.from_forest e.from_trees e.to_forest e.to_trees e.levels e.falls e.exit_numbers e.exits e.terminal in
    let earlier : Earlier = (Q1, Classes l.count l.label) ∷ (Q2, Strong s.count s.terminal s.label s.exit) ∷ (Q4, tight a4.verdict) ∷ (Q7, tight a7.verdict) ∷ [] in
    let later : Earlier = (Q1, Classes l.count l.label) ∷ (Q2, Strong s.count s.terminal s.label s.exit) ∷ (Q4, tight a4.verdict) ∷ (Q7, tight a7.verdict) ∷ (Q11, tight a11.verdict) ∷ [] in
    let gives : GiveClasses earlier l.label.list l.count s.label.list s.exit.list = record { labels_are = refl; count_is = refl; strong_are = refl; exits_are = refl; strong_count = sym e.exit_numbers.long } in
    let given : GiveClasses later l.label.list l.count s.label.list s.exit.list = record { labels_are = refl; count_is = refl; strong_are = refl; exits_are = refl; strong_count = sym e.exit_numbers.long } in
    let d11 = c.in_ok-regular.ensures c.args.budget earlier gives refl in
    let d12 = c.in_ok-confluence.ensures c.args.budget later given refl refl in
    gives_sides net earlier later a11 a12 n right (record { long = le.labels.long; right = le.right }) d11.formed d11.valid refl d12.formed d12.valid

pub signal_answer-requires-clause-confluence : goal.signal_answer-requires-clause-confluence
signal_answer-requires-clause-confluence c =
    let l = c.in_ok-linkage.linkage in
    let s = c.in_ok-strong.strong in
    let a4 = c.weakly_reversible-weakly_reversible.result in
    let a11 = c.in_ok-regular.regular in
    let a12 = c.in_ok-confluence.confluence in
    let earlier : Earlier = (Q1, Classes l.count l.label) ∷ (Q2, Strong s.count s.terminal s.label s.exit) ∷ (Q4, tight a4.verdict) ∷ (Q11, tight a11.verdict) ∷ [] in
    let gives : GiveClasses earlier l.label.list l.count s.label.list s.exit.list = record { labels_are = refl; count_is = refl; strong_are = refl; exits_are = refl; strong_count = sym c.in_ok-strong.ensures.exit_numbers.long } in
    true_or_open c.args.net.now c.args.budget earlier Q12 a12.verdict (c.in_ok-confluence.ensures c.args.budget earlier gives refl refl).answered

pub returns-clause-answers : goal.returns-clause-answers
returns-clause-answers c =
    let net = c.args.net.now in
    let budget = c.args.budget in
    let n = c.meets_definition.ensures in
    let a1 = c.linkage_answer.result in
    let a2 = c.strong_answer.result in
    let a3 = c.in_ok-reversible.reversible in
    let a4 = c.weakly_reversible-weakly_reversible.result in
    let a5 = c.in_ok-on_species.on_species.rank in
    let a6 = c.in_ok-deficiency.deficiency in
    let a7 = c.in_ok-decided.decided.answer in
    let a8 = c.in_ok-on_species.on_species.conservation in
    let a9 = c.zero_answer-zero.result in
    let a10 = c.one_hypotheses-one.result in
    let a11 = c.in_ok-regular.regular in
    let a12 = c.in_ok-confluence.confluence in
    let a13 = c.in_ok-signal.signal in
    let after1 : Earlier = (Q1, tight a1.verdict) ∷ [] in
    let after2 : Earlier = (Q1, tight a1.verdict) ∷ (Q2, tight a2.verdict) ∷ [] in
    let after3 : Earlier = (Q1, tight a1.verdict) ∷ (Q2, tight a2.verdict) ∷ (Q3, tight a3.verdict) ∷ [] in
    let after4 : Earlier = (Q1, tight a1.verdict) ∷ (Q2, tight a2.verdict) ∷ (Q3, tight a3.verdict) ∷ (Q4, tight a4.verdict) ∷ [] in
    let after5 : Earlier = (Q1, tight a1.verdict) ∷ (Q2, tight a2.verdict) ∷ (Q3, tight a3.verdict) ∷ (Q4, tight a4.verdict) ∷ (Q5, tight a5.verdict) ∷ [] in
    let after6 : Earlier = (Q1, tight a1.verdict) ∷ (Q2, tight a2.verdict) ∷ (Q3, tight a3.verdict) ∷ (Q4, tight a4.verdict) ∷ (Q5, tight a5.verdict) ∷ (Q6, tight a6.verdict) ∷ [] in
    let after7 : Earlier = (Q1, tight a1.verdict) ∷ (Q2, tight a2.verdict) ∷ (Q3, tight a3.verdict) ∷ (Q4, tight a4.verdict) ∷ (Q5, tight a5.verdict) ∷ (Q6, tight a6.verdict) ∷ (Q7, tight a7.verdict) ∷ [] in
    let after8 : Earlier = (Q1, tight a1.verdict) ∷ (Q2, tight a2.verdict) ∷ (Q3, tight a3.verdict) ∷ (Q4, tight a4.verdict) ∷ (Q5, tight a5.verdict) ∷ (Q6, tight a6.verdict) ∷ (Q7, tight a7.verdict) ∷ (Q8, tight a8.verdict) ∷ [] in
    let after9 : Earlier = (Q1, tight a1.verdict) ∷ (Q2, tight a2.verdict) ∷ (Q3, tight a3.verdict) ∷ (Q4, tight a4.verdict) ∷ (Q5, tight a5.verdict) ∷ (Q6, tight a6.verdict) ∷ (Q7, tight a7.verdict) ∷ (Q8, tight a8.verdict) ∷ (Q9, tight a9.verdict) ∷ [] in
    let after10 : Earlier = (Q1, tight a1.verdict) ∷ (Q2, tight a2.verdict) ∷ (Q3, tight a3.verdict) ∷ (Q4, tight a4.verdict) ∷ (Q5, tight a5.verdict) ∷ (Q6, tight a6.verdict) ∷ (Q7, tight a7.verdict) ∷ (Q8, tight a8.verdict) ∷ (Q9, tight a9.verdict) ∷ (Q10, tight a10.verdict) ∷ [] in
    let after11 : Earlier = (Q1, tight a1.verdict) ∷ (Q2, tight a2.verdict) ∷ (Q3, tight a3.verdict) ∷ (Q4, tight a4.verdict) ∷ (Q5, tight a5.verdict) ∷ (Q6, tight a6.verdict) ∷ (Q7, tight a7.verdict) ∷ (Q8, tight a8.verdict) ∷ (Q9, tight a9.verdict) ∷ (Q10, tight a10.verdict) ∷ (Q11, tight a11.verdict) ∷ [] in
    let after12 : Earlier = (Q1, tight a1.verdict) ∷ (Q2, tight a2.verdict) ∷ (Q3, tight a3.verdict) ∷ (Q4, tight a4.verdict) ∷ (Q5, tight a5.verdict) ∷ (Q6, tight a6.verdict) ∷ (Q7, tight a7.verdict) ∷ (Q8, tight a8.verdict) ∷ (Q9, tight a9.verdict) ∷ (Q10, tight a10.verdict) ∷ (Q11, tight a11.verdict) ∷ (Q12, tight a12.verdict) ∷ [] in
    let l = c.in_ok-linkage.ensures in
    let linkage : AreLinkageData net c.in_ok-linkage.linkage = record { count = l.count; labels = l.labels; numbered = l.numbered; even = l.even; forest = l.forest; trees = l.trees } in
    let s = c.in_ok-strong.ensures in
    let strong : AreStrongData net c.in_ok-strong.strong = record {
      count = s.count;
      terminals = s.terminal_number;
      labels = s.labels;
      numbered = s.numbered;
      from_forest = s.from_forest;
      from_trees = s.from_trees;
      to_forest = s.to_forest;
      to_trees = s.to_trees;
      levels = s.levels;
      falls = s.falls;
      exit_numbers = s.exit_numbers;
      exits = s.exits;
      terminal = s.terminal;
    } in
    let d1 = c.linkage_answer.ensures.answer net [] n linkage in
    let d2 = c.strong_answer.ensures.answer net after1 n strong in
    let d3 = c.in_ok-reversible.ensures after2 in
    let linkage_labels = labels_tight a1.verdict ∙ c.linkage_answer.ensures.labels in
    let linkage_count = count_tight a1.verdict ∙ c.linkage_answer.ensures.count in
    let strong_labels = labels_tight a2.verdict ∙ c.strong_answer.ensures.labels in
    let strong_exits = exits_tight a2.verdict ∙ c.strong_answer.ensures.exits in
    let strong_count = count_tight a2.verdict ∙ c.strong_answer.ensures.count in
    let strong_true = is_true_tight net Q2 a2.verdict d2.true_of in
    let d4 = c.weakly_reversible-weakly_reversible.ensures after3 (strong_labels ∙ sym c.as_slice.ensures) strong_true in
    let d5 = c.in_ok-on_species.ensures.rank budget after4 in
    let d6 = c.in_ok-deficiency.ensures budget after5 linkage_labels linkage_count refl in
    let d7 = c.in_ok-decided.ensures.answer budget after6 in
    let d8 = c.in_ok-on_species.ensures.conservation budget after7 in
    let d9 = c.zero_answer-zero.ensures budget after8 linkage_labels linkage_count refl refl in
    let exits_long = s.exit_numbers.long in
    let gives9 : GiveClasses after9 c.in_ok-linkage.linkage.label.list c.in_ok-linkage.linkage.count c.in_ok-strong.strong.label.list c.in_ok-strong.strong.exit.list = record {
      labels_are = linkage_labels;
      count_is = linkage_count;
      strong_are = strong_labels;
      exits_are = strong_exits;
      strong_count = strong_count ∙ sym exits_long;
    } in
    let gives10 : GiveClasses after10 c.in_ok-linkage.linkage.label.list c.in_ok-linkage.linkage.count c.in_ok-strong.strong.label.list c.in_ok-strong.strong.exit.list = record {
      labels_are = linkage_labels;
      count_is = linkage_count;
      strong_are = strong_labels;
      exits_are = strong_exits;
      strong_count = strong_count ∙ sym exits_long;
    } in
    let gives11 : GiveClasses after11 c.in_ok-linkage.linkage.label.list c.in_ok-linkage.linkage.count c.in_ok-strong.strong.label.list c.in_ok-strong.strong.exit.list = record {
      labels_are = linkage_labels;
      count_is = linkage_count;
      strong_are = strong_labels;
      exits_are = strong_exits;
      strong_count = strong_count ∙ sym exits_long;
    } in
    let d10 = c.one_hypotheses-one.ensures budget after9 gives9 refl in
    let d11 = c.in_ok-regular.ensures budget after10 gives10 refl in
    let d12 = c.in_ok-confluence.ensures budget after11 gives11 refl refl in
    let d13 = c.in_ok-signal.ensures.answer after12 strong_true refl refl in
    let answers : List Answer = a1 ∷ a2 ∷ a3 ∷ a4 ∷ a5 ∷ a6 ∷ a7 ∷ a8 ∷ a9 ∷ a10 ∷ a11 ∷ a12 ∷ a13 ∷ [] in
    let pushed : c.push-13.new.self ≡ answers =
    rw (c.push-13.ensures, c.push-12.ensures, c.push-11.ensures, c.push-10.ensures, c.push-9.ensures, c.push-8.ensures, c.push-7.ensures, c.push-6.ensures, c.push-5.ensures, c.push-4.ensures, c.push-3.ensures, c.push-2.ensures, c.push.ensures, c.in_ok-answers.ensures) refl in
    let later : AreAnswers net budget after4 (Q5 ∷ Q6 ∷ Q7 ∷ Q8 ∷ Q9 ∷ Q10 ∷ Q11 ∷ Q12 ∷ Q13 ∷ []) (a5 ∷ a6 ∷ a7 ∷ a8 ∷ a9 ∷ a10 ∷ a11 ∷ a12 ∷ a13 ∷ []) =
    (d5, (d6, (d7, (d8, (d9, (d10, (d11, (d12, (d13, tt))))))))) in
    let all : AreAnswers net budget [] first_questions answers =
    (answer_of net budget [] Q1 a1 d1, (answer_of net budget after1 Q2 a2 d2, (answer_of net budget after2 Q3 a3 d3, (answer_of net budget after3 Q4 a4 d4, later)))) in
    rw pushed (record {
      all = all;
      nodes = first_few net budget a1 a2 a3 a4 a5 a6 a7 a8 a9 a10 a11 a12 a13 all c.in_ok-signal.ensures.nodes;
      decided = λ more. (d1.decided, (d2.decided, (d3.decided, (d4.decided, tt))));
      spent = λ more. c.in_ok-signal.ensures.spent (zip built (verdicts_of answers ++ more)) refl;
      first = λ more. c.in_ok-signal.ensures.first;
      visits = λ more. (tt, (tt, (tt, (tt, (tt, (tt, (tt, (tt, (tt, (tt, (tt, (tt, (c.in_ok-signal.ensures.visits, tt)))))))))))));
      last = λ concordant strongly. (refl, refl);
    })
