use Rattle.crn_solve.proofs.Prelude.{◌≡◌, [], ◌∷◌, List, refl, Answer, Earlier, IsOpen, Q1, Q2, tight, AreLinkageData, AreStrongData}
use Rattle.crn_solve.proofs.AllAnswers.{answer_of}
use Rattle.crn_solve.proofs.answers.solve_rank.Goals as goal

pub returns : goal.returns
returns c = λ budget.
    let net = c.args.net.now in
    let n = c.meets_definition.ensures in
    let a1 = c.linkage_answer.result in
    let a2 = c.strong_answer.result in
    let a3 = c.rests_on.result in
    let a4 = c.rests_on-2.result in
    let a5 = c.in_ok-rank.rank in
    let open3 : IsOpen a3.verdict = rw c.rests_on.ensures tt in
    let open4 : IsOpen a4.verdict = rw c.rests_on-2.ensures tt in
    let after1 : Earlier = (Q1, tight a1.verdict) ∷ [] in
    let after2 : Earlier = (Q1, tight a1.verdict) ∷ (Q2, tight a2.verdict) ∷ [] in
    let l = c.in_ok-linkage.ensures in
    let linkage : AreLinkageData net c.in_ok-linkage.linkage = record { count = l.count; labels = l.labels; numbered = l.numbered; even = l.even; forest = l.forest; trees = l.trees } in
    let s = c.in_ok-strong.ensures in
    let strong : AreStrongData net c.in_ok-strong.strong = record {
      count = s.count;
      terminals = s.terminal_number;
      labels = s.labels;
      numbered = s.numbered;
      from_forest = s.from_forest;
      from_trees = s.from_trees;
      to_forest = s.to_forest;
      to_trees = s.to_trees;
      levels = s.levels;
      falls = s.falls;
      exit_numbers = s.exit_numbers;
      exits = s.exits;
      terminal = s.terminal;
    } in
    let answers : List Answer = a1 ∷ a2 ∷ a3 ∷ a4 ∷ a5 ∷ [] in
    let pushed : c.push-5.new.self ≡ answers =
    rw (c.push-5.ensures, c.push-4.ensures, c.push-3.ensures, c.push-2.ensures, c.push.ensures, c.in_ok-answers.ensures) refl in
    rw pushed (answer_of net budget [] Q1 a1 (c.linkage_answer.ensures.answer net [] n linkage), answer_of net budget after1 Q2 a2 (c.strong_answer.ensures.answer net after1 n strong), c.in_ok-rank.ensures budget after2, open3, open4, refl)
