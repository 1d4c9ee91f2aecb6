-- What callers need beside the contracts: verdicts that are true or open, answers that rest on the rank, and right classes.
use Rattle.crn_defi.proofs.Prelude.{◌≡◌, ℕ, [], length, refl, arith, Net, IsNetwork, AreRightLabels, Rests, Verdict, Strong, Unknown, StrongTrees, Answer, Earlier, Question, Q2, Q5, Q6, Q9, on, IsOpen, IsFrom, AreFrom, AreLinkageClasses, AreStrongClasses, AreNumbered, AreFromTrees, AreToTrees, DoLevelsFall, AreAllExits, zeros_in, IsFormed, IsForest, IsValid, IsTrueOrLicensed, IsTrueOrOpen, valid_answers_are_true, LinkageData, StrongData, IsAnswer, plain}

pub true_or_open : (net : Net) (budget : ℕ) (earlier : Earlier) (q : Question) (v : Verdict) → IsTrueOrLicensed net budget earlier q v → IsTrueOrOpen net q v
true_or_open net budget earlier q (Unknown gap) h = tt
true_or_open net budget earlier q v h = h

-- the answer to a question that rests on the rank, if the rank is open
pub deficiencies_rest : (net : Net) (budget : ℕ) (earlier : Earlier) → IsOpen (on earlier Q5) → IsAnswer net budget earlier Q6 (plain (Unknown (Rests 5)))
deficiencies_rest net budget earlier h = record { formed = (record { head = ((omega arith, omega arith), tt); rows = tt; trees = tt }, (refl, refl)); valid = tt; answered = (refl, h, tt) }

pub zero_rests : (net : Net) (budget : ℕ) (earlier : Earlier) → IsOpen (on earlier Q5) → IsAnswer net budget earlier Q9 (plain (Unknown (Rests 5)))
zero_rests net budget earlier h = record { formed = (record { head = ((omega arith, omega arith), tt); rows = tt; trees = tt }, (refl, refl)); valid = tt; answered = (refl, h, tt) }

-- right labels that are numbered, with their count
pub linkage_right : (net : Net) (classes : LinkageData) → AreFrom (length net.complexes) 1 classes.count classes.label.list → AreRightLabels net.reactions classes.label.list → AreNumbered classes.label.list classes.count
    → AreLinkageClasses net classes.count classes.label.list
linkage_right net classes labels right numbered = record { labelled = record { long = labels.long; right = right }; count_is = numbered.count_is }

-- strong classes whose records pass the tests
pub strong_right : (net : Net) (classes : StrongData) → IsNetwork net → IsFrom 1 (length net.complexes) classes.count → IsFrom 1 classes.count classes.terminal → AreFrom (length net.complexes) 1 classes.count classes.label.list
    → AreNumbered classes.label.list classes.count → IsForest net classes.from.list classes.from_depth.list → AreFromTrees net classes.label.list classes.from.list classes.from_depth.list → IsForest net classes.to.list classes.to_depth.list
    → AreToTrees net classes.label.list classes.to.list classes.to_depth.list → AreFrom classes.count 0 (length net.complexes) classes.level.list → DoLevelsFall net classes.label.list classes.level.list
    → AreFrom classes.count 0 (length net.reactions) classes.exit.list → AreAllExits net classes.label.list classes.exit.list → zeros_in classes.exit.list ≡ classes.terminal
    → AreStrongClasses net classes.count classes.terminal classes.label.list classes.exit.list
strong_right net classes n count terminals labels numbered from_forest from_trees to_forest to_trees levels falls exit_numbers exits zeros =
    let answer : Answer = record {
      verdict = Strong classes.count classes.terminal classes.label classes.exit;
      proof = StrongTrees classes.from classes.from_depth classes.to classes.to_depth classes.level;
    } in
    let formed : IsFormed net [] Q2 answer =
    (record { head = ((count, terminals), tt); rows = (labels, (from_forest.names_are, (from_forest.depth_is, (to_forest.names_are, (to_forest.depth_is, (levels, (exit_numbers, tt))))))); trees = tt }, (refl, refl)) in
    let valid : IsValid net [] Q2 answer = (numbered, (from_trees, (to_trees, (falls, (exits, (zeros, tt)))))) in
    valid_answers_are_true Q2 net [] answer n tt tt formed valid
