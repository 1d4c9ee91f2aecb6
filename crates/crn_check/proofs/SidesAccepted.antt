-- The sides of a valid yes to question 11 are those of the linked pairs within terminal classes.
use Rattle.crn_check.proofs.Prelude.{◌≡◌, List, subst, ℤ, Net, IsNetwork, IsLabelled, Answer, Proof, Sides, Verdict, Classes, Yes, IsFormed, IsFormedOf, Q1, Q11, on, labels_of, IsTrueOf, AllHold, head_tests, row_tests, tests_of, hold_parts, sides_formed, AreSides, tested_sides, HoldsNeeds, KeptFacts, AreFactsOf}
use Rattle.crn_check.proofs.Truths.{linkage_true, strong_true}

-- true labels of the linkage classes
labelled : (net : Net) (v : Verdict) → IsTrueOf net Q1 v → IsLabelled net (labels_of v)
labelled net (Classes count label) h = h.labelled
labelled net v h = absurd h

-- the rows of a yes to question 11 whose tests below its head hold
pub sides_accepted : (net : Net) (facts : KeptFacts) (sides : List (List ℤ)) → IsNetwork net → AreFactsOf net facts → HoldsNeeds facts.earlier 11 → IsFormedOf net facts.earlier Q11 Yes (Sides sides) → AllHold (row_tests net facts.earlier Q11 Yes (Sides sides)) → AreSides net sides
sides_accepted net facts sides n h needs f t =
    tested_sides net facts.earlier 1 sides n (strong_true net facts h needs.1.0) (labelled net (on facts.earlier Q1) (linkage_true net facts h needs.0)) (sides_formed net facts.earlier sides f) t

-- those of an answer whose tests all hold
pub sides_of_answer : (net : Net) (facts : KeptFacts) (a : Answer) (sides : List (List ℤ)) → IsNetwork net → AreFactsOf net facts → HoldsNeeds facts.earlier 11 → IsFormed net facts.earlier Q11 a → AllHold (tests_of net facts.earlier Q11 a) → a.verdict ≡ Yes → a.proof ≡ Sides sides → AreSides net sides
sides_of_answer net facts a sides n h needs f t says is =
    let form : IsFormedOf net facts.earlier Q11 Yes (Sides sides) = subst (λ (p : Proof). IsFormedOf net facts.earlier Q11 Yes p) is (subst (λ (v : Verdict). IsFormedOf net facts.earlier Q11 v a.proof) says f) in
    let rows = (hold_parts (head_tests net facts.earlier Q11 a.verdict) (row_tests net facts.earlier Q11 a.verdict a.proof) t).1 in
    let held : AllHold (row_tests net facts.earlier Q11 Yes (Sides sides)) = subst (λ (p : Proof). AllHold (row_tests net facts.earlier Q11 Yes p)) is (subst (λ (v : Verdict). AllHold (row_tests net facts.earlier Q11 v a.proof)) says rows) in
    sides_accepted net facts sides n h needs form held
