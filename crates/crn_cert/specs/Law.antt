-- Valid answers are true: the law of each question.
-- Source: this project's own.
-- Shapes: `earlier` holds the verdicts on earlier questions, each with its question.
use Rattle.std.specs.Prelude.{◌≡◌, ◌↔◌, ℕ, ℤ, pos, List, [], ◌∷◌, ◌++◌, length}
use Rattle.crn_vec.specs.Lists.{IsIn}
use Rattle.crn_vec.specs.Network.{Net, IsNetwork}
use Rattle.crn_vec.specs.Vectors.{entry}
use Rattle.crn_vec.specs.CutPairs.{IsCutPair, IsOnSide, ArePairs}
use Rattle.crn_vec.specs.Deficiency.{IsLabelled}
use Rattle.crn_vec.specs.Signals.{Shape}
use Rattle.crn_vec.specs.NetSignals.{IsShapeOf}
use Rattle.crn_cert.specs.declared.answer.Verdict.{Verdict}
use Rattle.crn_cert.specs.declared.answer.Verdict.TheVariants.{Unknown}
use Rattle.crn_cert.specs.declared.answer.Answer.{Answer}
use Rattle.crn_cert.specs.Questions.{Earlier, Question, Q1, Q2, Q4, Q5, Q6, Q7, Q9, Q10, Q11, Q12, Q13, on, terminal_of}
use Rattle.crn_cert.specs.Says.{IsTrueOf, from_zero}
use Rattle.crn_cert.specs.ClassTests.{AreSideMarks}
use Rattle.crn_cert.specs.Formed.{IsFormed, AreFormed}
use Rattle.crn_cert.specs.Valid.{pair_places, IsValid, AreValid}

-- a verdict is true of the network, or open
abbrev pub IsTrueOrOpen : Net → Question → Verdict → Type 0
IsTrueOrOpen net q (Unknown gap) = Unit {0}
IsTrueOrOpen net q verdict = IsTrueOf net q verdict

-- the earlier verdicts on these questions are true
abbrev pub AreTrue : Net → List Question → Earlier → Type 0
AreTrue net [] earlier = Unit {0}
AreTrue net (q ∷ qs) earlier = IsTrueOf net q (on earlier q) × AreTrue net qs earlier

-- the earlier verdicts on these questions are true or open
abbrev pub AreTrueOrOpen : Net → List Question → Earlier → Type 0
AreTrueOrOpen net [] earlier = Unit {0}
AreTrueOrOpen net (q ∷ qs) earlier = IsTrueOrOpen net q (on earlier q)
    × AreTrueOrOpen net qs earlier

-- if the earlier verdicts on the questions `known` are true, and on `rests` true or open, then a
-- formed and valid answer to the question is true or open
abbrev pub ValidIsTrue : List Question → List Question → Question → Type 0
ValidIsTrue known rests q = (net : Net) (earlier : Earlier) (answer : Answer) → IsNetwork net
    → AreTrue net known earlier → AreTrueOrOpen net rests earlier → IsFormed net earlier q answer
    → IsValid net earlier q answer
    → IsTrueOrOpen net q answer.verdict

-- the earlier questions whose verdicts the law of a question requires to be true
abbrev pub known_for : Question → List Question
known_for Q4 = Q2 ∷ []
known_for Q6 = Q1 ∷ []
known_for Q9 = Q1 ∷ Q4 ∷ []
known_for Q10 = Q1 ∷ Q2 ∷ []
known_for Q11 = Q1 ∷ Q2 ∷ []
known_for Q12 = Q1 ∷ Q2 ∷ Q4 ∷ []
known_for Q13 = Q4 ∷ []
known_for q = []

-- the earlier questions whose verdicts the law of a question requires to be true or open
abbrev pub rests_for : Question → List Question
rests_for Q6 = Q5 ∷ []
rests_for Q9 = Q5 ∷ []
rests_for Q10 = Q6 ∷ []
rests_for Q11 = Q7 ∷ []
rests_for Q12 = Q11 ∷ []
rests_for Q13 = Q12 ∷ []
rests_for q = []

-- the law of each question
abbrev pub ValidAnswersAreTrue : Type 0
ValidAnswersAreTrue = (q : Question) → ValidIsTrue (known_for q) (rests_for q) q

-- the verdicts of these answers on these questions are true or open
abbrev pub AllTrueOrOpen : Net → List Question → List Answer → Type 0
AllTrueOrOpen net [] [] = Unit {0}
AllTrueOrOpen net (q ∷ qs) (answer ∷ answers) = IsTrueOrOpen net q answer.verdict
    × AllTrueOrOpen net qs answers
AllTrueOrOpen net qs answers = ⊥

-- a list of questions, each after those that its law requires
abbrev pub AreBuilt : List Question → List Question → Type 0
AreBuilt before [] = Unit {0}
AreBuilt before (q ∷ qs) = ((j : Question) → IsIn j (known_for q ++ rests_for q) → IsIn j before)
    × AreBuilt (before ++ q ∷ []) qs

-- if all answers to these questions are formed and valid, all their verdicts are true or open
abbrev pub ValidDocumentsAreTrue : Type 0
ValidDocumentsAreTrue = (built : List Question) (net : Net) (answers : List Answer)
    → AreBuilt [] built → IsNetwork net → AreFormed net [] built answers
    → AreValid net [] built answers → AllTrueOrOpen net built answers

-- marks that pass the test of a side show that the pair is a cut pair, and are 1 if and only if the
-- complex is on the side
abbrev pub TestedMarksAreSides : Type 0
TestedMarksAreSides = (net : Net) (labels : List ℕ) (r : ℕ) (marks : List ℤ) → IsNetwork net
    → IsLabelled net labels → length marks ≡ length net.complexes
    → (m : AreSideMarks net labels r marks)
    → IsCutPair net.reactions m.y m.z
    × ((c : ℕ) → IsOnSide net.reactions m.y m.z c ↔ (entry marks c ≡ pos 1))

-- if the strong classes are true, the pairs computed from them are the linked pairs within terminal
-- classes, each by its least reaction
abbrev pub PairPlacesArePairs : Type 0
PairPlacesArePairs = (net : Net) (earlier : Earlier) → IsNetwork net
    → IsTrueOf net Q2 (on earlier Q2) → ArePairs net.reactions (from_zero (pair_places net earlier))

-- the network has a shape for g, with as many terminal classes and pairs as the strong classes have
pub record HasShape (net : Net) (earlier : Earlier) (g : List ℤ) : Type 0 where
  pub shape : Shape
  pub is : IsShapeOf net g shape
  pub count : shape.count ≡ terminal_of (on earlier Q2)
  pub pairs : length shape.pairs ≡ length (pair_places net earlier)

-- if the strong classes are true, the network has a shape for each vector over its complexes
abbrev pub ShapesExist : Type 0
ShapesExist = (net : Net) (earlier : Earlier) (g : List ℤ) → IsNetwork net
    → IsTrueOf net Q2 (on earlier Q2) → length g ≡ length net.complexes → HasShape net earlier g
