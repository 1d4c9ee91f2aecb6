-- The questions, and what later questions need of earlier verdicts.
-- Source: this project's own.
-- Shapes: each earlier verdict is paired with its question. Classes and reactions count from 1.
use Rattle.std.specs.Prelude.{◌==◌, if◌then◌else◌, Bool, true, false, ℕ, ℤ, List, [], ◌∷◌, Option, Some, None}
use Rattle.crn_cert.specs.declared.answer.Verdict.{Verdict}
use Rattle.crn_cert.specs.declared.answer.Verdict.TheVariants.{Classes, Strong, Rank, Deficiency, Yes, YesVec, NoVec, NoTerminal, NoDependence, NoCycle, NotApplicable, Unknown}

-- the fifteen questions
pub data Question : Type 0 where
  Q1 : Question
  Q2 : Question
  Q3 : Question
  Q4 : Question
  Q5 : Question
  Q6 : Question
  Q7 : Question
  Q8 : Question
  Q9 : Question
  Q10 : Question
  Q11 : Question
  Q12 : Question
  Q13 : Question
  Q14 : Question
  Q15 : Question

-- the questions in order
abbrev pub questions : List Question
questions = Q1 ∷ Q2 ∷ Q3 ∷ Q4 ∷ Q5 ∷ Q6 ∷ Q7 ∷ Q8 ∷ Q9 ∷ Q10 ∷ Q11 ∷ Q12 ∷ Q13 ∷ Q14 ∷ Q15 ∷ []

-- the number of a question
abbrev pub number : Question → ℕ
number Q1 = 1
number Q2 = 2
number Q3 = 3
number Q4 = 4
number Q5 = 5
number Q6 = 6
number Q7 = 7
number Q8 = 8
number Q9 = 9
number Q10 = 10
number Q11 = 11
number Q12 = 12
number Q13 = 13
number Q14 = 14
number Q15 = 15

-- the question that may leave this one open
abbrev pub rests_on : Question → Option Question
rests_on Q6 = Some Q5
rests_on Q9 = Some Q5
rests_on Q10 = Some Q6
rests_on Q11 = Some Q7
rests_on Q12 = Some Q11
rests_on Q13 = Some Q12
rests_on q = None

-- ---- parts of verdicts

-- the labels of the linkage classes, or of the strong classes
abbrev pub labels_of : Verdict → List ℕ
labels_of (Classes count label) = label.list
labels_of (Strong count terminal label exit) = label.list
labels_of other = []

-- the number of linkage classes, or of strong classes
abbrev pub count_of : Verdict → ℕ
count_of (Classes count label) = count
count_of (Strong count terminal label exit) = count
count_of other = 0

-- for each strong class 0 or a reaction that leaves it
abbrev pub exits_of : Verdict → List ℕ
exits_of (Strong count terminal label exit) = exit.list
exits_of other = []

-- the number of terminal strong classes
abbrev pub terminal_of : Verdict → ℕ
terminal_of (Strong count terminal label exit) = terminal
terminal_of other = 0

-- the rank if it is decided
abbrev pub rank_of : Verdict → Option ℕ
rank_of (Rank rank base) = Some rank
rank_of other = None

-- the deficiency of the network and those of its linkage classes, if they are decided
abbrev pub deficiencies_of : Verdict → Option (ℕ × List ℕ)
deficiencies_of (Deficiency total classes) = Some (total, classes.list)
deficiencies_of other = None

-- the vector of a yes, if it is one
abbrev pub vector_given : Verdict → Option (List ℤ)
vector_given (YesVec vector) = Some vector.list
vector_given other = None

-- a verdict is open
abbrev pub IsOpen : Verdict → Type 0
IsOpen (Unknown gap) = Unit {0}
IsOpen other = ⊥

-- a yes of question 4, 7 or 11
abbrev pub IsYes : Verdict → Type 0
IsYes Yes = Unit {0}
IsYes (YesVec vector) = Unit {0}
IsYes other = ⊥

-- whether it is a yes of question 4, 7 or 11
abbrev pub is_yes : Verdict → Bool
is_yes Yes = true
is_yes (YesVec vector) = true
is_yes verdict = false

-- whether a vector of the confluence space is given
abbrev pub has_vector : Verdict → Bool
has_vector (YesVec vector) = true
has_vector verdict = false

-- a no of question 7 or 11
abbrev pub IsNo : Verdict → Type 0
IsNo (NoVec multipliers) = Unit {0}
IsNo (NoTerminal class count) = Unit {0}
IsNo NoDependence = Unit {0}
IsNo (NoCycle reaction walk) = Unit {0}
IsNo other = ⊥

-- ---- earlier verdicts

-- verdicts, each with its question
abbrev pub Earlier : Type 0
Earlier = List (Question × Verdict)

-- the verdict on an earlier question, not applicable if there is none
abbrev pub on : Earlier → Question → Verdict
on [] q = NotApplicable
on (e ∷ es) q = if number e.0 == number q then e.1 else on es q
