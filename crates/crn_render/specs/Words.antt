-- The words that the line of a question says.
-- Source: this project's own format.
-- Shapes: texts are lists of bytes, and a line ends by LF. Classes count from 1.
use Rattle.std.specs.Prelude.{ℕ, Bool, true, false, List, ◌++◌, map, codes, decimal}
use Rattle.crn_io.specs.Joined.{joined}
use Rattle.crn_cert.specs.Questions.{Question, Q1, Q2, Q3, Q4, Q5, Q6, Q7, Q8, Q9, Q10, Q11, Q12, Q13, Q14, Q15}
use Rattle.crn_cert.specs.declared.answer.Gap.{Gap}
use Rattle.crn_cert.specs.declared.answer.Gap.TheVariants.{Wide, Budget, Rests}
use Rattle.crn_cert.specs.declared.answer.Verdict.{Verdict}
use Rattle.crn_cert.specs.declared.answer.Verdict.TheVariants.{Classes, Strong, Rank, Deficiency, Yes, YesWeak, YesVec, YesSignal, No, NoReaction, NoVec, NoNumber, NoTerminal, NoClass, NoSum, NoDependence, NoCycle, NoPair, NotRegular, OnlyZero, Plane, NotApplicable, Unknown}

-- the title of a question
abbrev pub title : Question → List ℕ
title Q1 = codes "Q1 linkage classes"
title Q2 = codes "Q2 strong classes"
title Q3 = codes "Q3 reversible"
title Q4 = codes "Q4 weakly reversible"
title Q5 = codes "Q5 rank"
title Q6 = codes "Q6 deficiency"
title Q7 = codes "Q7 positively dependent"
title Q8 = codes "Q8 conservative"
title Q9 = codes "Q9 deficiency zero theorem"
title Q10 = codes "Q10 deficiency one theorem"
title Q11 = codes "Q11 regular"
title Q12 = codes "Q12 confluence vector"
title Q13 = codes "Q13 signal"
title Q14 = codes "Q14 concordant"
title Q15 = codes "Q15 strongly concordant"

-- numbers, with one space between each two
abbrev pub numbers_text : List ℕ → List ℕ
numbers_text ns = joined (codes " ") (map decimal ns)

-- why a question is open
abbrev pub gap_words : Gap → List ℕ
gap_words (Wide system class index basis) = codes "open, wide"
gap_words (Budget nodes) = codes "open, budget " ++ decimal nodes
gap_words (Rests question) = codes "open, rests on Q" ++ decimal question

-- a plain yes
abbrev pub yes_words : Question → List ℕ
yes_words Q10 = codes "hypotheses hold"
yes_words q = codes "yes"

-- the case of the Deficiency Zero Theorem
abbrev pub weak_words : Bool → List ℕ
weak_words true = codes "hypotheses hold, weakly reversible"
weak_words false = codes "hypotheses hold, not weakly reversible"

-- what goes before the reason of a no
abbrev pub no_words : Question → List ℕ
no_words Q11 = codes "no, "
no_words q = codes "hypotheses fail, "

-- the words of a verdict
abbrev pub verdict_words : Question → Verdict → List ℕ
verdict_words q (Classes count label) = decimal count
verdict_words q (Strong count terminal label exit) =
    decimal count ++ codes ", terminal " ++ decimal terminal
verdict_words q (Rank rank base) = decimal rank
verdict_words q (Deficiency total classes) =
    decimal total ++ codes ", classes " ++ numbers_text classes.list
verdict_words q Yes = yes_words q
verdict_words q (YesWeak weak) = weak_words weak
verdict_words q (YesVec vector) = codes "yes"
verdict_words q (YesSignal turn shelves mu m weights) = codes "yes"
verdict_words q No = codes "no"
verdict_words q (NoReaction reaction) = codes "no"
verdict_words q (NoVec multipliers) = codes "no"
verdict_words q (NoNumber number) = codes "hypotheses fail, deficiency " ++ decimal number
verdict_words q (NoTerminal class count) = no_words q ++ codes "class " ++ decimal class
    ++ codes " has " ++ decimal count ++ codes " terminal classes"
verdict_words q (NoClass class number) = no_words q ++ codes "class " ++ decimal class
    ++ codes " has deficiency " ++ decimal number
verdict_words q (NoSum total) = no_words q ++ codes "class deficiencies sum to " ++ decimal total
verdict_words q NoDependence = no_words q ++ codes "not positively dependent"
verdict_words q (NoCycle reaction walk) = no_words q ++ codes "a cycle in a terminal class"
verdict_words q (NoPair alpha weights) = codes "no"
verdict_words q NotRegular = codes "not applicable, not regular"
verdict_words q OnlyZero = codes "not applicable, no vector but zero"
verdict_words q (Plane first second one two) = codes "not applicable, two independent vectors"
verdict_words q NotApplicable = codes "not applicable"
verdict_words q (Unknown gap) = gap_words gap

-- the line of a question: its title, and the words of its verdict
abbrev pub question_line : Question → Verdict → List ℕ
question_line q verdict = title q ++ codes ": " ++ verdict_words q verdict ++ codes "\n"
