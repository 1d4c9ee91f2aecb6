-- Reports of worked networks, by computation. The expected texts are written by hand.
use Rattle.crn_render.proofs.Prelude.{◌≡◌, ℕ, List, [], ◌∷◌, ◌++◌, refl, codes, ℤ, pos, negsuc, true, false, digits, KeptInts, KeptNums, Net, side, Question, questions, Q5, Q6, Q9, Q10, Q11, Q12, Q13, Q14, Q15, Wide, Budget, Rests, Verdict, Classes, Strong, Rank, Deficiency, Yes, YesWeak, YesVec, YesSignal, No, NoReaction, NoVec, NoNumber, NoTerminal, NoClass, NoSum, NoDependence, NoCycle, NoPair, NotRegular, OnlyZero, Plane, NotApplicable, Unknown, class_line, strong_line, system_line, index_line, render, first_line, species_line, complexes_line, reactions_line, open_line}

nums : List ℕ → KeptNums
nums ns = record { list = ns; spare = 0 }

ints : List ℤ → KeptInts
ints zs = record { list = zs; spare = 0 }

-- the network of these reactions between A and B
net : List (ℕ × ℕ) → Net
net reactions = record { names = codes "A" ∷ codes "B" ∷ []; complexes = (pos 1 ∷ pos 0 ∷ []) ∷ (pos 0 ∷ pos 1 ∷ []) ∷ []; reactions = reactions }

-- A -> B
one_way : List Verdict
one_way = Classes 1 (nums (1 ∷ 1 ∷ [])) ∷ Strong 2 1 (nums (1 ∷ 2 ∷ [])) (nums (1 ∷ 0 ∷ [])) ∷ NoReaction 1 ∷ NoReaction 1 ∷ Rank 1 (nums (1 ∷ [])) ∷ Deficiency 0 (nums (0 ∷ [])) ∷ NoVec (ints (pos 1 ∷ pos 0 ∷ [])) ∷ YesVec (ints (pos 1 ∷ pos 1 ∷ [])) ∷ YesWeak false ∷ Yes ∷ NoDependence ∷ NotRegular ∷ NotApplicable ∷ Yes ∷ Yes ∷ []

one_way_report : render questions (net ((0, 1) ∷ [])) one_way ≡ codes "crn report 1\n" ++ (codes "species 2: A B\n" ++ (codes "complexes 2: A; B\n" ++ (codes "reactions 1\n" ++ (codes "Q1 linkage classes: 1\n" ++ (codes "  class 1: A; B\n" ++ (codes "Q2 strong classes: 2, terminal 1\n" ++ (codes "  strong 1: A\n" ++ (codes "  strong 2: B (terminal)\n" ++ (codes "Q3 reversible: no\n" ++ (codes "  reaction 1: A -> B\n" ++ (codes "Q4 weakly reversible: no\n" ++ (codes "  reaction 1: A -> B\n" ++ (codes "Q5 rank: 1\n" ++ (codes "  independent reactions: 1\n" ++ (codes "Q6 deficiency: 0, classes 0\n" ++ (codes "Q7 positively dependent: no\n" ++ (codes "  multipliers: 1 0\n" ++ (codes "Q8 conservative: yes\n" ++ (codes "  positive law: 1 1\n" ++ (codes "Q9 deficiency zero theorem: hypotheses hold, not weakly reversible\n" ++ (codes "Q10 deficiency one theorem: hypotheses hold\n" ++ (codes "Q11 regular: no, not positively dependent\n" ++ (codes "Q12 confluence vector: not applicable, not regular\n" ++ (codes "Q13 signal: not applicable\n" ++ (codes "Q14 concordant: yes\n" ++ (codes "Q15 strongly concordant: yes\n" ++ (codes "open: 0\n")))))))))))))))))))))))))))
unfolding digits side class_line strong_line system_line index_line first_line species_line complexes_line reactions_line open_line net nums ints one_way
one_way_report = refl

-- A <-> B
both_ways : List Verdict
both_ways = Classes 1 (nums (1 ∷ 1 ∷ [])) ∷ Strong 1 1 (nums (1 ∷ 1 ∷ [])) (nums (0 ∷ [])) ∷ Yes ∷ Yes ∷ Rank 1 (nums (1 ∷ [])) ∷ Deficiency 0 (nums (0 ∷ [])) ∷ YesVec (ints (pos 1 ∷ pos 1 ∷ [])) ∷ YesVec (ints (pos 1 ∷ pos 1 ∷ [])) ∷ YesWeak true ∷ Yes ∷ Yes ∷ OnlyZero ∷ NotApplicable ∷ Yes ∷ Yes ∷ []

both_ways_report : render questions (net ((0, 1) ∷ (1, 0) ∷ [])) both_ways ≡ codes "crn report 1\n" ++ (codes "species 2: A B\n" ++ (codes "complexes 2: A; B\n" ++ (codes "reactions 2\n" ++ (codes "Q1 linkage classes: 1\n" ++ (codes "  class 1: A; B\n" ++ (codes "Q2 strong classes: 1, terminal 1\n" ++ (codes "  strong 1: A; B (terminal)\n" ++ (codes "Q3 reversible: yes\n" ++ (codes "Q4 weakly reversible: yes\n" ++ (codes "Q5 rank: 1\n" ++ (codes "  independent reactions: 1\n" ++ (codes "Q6 deficiency: 0, classes 0\n" ++ (codes "Q7 positively dependent: yes\n" ++ (codes "  positive combination: 1 1\n" ++ (codes "Q8 conservative: yes\n" ++ (codes "  positive law: 1 1\n" ++ (codes "Q9 deficiency zero theorem: hypotheses hold, weakly reversible\n" ++ (codes "Q10 deficiency one theorem: hypotheses hold\n" ++ (codes "Q11 regular: yes\n" ++ (codes "Q12 confluence vector: not applicable, no vector but zero\n" ++ (codes "Q13 signal: not applicable\n" ++ (codes "Q14 concordant: yes\n" ++ (codes "Q15 strongly concordant: yes\n" ++ (codes "open: 0\n"))))))))))))))))))))))))
unfolding digits side class_line strong_line system_line index_line first_line species_line complexes_line reactions_line open_line net nums ints both_ways
both_ways_report = refl

-- the lines of other verdicts
asked : List Question
asked = Q6 ∷ Q5 ∷ Q14 ∷ Q6 ∷ Q6 ∷ Q9 ∷ Q10 ∷ Q10 ∷ Q10 ∷ Q11 ∷ Q11 ∷ Q12 ∷ Q12 ∷ Q13 ∷ Q13 ∷ Q14 ∷ Q15 ∷ []

said : List Verdict
said = Unknown (Wide 3 1 2 (nums (1 ∷ 2 ∷ []))) ∷ Unknown (Wide 1 0 1 (nums (1 ∷ 2 ∷ []))) ∷ Unknown (Budget 7) ∷ Unknown (Rests 5) ∷ Deficiency 1 (nums (0 ∷ 0 ∷ [])) ∷ NoNumber 1 ∷ NoTerminal 1 2 ∷ NoClass 1 2 ∷ NoSum 0 ∷ NoTerminal 1 2 ∷ NoCycle 1 (nums (1 ∷ 2 ∷ [])) ∷ YesVec (ints (pos 1 ∷ negsuc 0 ∷ [])) ∷ Plane 1 2 (ints (pos 1 ∷ pos 0 ∷ [])) (ints (pos 0 ∷ pos 1 ∷ [])) ∷ YesSignal (negsuc 0) (ints (pos 1 ∷ negsuc 0 ∷ pos 0 ∷ [])) (ints (pos 6 ∷ negsuc 1 ∷ [])) (pos 5) (ints (pos 1 ∷ pos 0 ∷ [])) ∷ No ∷ NoPair (ints (pos 1 ∷ pos 1 ∷ [])) (ints (pos 1 ∷ pos 0 ∷ [])) ∷ NoPair (ints (pos 1 ∷ pos 1 ∷ [])) (ints (pos 2 ∷ negsuc 0 ∷ [])) ∷ []

other_lines : render asked (net ((0, 1) ∷ (1, 0) ∷ [])) said ≡ codes "crn report 1\n" ++ (codes "species 2: A B\n" ++ (codes "complexes 2: A; B\n" ++ (codes "reactions 2\n" ++ (codes "Q6 deficiency: open, wide\n" ++ (codes "  system 3 class 1\n" ++ (codes "  index 2\n" ++ (codes "  basis: 1 2\n" ++ (codes "Q5 rank: open, wide\n" ++ (codes "  system 1\n" ++ (codes "  index 1\n" ++ (codes "  basis: 1 2\n" ++ (codes "Q14 concordant: open, budget 7\n" ++ (codes "Q6 deficiency: open, rests on Q5\n" ++ (codes "Q6 deficiency: 1, classes 0 0\n" ++ (codes "Q9 deficiency zero theorem: hypotheses fail, deficiency 1\n" ++ (codes "Q10 deficiency one theorem: hypotheses fail, class 1 has 2 terminal classes\n" ++ (codes "Q10 deficiency one theorem: hypotheses fail, class 1 has deficiency 2\n" ++ (codes "Q10 deficiency one theorem: hypotheses fail, class deficiencies sum to 0\n" ++ (codes "Q11 regular: no, class 1 has 2 terminal classes\n" ++ (codes "Q11 regular: no, a cycle in a terminal class\n" ++ (codes "  reaction 1, walk: A; B\n" ++ (codes "Q12 confluence vector: yes\n" ++ (codes "  vector: 1 -1\n" ++ (codes "Q12 confluence vector: not applicable, two independent vectors\n" ++ (codes "  vector: 1 0\n" ++ (codes "  vector: 0 1\n" ++ (codes "Q13 signal: yes\n" ++ (codes "  turn: -1\n" ++ (codes "  shelves: upper lower middle\n" ++ (codes "  mu: 6 -2\n" ++ (codes "  m: 5\n" ++ (codes "Q13 signal: no\n" ++ (codes "Q14 concordant: no\n" ++ (codes "  sigma: -1 1\n" ++ (codes "  alpha: 1 1\n" ++ (codes "Q15 strongly concordant: no\n" ++ (codes "  sigma: -3 3\n" ++ (codes "  alpha: 1 1\n" ++ (codes "open: 4\n")))))))))))))))))))))))))))))))))))))))
unfolding digits side class_line strong_line system_line index_line first_line species_line complexes_line reactions_line open_line net nums ints asked said
other_lines = refl
