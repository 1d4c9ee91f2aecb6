-- Two verdicts that are true of one network have one line.
-- For each question and each verdict that may be true of a network, a table goes through the other one.
use Rattle.crn_render.proofs.Prelude.{◌≡◌, ℕ, List, ◌++◌, ap, ap₂, refl, Bool, ℤ, decimal, map, KeptInts, KeptNums, Net, sign, vectors, deficiency_is_one, rank_is_one_number, Question, Q1, Q2, Q3, Q4, Q5, Q6, Q7, Q8, Q9, Q10, Q11, Q12, Q13, Q14, Q15, IsTrueOf, by_turn, SaysLinkageClasses, SaysStrongClasses, SaysReversible, SaysWeaklyReversible, SaysRank, SaysDeficiency, SaysPositivelyDependent, SaysConservative, SaysDeficiencyZero, SaysDeficiencyOne, SaysRegular, SaysConfluence, SaysSignal, SaysConcordant, SaysStronglyConcordant, Verdict, Classes, Deficiency, No, NoClass, NoCycle, NoDependence, NoNumber, NoPair, NoReaction, NoSum, NoTerminal, NoVec, NotApplicable, NotRegular, OnlyZero, Plane, Rank, Strong, Yes, YesSignal, YesVec, YesWeak, title, numbers_text, weak_words, verdict_words, AreTwoReasons, TrueVerdictsHaveOneLine}
use Rattle.std.specs.Prelude.{codes}
use Rattle.crn_render.proofs.OneNumbers.{linkage_one, strong_one, terminal_one, one_is_not_several, split_one, split_count_one, total_one, classes_one, small_is_not_large, large_one, large_number_one}
use Rattle.crn_render.proofs.Exclusions.{reverse_or_not, stays_or_not, tests_one, sum_is_other, sums_one, line_is_not_zero, plane_is_not_zero}

q1_classes : (net : Net) (c : ℕ) (l : KeptNums) (w : Verdict) → SaysLinkageClasses net (Classes c l) → SaysLinkageClasses net w → verdict_words Q1 (Classes c l) ≡ verdict_words Q1 w
q1_classes net c l (Classes c' l') p q = ap decimal (linkage_one net c c' l.list l'.list p q)
q1_classes net c l w p q = absurd q

q1_words : (net : Net) (v w : Verdict) → SaysLinkageClasses net v → SaysLinkageClasses net w → verdict_words Q1 v ≡ verdict_words Q1 w
q1_words net (Classes c l) w p q = q1_classes net c l w p q
q1_words net v w p q = absurd p

q2_strong : (net : Net) (c t : ℕ) (l x : KeptNums) (w : Verdict) → SaysStrongClasses net (Strong c t l x) → SaysStrongClasses net w → verdict_words Q2 (Strong c t l x) ≡ verdict_words Q2 w
q2_strong net c t l x (Strong c' t' l' x') p q = ap₂ (λ (m n : ℕ). decimal m ++ codes ", terminal " ++ decimal n) (strong_one net c c' t t' l.list l'.list x.list x'.list p q) (terminal_one net c c' t t' l.list l'.list x.list x'.list p q)
q2_strong net c t l x w p q = absurd q

q2_words : (net : Net) (v w : Verdict) → SaysStrongClasses net v → SaysStrongClasses net w → verdict_words Q2 v ≡ verdict_words Q2 w
q2_words net (Strong c t l x) w p q = q2_strong net c t l x w p q
q2_words net v w p q = absurd p

q3_yes : (net : Net) (w : Verdict) → SaysReversible net Yes → SaysReversible net w → verdict_words Q3 Yes ≡ verdict_words Q3 w
q3_yes net Yes p q = refl
q3_yes net (NoReaction r') p q = absurd (reverse_or_not net r' p q)
q3_yes net w p q = absurd q

q3_no_reaction : (net : Net) (r : ℕ) (w : Verdict) → SaysReversible net (NoReaction r) → SaysReversible net w → verdict_words Q3 (NoReaction r) ≡ verdict_words Q3 w
q3_no_reaction net r Yes p q = absurd (reverse_or_not net r q p)
q3_no_reaction net r (NoReaction r') p q = refl
q3_no_reaction net r w p q = absurd q

q3_words : (net : Net) (v w : Verdict) → SaysReversible net v → SaysReversible net w → verdict_words Q3 v ≡ verdict_words Q3 w
q3_words net Yes w p q = q3_yes net w p q
q3_words net (NoReaction r) w p q = q3_no_reaction net r w p q
q3_words net v w p q = absurd p

q4_yes : (net : Net) (w : Verdict) → SaysWeaklyReversible net Yes → SaysWeaklyReversible net w → verdict_words Q4 Yes ≡ verdict_words Q4 w
q4_yes net Yes p q = refl
q4_yes net (NoReaction r') p q = absurd (stays_or_not net r' p q)
q4_yes net w p q = absurd q

q4_no_reaction : (net : Net) (r : ℕ) (w : Verdict) → SaysWeaklyReversible net (NoReaction r) → SaysWeaklyReversible net w → verdict_words Q4 (NoReaction r) ≡ verdict_words Q4 w
q4_no_reaction net r Yes p q = absurd (stays_or_not net r q p)
q4_no_reaction net r (NoReaction r') p q = refl
q4_no_reaction net r w p q = absurd q

q4_words : (net : Net) (v w : Verdict) → SaysWeaklyReversible net v → SaysWeaklyReversible net w → verdict_words Q4 v ≡ verdict_words Q4 w
q4_words net Yes w p q = q4_yes net w p q
q4_words net (NoReaction r) w p q = q4_no_reaction net r w p q
q4_words net v w p q = absurd p

q5_rank : (net : Net) (c : ℕ) (b : KeptNums) (w : Verdict) → SaysRank net (Rank c b) → SaysRank net w → verdict_words Q5 (Rank c b) ≡ verdict_words Q5 w
q5_rank net c b (Rank c' b') p q = ap decimal (rank_is_one_number (vectors net) c c' p.rank_is q.rank_is)
q5_rank net c b w p q = absurd q

q5_words : (net : Net) (v w : Verdict) → SaysRank net v → SaysRank net w → verdict_words Q5 v ≡ verdict_words Q5 w
q5_words net (Rank c b) w p q = q5_rank net c b w p q
q5_words net v w p q = absurd p

q6_deficiency : (net : Net) (t : ℕ) (c : KeptNums) (w : Verdict) → SaysDeficiency net (Deficiency t c) → SaysDeficiency net w → verdict_words Q6 (Deficiency t c) ≡ verdict_words Q6 w
q6_deficiency net t c (Deficiency t' c') p q = ap₂ (λ (n : ℕ) (ns : List ℕ). decimal n ++ codes ", classes " ++ numbers_text ns) (total_one net t t' c.list c'.list p q) (classes_one net t t' c.list c'.list p q)
q6_deficiency net t c w p q = absurd q

q6_words : (net : Net) (v w : Verdict) → SaysDeficiency net v → SaysDeficiency net w → verdict_words Q6 v ≡ verdict_words Q6 w
q6_words net (Deficiency t c) w p q = q6_deficiency net t c w p q
q6_words net v w p q = absurd p

q7_yes_vec : (net : Net) (a : KeptInts) (w : Verdict) → SaysPositivelyDependent net (YesVec a) → SaysPositivelyDependent net w → verdict_words Q7 (YesVec a) ≡ verdict_words Q7 w
q7_yes_vec net a (YesVec a') p q = refl
q7_yes_vec net a (NoVec u') p q = absurd (q.1 (a.list, p))
q7_yes_vec net a w p q = absurd q

q7_no_vec : (net : Net) (u : KeptInts) (w : Verdict) → SaysPositivelyDependent net (NoVec u) → SaysPositivelyDependent net w → verdict_words Q7 (NoVec u) ≡ verdict_words Q7 w
q7_no_vec net u (YesVec a') p q = absurd (p.1 (a'.list, q))
q7_no_vec net u (NoVec u') p q = refl
q7_no_vec net u w p q = absurd q

q7_words : (net : Net) (v w : Verdict) → SaysPositivelyDependent net v → SaysPositivelyDependent net w → verdict_words Q7 v ≡ verdict_words Q7 w
q7_words net (YesVec a) w p q = q7_yes_vec net a w p q
q7_words net (NoVec u) w p q = q7_no_vec net u w p q
q7_words net v w p q = absurd p

q8_yes_vec : (net : Net) (a : KeptInts) (w : Verdict) → SaysConservative net (YesVec a) → SaysConservative net w → verdict_words Q8 (YesVec a) ≡ verdict_words Q8 w
q8_yes_vec net a (YesVec a') p q = refl
q8_yes_vec net a (NoVec u') p q = absurd (q.1 (a.list, p))
q8_yes_vec net a w p q = absurd q

q8_no_vec : (net : Net) (u : KeptInts) (w : Verdict) → SaysConservative net (NoVec u) → SaysConservative net w → verdict_words Q8 (NoVec u) ≡ verdict_words Q8 w
q8_no_vec net u (YesVec a') p q = absurd (p.1 (a'.list, q))
q8_no_vec net u (NoVec u') p q = refl
q8_no_vec net u w p q = absurd q

q8_words : (net : Net) (v w : Verdict) → SaysConservative net v → SaysConservative net w → verdict_words Q8 v ≡ verdict_words Q8 w
q8_words net (YesVec a) w p q = q8_yes_vec net a w p q
q8_words net (NoVec u) w p q = q8_no_vec net u w p q
q8_words net v w p q = absurd p

q9_yes_weak : (net : Net) (b : Bool) (w : Verdict) → SaysDeficiencyZero net (YesWeak b) → SaysDeficiencyZero net w → verdict_words Q9 (YesWeak b) ≡ verdict_words Q9 w
q9_yes_weak net b (YesWeak b') p q = ap weak_words (tests_one b b' p.1 q.1)
q9_yes_weak net b (NoNumber d') p q = absurd (q.1 (deficiency_is_one net d' 0 q.0 p.0))
q9_yes_weak net b w p q = absurd q

q9_no_number : (net : Net) (d : ℕ) (w : Verdict) → SaysDeficiencyZero net (NoNumber d) → SaysDeficiencyZero net w → verdict_words Q9 (NoNumber d) ≡ verdict_words Q9 w
q9_no_number net d (YesWeak b') p q = absurd (p.1 (deficiency_is_one net d 0 p.0 q.0))
q9_no_number net d (NoNumber d') p q = ap (λ (n : ℕ). codes "hypotheses fail, deficiency " ++ decimal n) (deficiency_is_one net d d' p.0 q.0)
q9_no_number net d w p q = absurd q

q9_words : (net : Net) (v w : Verdict) → SaysDeficiencyZero net v → SaysDeficiencyZero net w → verdict_words Q9 v ≡ verdict_words Q9 w
q9_words net (YesWeak b) w p q = q9_yes_weak net b w p q
q9_words net (NoNumber d) w p q = q9_no_number net d w p q
q9_words net v w p q = absurd p

q10_yes : (net : Net) (w : Verdict) → SaysDeficiencyOne net Yes → SaysDeficiencyOne net w → verdict_words Q10 Yes ≡ verdict_words Q10 w
q10_yes net Yes p q = refl
q10_yes net (NoTerminal k' n') p q = absurd (one_is_not_several net k' n' p.terminal q)
q10_yes net (NoClass k' d') p q = absurd (small_is_not_large net k' d' p.total p.classes p.deficiencies p.small q)
q10_yes net (NoSum x') p q = absurd (sum_is_other net x' p q)
q10_yes net w p q = absurd q

q10_no_terminal : (net : Net) (k n : ℕ) (w : Verdict) → SaysDeficiencyOne net (NoTerminal k n) → SaysDeficiencyOne net w → verdict_words Q10 (NoTerminal k n) ≡ verdict_words Q10 w
q10_no_terminal net k n Yes p q = absurd (one_is_not_several net k n q.terminal p)
q10_no_terminal net k n (NoTerminal k' n') p q = ap₂ (λ (i j : ℕ). verdict_words Q10 (NoTerminal i j)) (split_one net k k' n n' p q) (split_count_one net k k' n n' p q)
q10_no_terminal net k n (NoClass k' d') p q = absurd (one_is_not_several net k n q.terminal p)
q10_no_terminal net k n (NoSum x') p q = absurd (one_is_not_several net k n q.terminal p)
q10_no_terminal net k n w p q = absurd q

q10_no_class : (net : Net) (k d : ℕ) (w : Verdict) → SaysDeficiencyOne net (NoClass k d) → SaysDeficiencyOne net w → verdict_words Q10 (NoClass k d) ≡ verdict_words Q10 w
q10_no_class net k d Yes p q = absurd (small_is_not_large net k d q.total q.classes q.deficiencies q.small p)
q10_no_class net k d (NoTerminal k' n') p q = absurd (one_is_not_several net k' n' p.terminal q)
q10_no_class net k d (NoClass k' d') p q = ap₂ (λ (i j : ℕ). verdict_words Q10 (NoClass i j)) (large_one net k k' d d' p q) (large_number_one net k k' d d' p q)
q10_no_class net k d (NoSum x') p q = absurd (small_is_not_large net k d q.total q.classes q.deficiencies q.small p)
q10_no_class net k d w p q = absurd q

q10_no_sum : (net : Net) (x : ℕ) (w : Verdict) → SaysDeficiencyOne net (NoSum x) → SaysDeficiencyOne net w → verdict_words Q10 (NoSum x) ≡ verdict_words Q10 w
q10_no_sum net x Yes p q = absurd (sum_is_other net x q p)
q10_no_sum net x (NoTerminal k' n') p q = absurd (one_is_not_several net k' n' p.terminal q)
q10_no_sum net x (NoClass k' d') p q = absurd (small_is_not_large net k' d' p.total p.classes p.deficiencies p.small q)
q10_no_sum net x (NoSum x') p q = ap (λ (n : ℕ). verdict_words Q10 (NoSum n)) (sums_one net x x' p q)
q10_no_sum net x w p q = absurd q

q10_words : (net : Net) (v w : Verdict) → SaysDeficiencyOne net v → SaysDeficiencyOne net w → verdict_words Q10 v ≡ verdict_words Q10 w
q10_words net Yes w p q = q10_yes net w p q
q10_words net (NoTerminal k n) w p q = q10_no_terminal net k n w p q
q10_words net (NoClass k d) w p q = q10_no_class net k d w p q
q10_words net (NoSum x) w p q = q10_no_sum net x w p q
q10_words net v w p q = absurd p

q11_yes : (net : Net) (w : Verdict) → SaysRegular net Yes → SaysRegular net w → (AreTwoReasons Q11 Yes w → ⊥) → verdict_words Q11 Yes ≡ verdict_words Q11 w
q11_yes net Yes p q other = refl
q11_yes net (NoTerminal k' n') p q other = absurd (one_is_not_several net k' n' p.terminal q)
q11_yes net NoDependence p q other = absurd (q.1 p.dependent)
q11_yes net (NoCycle r' k') p q other = absurd (q.1.no_cut_pair (p.cut_pairs q.1.y q.1.z q.1.pair))
q11_yes net w p q other = absurd q

q11_no_terminal : (net : Net) (k n : ℕ) (w : Verdict) → SaysRegular net (NoTerminal k n) → SaysRegular net w → (AreTwoReasons Q11 (NoTerminal k n) w → ⊥) → verdict_words Q11 (NoTerminal k n) ≡ verdict_words Q11 w
q11_no_terminal net k n Yes p q other = absurd (one_is_not_several net k n q.terminal p)
q11_no_terminal net k n (NoTerminal k' n') p q other = ap₂ (λ (i j : ℕ). verdict_words Q11 (NoTerminal i j)) (split_one net k k' n n' p q) (split_count_one net k k' n n' p q)
q11_no_terminal net k n NoDependence p q other = absurd (one_is_not_several net k n q.0 p)
q11_no_terminal net k n (NoCycle r' k') p q other = absurd (one_is_not_several net k n q.0 p)
q11_no_terminal net k n w p q other = absurd q

q11_no_dependence : (net : Net) (w : Verdict) → SaysRegular net NoDependence → SaysRegular net w → (AreTwoReasons Q11 NoDependence w → ⊥) → verdict_words Q11 NoDependence ≡ verdict_words Q11 w
q11_no_dependence net Yes p q other = absurd (p.1 q.dependent)
q11_no_dependence net (NoTerminal k' n') p q other = absurd (one_is_not_several net k' n' p.0 q)
q11_no_dependence net NoDependence p q other = refl
q11_no_dependence net (NoCycle r' k') p q other = absurd (other tt)
q11_no_dependence net w p q other = absurd q

q11_no_cycle : (net : Net) (r : ℕ) (k : KeptNums) (w : Verdict) → SaysRegular net (NoCycle r k) → SaysRegular net w → (AreTwoReasons Q11 (NoCycle r k) w → ⊥) → verdict_words Q11 (NoCycle r k) ≡ verdict_words Q11 w
q11_no_cycle net r k Yes p q other = absurd (p.1.no_cut_pair (q.cut_pairs p.1.y p.1.z p.1.pair))
q11_no_cycle net r k (NoTerminal k' n') p q other = absurd (one_is_not_several net k' n' p.0 q)
q11_no_cycle net r k NoDependence p q other = absurd (other tt)
q11_no_cycle net r k (NoCycle r' k') p q other = refl
q11_no_cycle net r k w p q other = absurd q

q11_words : (net : Net) (v w : Verdict) → SaysRegular net v → SaysRegular net w → (AreTwoReasons Q11 v w → ⊥) → verdict_words Q11 v ≡ verdict_words Q11 w
q11_words net Yes w p q other = q11_yes net w p q other
q11_words net (NoTerminal k n) w p q other = q11_no_terminal net k n w p q other
q11_words net NoDependence w p q other = q11_no_dependence net w p q other
q11_words net (NoCycle r k) w p q other = q11_no_cycle net r k w p q other
q11_words net v w p q other = absurd p

q12_yes_vec : (net : Net) (a : KeptInts) (w : Verdict) → SaysConfluence net (YesVec a) → SaysConfluence net w → verdict_words Q12 (YesVec a) ≡ verdict_words Q12 w
q12_yes_vec net a (YesVec a') p q = refl
q12_yes_vec net a NotRegular p q = absurd (q p.0)
q12_yes_vec net a OnlyZero p q = absurd (line_is_not_zero net p.1 q.1)
q12_yes_vec net a (Plane f' s' g' h') p q = absurd (q.1.apart (p.1.one g'.list h'.list q.1.one q.1.two))
q12_yes_vec net a w p q = absurd q

q12_not_regular : (net : Net) (w : Verdict) → SaysConfluence net NotRegular → SaysConfluence net w → verdict_words Q12 NotRegular ≡ verdict_words Q12 w
q12_not_regular net (YesVec a') p q = absurd (p q.0)
q12_not_regular net NotRegular p q = refl
q12_not_regular net OnlyZero p q = absurd (p q.0)
q12_not_regular net (Plane f' s' g' h') p q = absurd (p q.0)
q12_not_regular net w p q = absurd q

q12_only_zero : (net : Net) (w : Verdict) → SaysConfluence net OnlyZero → SaysConfluence net w → verdict_words Q12 OnlyZero ≡ verdict_words Q12 w
q12_only_zero net (YesVec a') p q = absurd (line_is_not_zero net q.1 p.1)
q12_only_zero net NotRegular p q = absurd (q p.0)
q12_only_zero net OnlyZero p q = refl
q12_only_zero net (Plane f' s' g' h') p q = absurd (plane_is_not_zero net g'.list h'.list p.1 q.1)
q12_only_zero net w p q = absurd q

q12_plane : (net : Net) (f s : ℕ) (g h : KeptInts) (w : Verdict) → SaysConfluence net (Plane f s g h) → SaysConfluence net w → verdict_words Q12 (Plane f s g h) ≡ verdict_words Q12 w
q12_plane net f s g h (YesVec a') p q = absurd (p.1.apart (q.1.one g.list h.list p.1.one p.1.two))
q12_plane net f s g h NotRegular p q = absurd (q p.0)
q12_plane net f s g h OnlyZero p q = absurd (plane_is_not_zero net g.list h.list q.1 p.1)
q12_plane net f s g h (Plane f' s' g' h') p q = refl
q12_plane net f s g h w p q = absurd q

q12_words : (net : Net) (v w : Verdict) → SaysConfluence net v → SaysConfluence net w → verdict_words Q12 v ≡ verdict_words Q12 w
q12_words net (YesVec a) w p q = q12_yes_vec net a w p q
q12_words net NotRegular w p q = q12_not_regular net w p q
q12_words net OnlyZero w p q = q12_only_zero net w p q
q12_words net (Plane f s g h) w p q = q12_plane net f s g h w p q
q12_words net v w p q = absurd p

q13_yes_signal : (net : Net) (t : ℤ) (s u : KeptInts) (m : ℤ) (z : KeptInts) (w : Verdict) → SaysSignal net (YesSignal t s u m z) → SaysSignal net w → verdict_words Q13 (YesSignal t s u m z) ≡ verdict_words Q13 w
q13_yes_signal net t s u m z (YesSignal t' s' u' m' z') p q = refl
q13_yes_signal net t s u m z No p q = absurd (q.2 (by_turn t p.2.g) p.2.confluence (map sign s.list) u.list m z.list p.2.signal)
q13_yes_signal net t s u m z NotApplicable p q = absurd (q (p.0, p.1))
q13_yes_signal net t s u m z w p q = absurd q

q13_no : (net : Net) (w : Verdict) → SaysSignal net No → SaysSignal net w → verdict_words Q13 No ≡ verdict_words Q13 w
q13_no net (YesSignal t' s' u' m' z') p q = absurd (p.2 (by_turn t' q.2.g) q.2.confluence (map sign s'.list) u'.list m' z'.list q.2.signal)
q13_no net No p q = refl
q13_no net NotApplicable p q = absurd (q (p.0, p.1))
q13_no net w p q = absurd q

q13_not_applicable : (net : Net) (w : Verdict) → SaysSignal net NotApplicable → SaysSignal net w → verdict_words Q13 NotApplicable ≡ verdict_words Q13 w
q13_not_applicable net (YesSignal t' s' u' m' z') p q = absurd (p (q.0, q.1))
q13_not_applicable net No p q = absurd (p (q.0, q.1))
q13_not_applicable net NotApplicable p q = refl
q13_not_applicable net w p q = absurd q

q13_words : (net : Net) (v w : Verdict) → SaysSignal net v → SaysSignal net w → verdict_words Q13 v ≡ verdict_words Q13 w
q13_words net (YesSignal t s u m z) w p q = q13_yes_signal net t s u m z w p q
q13_words net No w p q = q13_no net w p q
q13_words net NotApplicable w p q = q13_not_applicable net w p q
q13_words net v w p q = absurd p

q14_yes : (net : Net) (w : Verdict) → SaysConcordant net Yes → SaysConcordant net w → verdict_words Q14 Yes ≡ verdict_words Q14 w
q14_yes net Yes p q = refl
q14_yes net (NoPair a' z') p q = absurd (p a'.list z'.list q)
q14_yes net w p q = absurd q

q14_no_pair : (net : Net) (a z : KeptInts) (w : Verdict) → SaysConcordant net (NoPair a z) → SaysConcordant net w → verdict_words Q14 (NoPair a z) ≡ verdict_words Q14 w
q14_no_pair net a z Yes p q = absurd (q a.list z.list p)
q14_no_pair net a z (NoPair a' z') p q = refl
q14_no_pair net a z w p q = absurd q

q14_words : (net : Net) (v w : Verdict) → SaysConcordant net v → SaysConcordant net w → verdict_words Q14 v ≡ verdict_words Q14 w
q14_words net Yes w p q = q14_yes net w p q
q14_words net (NoPair a z) w p q = q14_no_pair net a z w p q
q14_words net v w p q = absurd p

q15_yes : (net : Net) (w : Verdict) → SaysStronglyConcordant net Yes → SaysStronglyConcordant net w → verdict_words Q15 Yes ≡ verdict_words Q15 w
q15_yes net Yes p q = refl
q15_yes net (NoPair a' z') p q = absurd (p a'.list z'.list q)
q15_yes net w p q = absurd q

q15_no_pair : (net : Net) (a z : KeptInts) (w : Verdict) → SaysStronglyConcordant net (NoPair a z) → SaysStronglyConcordant net w → verdict_words Q15 (NoPair a z) ≡ verdict_words Q15 w
q15_no_pair net a z Yes p q = absurd (q a.list z.list p)
q15_no_pair net a z (NoPair a' z') p q = refl
q15_no_pair net a z w p q = absurd q

q15_words : (net : Net) (v w : Verdict) → SaysStronglyConcordant net v → SaysStronglyConcordant net w → verdict_words Q15 v ≡ verdict_words Q15 w
q15_words net Yes w p q = q15_yes net w p q
q15_words net (NoPair a z) w p q = q15_no_pair net a z w p q
q15_words net v w p q = absurd p

-- the words of two true verdicts are the same
words_one : (net : Net) (q : Question) (v w : Verdict) → IsTrueOf net q v → IsTrueOf net q w → (AreTwoReasons q v w → ⊥) → verdict_words q v ≡ verdict_words q w
words_one net Q1 v w p q other = q1_words net v w p q
words_one net Q2 v w p q other = q2_words net v w p q
words_one net Q3 v w p q other = q3_words net v w p q
words_one net Q4 v w p q other = q4_words net v w p q
words_one net Q5 v w p q other = q5_words net v w p q
words_one net Q6 v w p q other = q6_words net v w p q
words_one net Q7 v w p q other = q7_words net v w p q
words_one net Q8 v w p q other = q8_words net v w p q
words_one net Q9 v w p q other = q9_words net v w p q
words_one net Q10 v w p q other = q10_words net v w p q
words_one net Q11 v w p q other = q11_words net v w p q other
words_one net Q12 v w p q other = q12_words net v w p q
words_one net Q13 v w p q other = q13_words net v w p q
words_one net Q14 v w p q other = q14_words net v w p q
words_one net Q15 v w p q other = q15_words net v w p q

pub true_verdicts_have_one_line : TrueVerdictsHaveOneLine
true_verdicts_have_one_line net q v w p p' other = ap (λ (t : List ℕ). title q ++ codes ": " ++ t ++ codes "\n") (words_one net q v w p p' other)
