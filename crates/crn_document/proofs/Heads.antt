-- What the head of each question says, and on which sizes its forms rest.
use Rattle.crn_document.proofs.Prelude.{◌≡◌, ◌≤◌, ◌+◌, ◌++◌, ◌∙◌, ℕ, List, [], ◌∷◌, map, refl, sym, subst, ap, ap₂, inl, inr, arith, ℤ, codes, min, range_with_len, Net, Q13, Record, Form, CountAndPart, ClassWide, Turn, TwoOf, small, just, Sizes, head, yes, no, no_by, none_by, wide, wide_signal, rests, spent, open_by, heads, question_of, KeptFacts, asked, IsBuilt, IsKnownFor, HasClassSizes, IsHead, some_number, few_numbers, asked_number}
use Rattle.std.specs.Prelude.{Bool, true, false}
use Rattle.crn_document.proofs.Linkages.{count_few}
use Rattle.crn_document.proofs.HeadFacts.{HeadFacts, head_facts}

pub said_facts : (net : Net) (n : ℕ) (facts : KeptFacts) (head : List ℤ) (h : Record) → IsBuilt n → IsKnownFor net n facts → IsHead net facts.earlier n head h → HeadFacts net facts.earlier n h head
said_facts net n facts head h built_is known said =
    subst (λ (t : List ℤ). HeadFacts net facts.earlier n h t) (sym said.tag) (head_facts net facts.earlier n h (asked_number n built_is) known.network (count_few net n facts built_is known) said.form)

-- the forms of the head of question 13, by the sizes on which they rest
abbrev signal_wide : (species complexes pairs : ℕ) → Bool → List Form
signal_wide species complexes pairs true = wide (codes "q13") 4 5 (species + 1) (complexes + pairs) ∷ []
signal_wide species complexes pairs false = []

abbrev signal_heads : (species reactions complexes pairs : ℕ) → Bool → List Form
signal_heads species reactions complexes pairs vector =
    head (codes "q13") 1 yes (Turn ∷ []) ∷ head (codes "q13") 2 no [] ∷ head (codes "q13") 3 (codes "none" ∷ []) []
    ∷ wide (codes "q13") 4 2 reactions species ∷ signal_wide species complexes pairs vector ++ spent (codes "q13") 5 ∷ rests (codes "q13") 6 12 ∷ []

signals_wide : (z : Sizes) (b : Bool) → wide_signal b z ≡ signal_wide z.species z.complexes z.pairs b
signals_wide z true = refl
signals_wide z false = refl

heads_signal : (z : Sizes) → heads Q13 z ≡ signal_heads z.species z.reactions z.complexes z.pairs z.vector
heads_signal z = ap (λ (fs : List Form). head (codes "q13") 1 yes (Turn ∷ []) ∷ head (codes "q13") 2 no [] ∷ head (codes "q13") 3 (codes "none" ∷ []) []
    ∷ wide (codes "q13") 4 2 z.reactions z.species ∷ fs ++ spent (codes "q13") 5 ∷ rests (codes "q13") 6 12 ∷ []) (signals_wide z z.vector)

-- without a vector they do not rest on the number of pairs
signal_pairs : (species reactions complexes m n : ℕ) (vector : Bool) → (vector ≡ true → m ≡ n) → signal_heads species reactions complexes m vector ≡ signal_heads species reactions complexes n vector
signal_pairs species reactions complexes m n true p = ap (λ (k : ℕ). signal_heads species reactions complexes k true) (p refl)
signal_pairs species reactions complexes m n false p = refl

pub heads_by_sizes : (n : ℕ) → IsBuilt n → (z w : Sizes) → z.species ≡ w.species → z.complexes ≡ w.complexes → z.reactions ≡ w.reactions → (n ≡ 6 → map z.class_reactions (range_with_len 1 z.classes) ≡ map w.class_reactions (range_with_len 1 w.classes)) → (HasClassSizes n → z.classes ≡ w.classes) → (n ≡ 13 → z.vector ≡ true → z.pairs ≡ w.pairs) → (n ≡ 13 → z.vector ≡ w.vector) → heads (question_of n) z ≡ heads (asked n) w
heads_by_sizes n (inl e) z w s c r k l p v = subst (λ (m : ℕ). heads (question_of m) z ≡ heads (asked m) w) (sym e) (ap (λ (k : ℕ). head (codes "q1") 1 [] (small 1 1 k ∷ []) ∷ []) c)
heads_by_sizes n (inr (inl e)) z w s c r k l p v = subst (λ (m : ℕ). heads (question_of m) z ≡ heads (asked m) w) (sym e) (ap (λ (k : ℕ). head (codes "q2") 1 [] (CountAndPart k ∷ []) ∷ []) c)
heads_by_sizes n (inr (inr (inl e))) z w s c r k l p v = subst (λ (m : ℕ). heads (question_of m) z ≡ heads (asked m) w) (sym e) (ap (λ (k : ℕ). head (codes "q3") 1 yes [] ∷ head (codes "q3") 2 no (small 1 1 k ∷ []) ∷ []) r)
heads_by_sizes n (inr (inr (inr (inl e)))) z w s c r k l p v = subst (λ (m : ℕ). heads (question_of m) z ≡ heads (asked m) w) (sym e) (ap (λ (k : ℕ). head (codes "q4") 1 yes [] ∷ head (codes "q4") 2 no (small 1 1 k ∷ []) ∷ []) r)
heads_by_sizes n (inr (inr (inr (inr (inl e))))) z w s c r k l p v = subst (λ (m : ℕ). heads (question_of m) z ≡ heads (asked m) w) (sym e) (ap₂ (λ (i j : ℕ). head (codes "q5") 1 [] (small 1 1 (min i j) ∷ []) ∷ wide (codes "q5") 2 1 i j ∷ []) s r)
heads_by_sizes n (inr (inr (inr (inr (inr (inl e)))))) z w s c r k l p v = subst (λ (m : ℕ). heads (question_of m) z ≡ heads (asked m) w) (sym e) (ap₂ (λ (i : ℕ × ℕ) (x : ℕ × List ℕ). head (codes "q6") 1 [] (small (1 + x.0) 0 i.0 ∷ []) ∷ head (codes "q6") 2 (open_by (codes "wide")) (just 3 ∷ ClassWide i.1 x.1 ∷ []) ∷ rests (codes "q6") 4 5 ∷ []) (ap₂ (λ (i j : ℕ). (i, j)) c s) (ap₂ (λ (n : ℕ) (xs : List ℕ). (n, xs)) (l (inl e)) (k e)))
heads_by_sizes n (inr (inr (inr (inr (inr (inr (inl e))))))) z w s c r k l p v = subst (λ (m : ℕ). heads (question_of m) z ≡ heads (asked m) w) (sym e) (ap₂ (λ (i j : ℕ). head (codes "q7") 1 yes [] ∷ head (codes "q7") 2 no [] ∷ wide (codes "q7") 3 2 i j ∷ []) r s)
heads_by_sizes n (inr (inr (inr (inr (inr (inr (inr (inl e)))))))) z w s c r k l p v = subst (λ (m : ℕ). heads (question_of m) z ≡ heads (asked m) w) (sym e) (ap₂ (λ (i j : ℕ). head (codes "q8") 1 yes [] ∷ head (codes "q8") 2 no [] ∷ wide (codes "q8") 3 1 i j ∷ []) s r)
heads_by_sizes n (inr (inr (inr (inr (inr (inr (inr (inr (inl e))))))))) z w s c r k l p v = subst (λ (m : ℕ). heads (question_of m) z ≡ heads (asked m) w) (sym e) (ap (λ (i : ℕ). head (codes "q9") 1 yes (small 1 0 1 ∷ []) ∷ head (codes "q9") 2 no (small 1 1 i ∷ []) ∷ rests (codes "q9") 5 5 ∷ []) c)
heads_by_sizes n (inr (inr (inr (inr (inr (inr (inr (inr (inr (inl e)))))))))) z w s c r k l p v = subst (λ (m : ℕ). heads (question_of m) z ≡ heads (asked m) w) (sym e) (ap₂ (λ (i x : ℕ). head (codes "q10") 1 yes [] ∷ head (codes "q10") 2 (no_by (codes "terminal")) (small 1 1 x ∷ small 1 2 i ∷ []) ∷ head (codes "q10") 3 (no_by (codes "class")) (small 1 1 x ∷ small 1 2 i ∷ []) ∷ head (codes "q10") 4 (no_by (codes "sum")) (small 1 0 i ∷ []) ∷ rests (codes "q10") 7 6 ∷ []) c (l (inr (inl e))))
heads_by_sizes n (inr (inr (inr (inr (inr (inr (inr (inr (inr (inr (inl e))))))))))) z w s c r k l p v = subst (λ (m : ℕ). heads (question_of m) z ≡ heads (asked m) w) (sym e) (ap₂ (λ (i : ℕ × ℕ) (x : ℕ). head (codes "q11") 1 yes [] ∷ head (codes "q11") 2 (no_by (codes "terminal")) (small 1 1 x ∷ small 1 2 i.0 ∷ []) ∷ head (codes "q11") 3 (no_by (codes "dependence")) [] ∷ head (codes "q11") 4 (no_by (codes "cycle")) (small 1 1 i.1 ∷ []) ∷ rests (codes "q11") 7 7 ∷ []) (ap₂ (λ (i j : ℕ). (i, j)) c r) (l (inr (inr (inl e)))))
heads_by_sizes n (inr (inr (inr (inr (inr (inr (inr (inr (inr (inr (inr (inl e)))))))))))) z w s c r k l p v = subst (λ (m : ℕ). heads (question_of m) z ≡ heads (asked m) w) (sym e) (ap₂ (λ (i : ℕ × ℕ) (x : ℕ). head (codes "q12") 1 yes [] ∷ head (codes "q12") 2 (none_by (codes "regular")) [] ∷ head (codes "q12") 3 (none_by (codes "zero")) [] ∷ head (codes "q12") 4 (none_by (codes "plane")) (TwoOf i.0 ∷ []) ∷ wide (codes "q12") 5 4 i.0 (i.1 + x) ∷ rests (codes "q12") 7 11 ∷ []) (ap₂ (λ (i j : ℕ). (i, j)) c s) (l (inr (inr (inr e)))))
heads_by_sizes n (inr (inr (inr (inr (inr (inr (inr (inr (inr (inr (inr (inr (inl e))))))))))))) z w s c r k l p v = subst (λ (m : ℕ). heads (question_of m) z ≡ heads (asked m) w) (sym e)
    (heads_signal z ∙ ap₂ (λ (i j : ℕ). signal_heads i j z.complexes z.pairs z.vector) s r ∙ ap (λ (i : ℕ). signal_heads w.species w.reactions i z.pairs z.vector) c ∙ signal_pairs w.species w.reactions w.complexes z.pairs w.pairs z.vector (p e) ∙ ap (λ (b : Bool). signal_heads w.species w.reactions w.complexes w.pairs b) (v e) ∙ sym (heads_signal w))
heads_by_sizes n (inr (inr (inr (inr (inr (inr (inr (inr (inr (inr (inr (inr (inr (inl e)))))))))))))) z w s c r k l p v = subst (λ (m : ℕ). heads (question_of m) z ≡ heads (asked m) w) (sym e) (ap₂ (λ (i j : ℕ). head (codes "q14") 1 yes [] ∷ head (codes "q14") 2 no [] ∷ wide (codes "q14") 3 2 i j ∷ spent (codes "q14") 4 ∷ []) r s)
heads_by_sizes n (inr (inr (inr (inr (inr (inr (inr (inr (inr (inr (inr (inr (inr (inr (inl e))))))))))))))) z w s c r k l p v = subst (λ (m : ℕ). heads (question_of m) z ≡ heads (asked m) w) (sym e) (ap₂ (λ (i j : ℕ). head (codes "q15") 1 yes [] ∷ head (codes "q15") 2 no [] ∷ wide (codes "q15") 3 2 i j ∷ spent (codes "q15") 4 ∷ []) r s)
heads_by_sizes n (inr (inr (inr (inr (inr (inr (inr (inr (inr (inr (inr (inr (inr (inr (inr (none)))))))))))))))) z w s c r k l p v = absurd none

pub number_of_built : (n : ℕ) → IsBuilt n → (1 ≤ n) × (n ≤ 15)
number_of_built n i = let e = asked_number n i in let low = some_number (asked n) in let high = few_numbers (asked n) in (omega (arith, e, low), omega (arith, e, high))
