-- What the form of an answer gives for the tests of its question, and for what is kept of it.
use Rattle.crn_check.proofs.Prelude.{◌≡◌, ◌≤◌, inl, inr, ◌==◌, true, false, ℕ, List, [], ◌∷◌, ◌++◌, length, map, refl, sym, ap, ap₂, subst, ◌∙◌, arith, AllByRecursion, cases_eq, eq-eqb, ne_eqb, append-nil, append_assoc, Net, KeptNums, Answer, Wide, Budget, Rests, Verdict, Classes, Strong, Unknown, Earlier, Question, Q1, Q2, Q3, Q4, Q5, Q6, Q7, Q8, Q9, Q10, Q11, Q12, Q13, Q14, Q15, number, on, labels_of, count_of, exits_of, terminal_of, AreFrom, strong, exits, linkage, linkage_count, IsFormed, IsFormedVerdict, AreFormedVerdicts, IsTrueOf, IsTrueOrOpen, formed_answers_have_formed_verdicts, same_question, all_tight_then, tight_twice, true_tight, tight, all_tight, AsksForTree, shown_by_tree, KeptFacts, AreFactsOf, asked, HoldsOn}

-- ---- what is kept

-- the verdict is formed without its spares
verdict_tight : (net : Net) (e : Earlier) (q : Question) (v : Verdict) → IsFormedVerdict net e q v → IsFormedVerdict net e q (tight v)
verdict_tight net e q (Unknown (Wide system class index basis)) h = gap_tight net e q system class index basis h
  where
    gap_tight : (net : Net) (e : Earlier) (q : Question) (system class index : ℕ) (basis : KeptNums) → IsFormedVerdict net e q (Unknown (Wide system class index basis)) → IsFormedVerdict net e q (tight (Unknown (Wide system class index basis)))
    gap_tight net e Q5 system class index basis h = h
    gap_tight net e Q6 system class index basis h = h
    gap_tight net e Q7 system class index basis h = h
    gap_tight net e Q8 system class index basis h = h
    gap_tight net e Q12 system class index basis h = h
    gap_tight net e Q13 system class index basis h = h
    gap_tight net e Q14 system class index basis h = h
    gap_tight net e Q15 system class index basis h = h
    gap_tight net e q system class index basis h = absurd h.0
verdict_tight net e q (Unknown (Budget nodes)) h = h
verdict_tight net e q (Unknown (Rests question)) h = h
verdict_tight net e Q1 v h = h
verdict_tight net e q v h = h

-- ---- one more verdict

abbrev asks : Earlier → List Question
asks es = map (λ (e : Question × Verdict). e.0) es

abbrev says : Earlier → List Verdict
says es = map (λ (e : Question × Verdict). e.1) es

formed_push : (net : Net) (before es : Earlier) (q : Question) (v : Verdict) → AreFormedVerdicts net before (asks es) (says es) → IsFormedVerdict net (before ++ all_tight es) q v → AreFormedVerdicts net before (asks (es ++ (q, v) ∷ [])) (says (es ++ (q, v) ∷ []))
formed_push net before [] q v h f = (subst (λ (x : Earlier). IsFormedVerdict net x q v) (append-nil before) f, tt)
formed_push net before (e ∷ es) q v h f =
    (h.0, formed_push net (before ++ (e.0, tight e.1) ∷ []) es q v h.1 (subst (λ (x : Earlier). IsFormedVerdict net x q v) (sym (append_assoc before ((e.0, tight e.1) ∷ []) (all_tight es))) f))

-- verdicts that are true or open, and one more
sound_push : (net : Net) (es : Earlier) (q : Question) (v : Verdict) → AllByRecursion (λ (e : Question × Verdict). IsTrueOrOpen net e.0 e.1) es → IsTrueOrOpen net q v → AllByRecursion (λ (e : Question × Verdict). IsTrueOrOpen net e.0 e.1) (es ++ (q, v) ∷ [])
sound_push net [] q v h t = (t, tt)
sound_push net (e ∷ es) q v h t = (h.0, sound_push net es q v h.1 t)

-- ---- facts with the verdict of an answer

pub facts_add : (net : Net) (old new : KeptFacts) (n : ℕ) (v : Verdict) → AreFactsOf net old → IsFormedVerdict net old.earlier (asked n) v → new.earlier ≡ old.earlier ++ (asked n, tight v) ∷ [] → IsTrueOrOpen net (asked n) v → AreFactsOf net new
facts_add net old new n v h f e t =
    let formed : IsFormedVerdict net (all_tight old.earlier) (asked n) (tight v) = subst (λ (es : Earlier). IsFormedVerdict net es (asked n) (tight v)) (sym h.spareless) (verdict_tight net old.earlier (asked n) v f) in
    record {
      formed = subst (λ (es : Earlier). AreFormedVerdicts net [] (asks es) (says es)) (sym e) (formed_push net [] old.earlier (asked n) (tight v) h.formed formed);
      spareless = ap (λ (es : Earlier). all_tight es) e ∙ all_tight_then old.earlier (asked n) (tight v) ∙ ap₂ (λ (es : Earlier) (w : Verdict). es ++ (asked n, w) ∷ []) h.spareless (tight_twice v) ∙ sym e;
      sound = subst (AllByRecursion (λ (e : Question × Verdict). IsTrueOrOpen net e.0 e.1)) (sym e) (sound_push net old.earlier (asked n) (tight v) h.sound (true_tight net (asked n) v t));
    }

pub facts_push : (net : Net) (old new : KeptFacts) (n : ℕ) (a : Answer) → AreFactsOf net old → IsFormed net old.earlier (asked n) a → new.earlier ≡ old.earlier ++ (asked n, tight a.verdict) ∷ [] → IsTrueOrOpen net (asked n) a.verdict → AreFactsOf net new
facts_push net old new n a h f e t = facts_add net old new n a.verdict h (formed_answers_have_formed_verdicts net old.earlier (asked n) a.verdict a.proof f) e t

-- the verdict that trees show has a form that its question admits
pub shown_formed : (net : Net) (e : Earlier) (n : ℕ) → AsksForTree n → IsFormedVerdict net e (asked n) (shown_by_tree (asked n))
shown_formed net e n (inl is) = rw is (tt, tt)
shown_formed net e n (inr (inl is)) = rw is (tt, tt)
shown_formed net e n (inr (inr is)) = rw is (tt, tt)

-- it has no list
pub shown_tight : (n : ℕ) → AsksForTree n → tight (shown_by_tree (asked n)) ≡ shown_by_tree (asked n)
shown_tight n (inl is) = rw is refl
shown_tight n (inr (inl is)) = rw is refl
shown_tight n (inr (inr is)) = rw is refl

pub shown_true : (net : Net) (n : ℕ) → AsksForTree n → IsTrueOf net (asked n) (shown_by_tree (asked n)) → IsTrueOrOpen net (asked n) (shown_by_tree (asked n))
shown_true net n (inl is) h = subst (λ (m : ℕ). IsTrueOf net (asked m) (shown_by_tree (asked m)) → IsTrueOrOpen net (asked m) (shown_by_tree (asked m))) (sym is) (λ k. k) h
shown_true net n (inr (inl is)) h = subst (λ (m : ℕ). IsTrueOf net (asked m) (shown_by_tree (asked m)) → IsTrueOrOpen net (asked m) (shown_by_tree (asked m))) (sym is) (λ k. k) h
shown_true net n (inr (inr is)) h = subst (λ (m : ℕ). IsTrueOf net (asked m) (shown_by_tree (asked m)) → IsTrueOrOpen net (asked m) (shown_by_tree (asked m))) (sym is) (λ k. k) h

-- ---- the verdict that facts hold on a question

-- a verdict that is held has a form that its question admits
pub formed_on : (net : Net) (before es : Earlier) (q : Question) → AreFormedVerdicts net before (asks es) (says es) → HoldsOn es (number q) → (e : Earlier) × IsFormedVerdict net e q (on es q)
formed_on net before [] q h held = absurd held
formed_on net before (e ∷ es) q h held = elim (cases_eq (number e.0) (number q)) [
  | inl is ↦
      let equal : (number e.0 == number q) ≡ true = eq-eqb _ _ is in
      let first : IsFormedVerdict net before q e.1 = subst (λ (r : Question). IsFormedVerdict net before r e.1) (same_question e.0 q is) h.0 in
      (before, rw equal first)
  | inr other ↦
      let differ : (number e.0 == number q) ≡ false = ne_eqb _ _ other in
      let rest : HoldsOn es (number q) = elim held [ inl is ↦ absurd (other (sym is)) | inr later ↦ later ] in
      let f = formed_on net (before ++ (e.0, tight e.1) ∷ []) es q h.1 rest in
      (f.0, rw differ f.1)
]

-- a verdict on strong classes labels each complex
strong_long : (net : Net) (e : Earlier) (v : Verdict) → IsFormedVerdict net e Q2 v → length (labels_of v) ≡ length net.complexes
strong_long net e (Strong count terminal label exit) h = h.1.0.long
strong_long net e (Unknown (Wide system class index basis)) h = absurd h.0
strong_long net e v h = absurd h.0

pub strong_labelled : (net : Net) (facts : KeptFacts) → AreFactsOf net facts → HoldsOn facts.earlier 2 → length (strong facts.earlier) ≡ length net.complexes
strong_labelled net facts h held = let f = formed_on net [] facts.earlier Q2 h.formed held in strong_long net f.0 (on facts.earlier Q2) f.1

-- a verdict on strong classes has no more classes than there are complexes
strong_counted : (net : Net) (e : Earlier) (v : Verdict) → IsFormedVerdict net e Q2 v → count_of v ≤ length net.complexes
strong_counted net e (Strong count terminal label exit) h = h.0.0.0.1
strong_counted net e (Unknown (Wide system class index basis)) h = absurd h.0
strong_counted net e v h = absurd h.0

pub strong_classes : (net : Net) (facts : KeptFacts) → AreFactsOf net facts → HoldsOn facts.earlier 2 → count_of (on facts.earlier Q2) ≤ length net.complexes
strong_classes net facts h held = let f = formed_on net [] facts.earlier Q2 h.formed held in strong_counted net f.0 (on facts.earlier Q2) f.1

-- a verdict on strong classes has no more terminal classes than there are complexes
pub terminal_few : (net : Net) (e : Earlier) (v : Verdict) → IsFormedVerdict net e Q2 v → terminal_of v ≤ length net.complexes
terminal_few net e (Strong count terminal label exit) h = omega (arith, h.0.0.0.1, h.0.0.1.1)
terminal_few net e (Unknown (Wide system class index basis)) h = absurd h.0
terminal_few net e v h = absurd h.0

pub strong_few : (net : Net) (facts : KeptFacts) → AreFactsOf net facts → HoldsOn facts.earlier 2 → terminal_of (on facts.earlier Q2) ≤ length net.complexes
strong_few net facts h held = let f = formed_on net [] facts.earlier Q2 h.formed held in terminal_few net f.0 (on facts.earlier Q2) f.1

-- a verdict on linkage classes labels each complex, and has no more classes than complexes
linkage_long : (net : Net) (e : Earlier) (v : Verdict) → IsFormedVerdict net e Q1 v → (length (labels_of v) ≡ length net.complexes) × (count_of v ≤ length net.complexes)
linkage_long net e (Classes count label) h = (h.1.long, h.0.0.1)
linkage_long net e (Unknown (Wide system class index basis)) h = absurd h.0
linkage_long net e v h = absurd h.0

pub linkage_labelled : (net : Net) (facts : KeptFacts) → AreFactsOf net facts → HoldsOn facts.earlier 1 → (length (linkage facts.earlier) ≡ length net.complexes) × (linkage_count facts.earlier ≤ length net.complexes)
linkage_labelled net facts h held = let f = formed_on net [] facts.earlier Q1 h.formed held in linkage_long net f.0 (on facts.earlier Q1) f.1

-- the labels of both kinds of classes are from 1 to their number
linkage_ranged : (net : Net) (e : Earlier) (v : Verdict) → IsFormedVerdict net e Q1 v → AreFrom (length net.complexes) 1 (count_of v) (labels_of v)
linkage_ranged net e (Classes count label) h = h.1
linkage_ranged net e (Unknown (Wide system class index basis)) h = absurd h.0
linkage_ranged net e v h = absurd h.0

pub linkage_from : (net : Net) (facts : KeptFacts) → AreFactsOf net facts → HoldsOn facts.earlier 1 → AreFrom (length net.complexes) 1 (linkage_count facts.earlier) (linkage facts.earlier)
linkage_from net facts h held = let f = formed_on net [] facts.earlier Q1 h.formed held in linkage_ranged net f.0 (on facts.earlier Q1) f.1

strong_ranged : (net : Net) (e : Earlier) (v : Verdict) → IsFormedVerdict net e Q2 v → AreFrom (length net.complexes) 1 (length (exits_of v)) (labels_of v)
strong_ranged net e (Strong count terminal label exit) h = subst (λ (n : ℕ). AreFrom (length net.complexes) 1 n label.list) (sym h.1.1.long) h.1.0
strong_ranged net e (Unknown (Wide system class index basis)) h = absurd h.0
strong_ranged net e v h = absurd h.0

pub strong_from : (net : Net) (facts : KeptFacts) → AreFactsOf net facts → HoldsOn facts.earlier 2 → AreFrom (length net.complexes) 1 (length (exits facts.earlier)) (strong facts.earlier)
strong_from net facts h held = let f = formed_on net [] facts.earlier Q2 h.formed held in strong_ranged net f.0 (on facts.earlier Q2) f.1

-- the labels of a verdict on strong classes are at most a number that its classes do not exceed
labels_few : (count most : ℕ) (label : List ℕ) → count ≤ most → AllByRecursion (λ x. (1 ≤ x) × (x ≤ count)) label → AllByRecursion (λ x. x ≤ most) label
labels_few count most [] le h = tt
labels_few count most (x ∷ label) le h = (omega (arith, le, h.0.1), labels_few count most label le h.1)

pub strong_below : (net : Net) (facts : KeptFacts) (most : ℕ) → AreFactsOf net facts → HoldsOn facts.earlier 2 → length (exits facts.earlier) ≤ most → AllByRecursion (λ x. x ≤ most) (strong facts.earlier)
strong_below net facts most h held le = labels_few (length (exits facts.earlier)) most (strong facts.earlier) le (strong_from net facts h held).each
