-- The verdict of a valid answer is true or open, if the facts are.
use Rattle.crn_check.proofs.Prelude.{◌≡◌, ◌==◌, true, false, inl, inr, ℕ, [], ◌∷◌, Ok, sym, subst, AllByRecursion, cases_eq, eq-eqb, ne_eqb, Net, IsNetwork, Answer, Wide, Budget, Rests, Verdict, Unknown, Earlier, Question, Q1, Q2, Q4, Q5, Q6, Q7, Q11, Q12, number, on, IsTrueOf, IsFormed, IsFormedVerdict, head_tests, row_tests, tests_of, AllHold, IsTrueOrOpen, AreTrue, AreTrueOrOpen, known_for, rests_for, valid_answers_are_true, same_question, IsBuilt, HoldsNeeds, KeptFacts, AreFactsOf, asked, HoldsOn, Q9, Q10, Q13}
use Rattle.crn_check.proofs.Judging.{judges_go}
use Rattle.crn_check.proofs.Forms.{formed_on}
use Rattle.crn_check.proofs.Asked.{by_number}

-- a verdict that is held is true of its question or open
pub sound_on : (net : Net) (es : Earlier) (q : Question) → AllByRecursion (λ (e : Question × Verdict). IsTrueOrOpen net e.0 e.1) es → HoldsOn es (number q) → IsTrueOrOpen net q (on es q)
sound_on net [] q h held = absurd held
sound_on net (e ∷ es) q h held = elim (cases_eq (number e.0) (number q)) [
  | inl is ↦
      let equal : (number e.0 == number q) ≡ true = eq-eqb _ _ is in
      let first : IsTrueOrOpen net q e.1 = subst (λ (r : Question). IsTrueOrOpen net r e.1) (same_question e.0 q is) h.0 in
      rw equal first
  | inr other ↦
      let differ : (number e.0 == number q) ≡ false = ne_eqb _ _ other in
      let rest : HoldsOn es (number q) = elim held [ inl is ↦ absurd (other (sym is)) | inr later ↦ later ] in
      rw differ (sound_on net es q h.1 rest)
]

-- a verdict on strong classes is not open
strong_decided : (net : Net) (e : Earlier) (v : Verdict) → IsFormedVerdict net e Q2 v → IsTrueOrOpen net Q2 v → IsTrueOf net Q2 v
strong_decided net e (Unknown (Wide system class index basis)) f h = absurd f.0
strong_decided net e (Unknown (Budget nodes)) f h = absurd f.0
strong_decided net e (Unknown (Rests question)) f h = absurd f.0
strong_decided net e v f h = h

-- a verdict on linkage classes is not open
linkage_decided : (net : Net) (e : Earlier) (v : Verdict) → IsFormedVerdict net e Q1 v → IsTrueOrOpen net Q1 v → IsTrueOf net Q1 v
linkage_decided net e (Unknown (Wide system class index basis)) f h = absurd f.0
linkage_decided net e (Unknown (Budget nodes)) f h = absurd f.0
linkage_decided net e (Unknown (Rests question)) f h = absurd f.0
linkage_decided net e v f h = h

pub linkage_true : (net : Net) (facts : KeptFacts) → AreFactsOf net facts → HoldsOn facts.earlier 1 → IsTrueOf net Q1 (on facts.earlier Q1)
linkage_true net facts h held =
    let f = formed_on net [] facts.earlier Q1 h.formed held in
    linkage_decided net f.0 (on facts.earlier Q1) f.1 (sound_on net facts.earlier Q1 h.sound held)

pub strong_true : (net : Net) (facts : KeptFacts) → AreFactsOf net facts → HoldsOn facts.earlier 2 → IsTrueOf net Q2 (on facts.earlier Q2)
strong_true net facts h held =
    let f = formed_on net [] facts.earlier Q2 h.formed held in
    strong_decided net f.0 (on facts.earlier Q2) f.1 (sound_on net facts.earlier Q2 h.sound held)

-- a verdict on weak reversibility is not open
weak_decided : (net : Net) (e : Earlier) (v : Verdict) → IsFormedVerdict net e Q4 v → IsTrueOrOpen net Q4 v → IsTrueOf net Q4 v
weak_decided net e (Unknown (Wide system class index basis)) f h = absurd f.0
weak_decided net e (Unknown (Budget nodes)) f h = absurd f.0
weak_decided net e (Unknown (Rests question)) f h = absurd f.0
weak_decided net e v f h = h

pub weak_true : (net : Net) (facts : KeptFacts) → AreFactsOf net facts → HoldsOn facts.earlier 4 → IsTrueOf net Q4 (on facts.earlier Q4)
weak_true net facts h held =
    let f = formed_on net [] facts.earlier Q4 h.formed held in
    weak_decided net f.0 (on facts.earlier Q4) f.1 (sound_on net facts.earlier Q4 h.sound held)

-- the facts give what the law of a question requires
knows : (net : Net) (facts : KeptFacts) (q : Question) → AreFactsOf net facts → HoldsNeeds facts.earlier (number q) → AreTrue net (known_for q) facts.earlier
knows net facts Q4 h needs = (strong_true net facts h needs.0, tt)
knows net facts Q6 h needs = (linkage_true net facts h needs.0, tt)
knows net facts Q9 h needs = (linkage_true net facts h needs.0, (weak_true net facts h needs.1.0, tt))
knows net facts Q10 h needs = (linkage_true net facts h needs.0, (strong_true net facts h needs.1.0, tt))
knows net facts Q11 h needs = (linkage_true net facts h needs.0, (strong_true net facts h needs.1.0, tt))
knows net facts Q12 h needs = (linkage_true net facts h needs.0, (strong_true net facts h needs.1.0, (weak_true net facts h needs.1.1.0, tt)))
knows net facts Q13 h needs = (weak_true net facts h needs.1.0, tt)
knows net facts q h needs = tt

-- the facts give what an open question rests on
rests : (net : Net) (facts : KeptFacts) (q : Question) → AreFactsOf net facts → HoldsNeeds facts.earlier (number q) → AreTrueOrOpen net (rests_for q) facts.earlier
rests net facts Q6 h needs = (sound_on net facts.earlier Q5 h.sound needs.1.0, tt)
rests net facts Q9 h needs = (sound_on net facts.earlier Q5 h.sound needs.1.1.0, tt)
rests net facts Q10 h needs = (sound_on net facts.earlier Q6 h.sound needs.1.1.0, tt)
rests net facts Q11 h needs = (sound_on net facts.earlier Q7 h.sound needs.1.1.0, tt)
rests net facts Q12 h needs = (sound_on net facts.earlier Q11 h.sound needs.1.1.1.0, tt)
rests net facts Q13 h needs = (sound_on net facts.earlier Q12 h.sound needs.1.1.0, tt)
rests net facts q h needs = tt

pub answer_valid : (net : Net) (facts : KeptFacts) (n : ℕ) (a : Answer) → IsNetwork net → IsBuilt n → AreFactsOf net facts → HoldsNeeds facts.earlier n → IsFormed net facts.earlier (asked n) a → AllHold (tests_of net facts.earlier (asked n) a) → IsTrueOrOpen net (asked n) a.verdict
answer_valid net facts n a network is h needs f valid =
    let held = by_number (HoldsNeeds facts.earlier) n is needs in
    valid_answers_are_true (asked n) net facts.earlier a network (knows net facts (asked n) h held) (rests net facts (asked n) h held) f valid

pub answer_true : (net : Net) (facts : KeptFacts) (n : ℕ) (a : Answer) → IsNetwork net → IsBuilt n → AreFactsOf net facts → HoldsNeeds facts.earlier n → IsFormed net facts.earlier (asked n) a → AllHold (head_tests net facts.earlier (asked n) a.verdict) → AllHold (row_tests net facts.earlier (asked n) a.verdict a.proof) → IsTrueOrOpen net (asked n) a.verdict
answer_true net facts n a network is h needs f head rows = answer_valid net facts n a network is h needs f (judges_go _ _ (Ok tt) head rows)
