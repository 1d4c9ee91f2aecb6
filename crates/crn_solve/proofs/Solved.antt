-- Answers to the questions before the two on concordance and answers to these two are answers to all.
use Rattle.crn_solve.proofs.Prelude.{◌≡◌, ℕ, List, [], ◌∷◌, ◌++◌, ◌+◌, length, refl, sym, subst, ◌∙◌, arith, ap, append_assoc, length-append, length-map, map-append, Net, Answer, Verdict, verdicts_of, built, AreFormed, AllTrueOrLicensed, Earlier, IsOpen, Question, Q13, Q14, Q15, HaveFewNodes, AreValid, AreOpenIfSpent, AllListVisits, HaveNodeForEachVisit, plain_table, strong_table, IsTableAnswer, tight, AreAnswers, AreFirstAnswers, FirstAreDecided, IsVectorFirst, first_questions}
use Rattle.crn_solve.proofs.AllAnswers.{are_formed, are_valid, are_answered}

-- there are as many answers as questions
pub answers_counted : (net : Net) (budget : ℕ) (earlier : Earlier) (qs : List Question) (answers : List Answer) → AreAnswers net budget earlier qs answers → length answers ≡ length qs
answers_counted net budget earlier [] [] h = refl
answers_counted net budget earlier [] (a ∷ more) h = absurd h
answers_counted net budget earlier (q ∷ qs) [] h = absurd h
answers_counted net budget earlier (q ∷ qs) (a ∷ more) h = omega (arith, answers_counted net budget (earlier ++ (q, tight a.verdict) ∷ []) qs more h.1)

pub verdicts_counted : (net : Net) (budget : ℕ) (answers : List Answer) (vs : List Verdict) → AreAnswers net budget [] first_questions answers → vs ≡ verdicts_of answers → length vs ≡ 13
verdicts_counted net budget answers vs h e = ap length e ∙ length-map answers (λ (x : Answer). x.verdict) ∙ answers_counted net budget [] first_questions answers h

pub one_more : {A : Type 0} (xs ys : List A) (x : A) → ys ≡ xs ++ x ∷ [] → length ys ≡ length xs + 1
one_more xs ys x e = ap length e ∙ length-append xs (x ∷ [])

-- answers, and then answers to more questions, whatever the verdicts are that they come after
answers_then : (net : Net) (budget : ℕ) (earlier : Earlier) (qs : List Question) (xs : List Answer) (rest : List Question) (ys : List Answer) → AreAnswers net budget earlier qs xs → ((e : Earlier) → AreAnswers net budget e rest ys) → AreAnswers net budget earlier (qs ++ rest) (xs ++ ys)
answers_then net budget earlier [] [] rest ys h k = k earlier
answers_then net budget earlier [] (a ∷ xs) rest ys h k = absurd h
answers_then net budget earlier (q ∷ qs) [] rest ys h k = absurd h
answers_then net budget earlier (q ∷ qs) (a ∷ xs) rest ys h k = (h.0, answers_then net budget (earlier ++ (q, tight a.verdict) ∷ []) qs xs rest ys h.1 k)

few_then : (budget : ℕ) (xs ys : List Answer) → HaveFewNodes budget xs → HaveFewNodes budget ys → HaveFewNodes budget (xs ++ ys)
few_then budget [] ys h k = k
few_then budget (a ∷ xs) ys h k = (h.0, few_then budget xs ys h.1 k)

visits_then : (net : Net) (vs : List Verdict) (qs : List Question) (xs : List Answer) (rest : List Question) (ys : List Answer) → AllListVisits net vs qs xs → AllListVisits net vs rest ys → AllListVisits net vs (qs ++ rest) (xs ++ ys)
visits_then net vs [] [] rest ys h k = k
visits_then net vs [] (a ∷ xs) rest ys h k = absurd h
visits_then net vs (q ∷ qs) [] rest ys h k = absurd h
visits_then net vs (q ∷ qs) (a ∷ xs) rest ys h k = (h.0, visits_then net vs qs xs rest ys h.1 k)

-- what is known of the answers to all questions
pub record AreSolved (net : Net) (budget : ℕ) (answers : List Answer) : Type 0 where
  pub formed : AreFormed net [] built answers
  pub valid : AreValid net [] built answers
  pub answered : AllTrueOrLicensed net budget [] built (verdicts_of answers)
  pub decided : FirstAreDecided (verdicts_of answers)
  pub nodes : HaveFewNodes budget answers
  pub spent : AreOpenIfSpent net budget (verdicts_of answers)
  pub first : IsVectorFirst net (verdicts_of answers)

-- the answers to questions 14 and 15 after the others
pub record AreLast (net : Net) (budget : ℕ) (a b : Answer) : Type 0 where
  pub plain : IsTableAnswer net budget Q14 (plain_table net) a
  pub strong : IsTableAnswer net budget Q15 (strong_table net) b

-- no question but the last three is licensed by a spent budget
all_spent : (net : Net) (budget : ℕ) (answers : List Answer) (a b : Answer) → AreFirstAnswers net budget answers → AreLast net budget a b → AreOpenIfSpent net budget (verdicts_of answers ++ a.verdict ∷ b.verdict ∷ [])
all_spent net budget answers a b f l Q13 pass = f.spent (a.verdict ∷ b.verdict ∷ []) pass
all_spent net budget answers a b f l Q14 pass = subst IsOpen (sym (f.last a.verdict b.verdict).0) (l.plain.spent pass)
all_spent net budget answers a b f l Q15 pass = subst IsOpen (sym (f.last a.verdict b.verdict).1) (l.strong.spent pass)
all_spent net budget answers a b f l q pass = absurd pass

pub solved_after : (net : Net) (budget : ℕ) (answers : List Answer) (a b : Answer) → AreFirstAnswers net budget answers → AreLast net budget a b → AreSolved net budget (answers ++ a ∷ b ∷ [])
solved_after net budget answers a b f l =
    let h14 = l.plain.is in
    let h15 = l.strong.is in
    let decided = f.decided in
    let first = f.first in
    let last = a ∷ b ∷ [] in
    let all : AreAnswers net budget [] built (answers ++ last) = answers_then net budget [] first_questions answers (Q14 ∷ Q15 ∷ []) last f.all (λ e. (h14 e, (h15 (e ++ (Q14, tight a.verdict) ∷ []), tt))) in
    let verdicts : verdicts_of (answers ++ last) ≡ verdicts_of answers ++ verdicts_of last = map-append (λ (x : Answer). x.verdict) answers last in
    record {
      formed = are_formed net budget [] built (answers ++ last) all;
      valid = are_valid net budget [] built (answers ++ last) all;
      answered = are_answered net budget [] built (answers ++ last) all;
      decided = subst FirstAreDecided (sym verdicts) (decided (verdicts_of last));
      nodes = few_then budget answers last f.nodes (l.plain.few, (l.strong.few, tt));
      spent = subst (AreOpenIfSpent net budget) (sym verdicts) (all_spent net budget answers a b f l);
      first = subst (IsVectorFirst net) (sym verdicts) (first (verdicts_of last));
    }

-- the trees of all answers list the visits, if those on concordance do
pub visits_after : (net : Net) (budget : ℕ) (answers : List Answer) (a b : Answer) → AreFirstAnswers net budget answers → AreLast net budget a b → HaveNodeForEachVisit net (answers ++ a ∷ b ∷ [])
visits_after net budget answers a b f l =
    let visited = f.visits in
    let last = a ∷ b ∷ [] in
    subst (λ (vs : List Verdict). AllListVisits net vs built (answers ++ last)) (sym (map-append (λ (x : Answer). x.verdict) answers last))
    (visits_then net (verdicts_of answers ++ verdicts_of last) first_questions answers (Q14 ∷ Q15 ∷ []) last (visited (verdicts_of last)) (l.plain.visits, (l.strong.visits, tt)))

-- one after another is both at the end
pub two_more : {A : Type 0} (xs ys zs : List A) (x y : A) → ys ≡ xs ++ x ∷ [] → zs ≡ ys ++ y ∷ [] → zs ≡ xs ++ x ∷ y ∷ []
two_more xs ys zs x y one two = two ∙ ap (λ t. t ++ y ∷ []) one ∙ append_assoc xs (x ∷ []) (y ∷ [])

-- verdicts of which two come at the end are those of answers of which two come at the end
pub verdicts_more : (answers : List Answer) (a b : Answer) (vs ws us : List Verdict) → vs ≡ verdicts_of answers → ws ≡ vs ++ a.verdict ∷ [] → us ≡ ws ++ b.verdict ∷ [] → us ≡ verdicts_of (answers ++ a ∷ b ∷ [])
verdicts_more answers a b vs ws us e one two =
    two_more vs ws us a.verdict b.verdict one two ∙ ap (λ t. t ++ a.verdict ∷ b.verdict ∷ []) e ∙ sym (map-append (λ (x : Answer). x.verdict) answers (a ∷ b ∷ []))

-- the same of verdicts that are those of the answers
pub verdicts_with : (answers : List Answer) (a b : Answer) (v u : Verdict) (vs ws us : List Verdict) → v ≡ a.verdict → u ≡ b.verdict → vs ≡ verdicts_of answers → ws ≡ vs ++ v ∷ [] → us ≡ ws ++ u ∷ [] → us ≡ verdicts_of (answers ++ a ∷ b ∷ [])
verdicts_with answers a b v u vs ws us x y e one two = verdicts_more answers a b vs ws us e (one ∙ ap (λ (t : Verdict). vs ++ t ∷ []) x) (two ∙ ap (λ (t : Verdict). ws ++ t ∷ []) y)
