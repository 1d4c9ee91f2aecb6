-- What valid records of the built questions say is true.
use Rattle.crn_ctext.proofs.Prelude.{List, [], ◌∷◌, refl, sym, subst, inl, inr, Net, IsNetwork, Verdict, Answer, Question, Q1, Q2, Q3, Q4, Q5, Q6, Q7, Q8, Q9, Q10, Q11, Q12, AllTrueOrOpen, AreBuilt, IsIn, valid_documents_are_true, Record, meaning, verdicts_said, built, verdicts_of, AreSound}
use Rattle.crn_cert.specs.Formed.{AreFormed}
use Rattle.crn_cert.specs.Valid.{AreValid}
use Rattle.crn_ctext.specs.Documents as documents
use Rattle.crn_ctext.proofs.ShortAnswers.{valid_are_formed}
use Rattle.crn_ctext.proofs.AnswersLinked.{records_valid}
use Rattle.crn_ctext.proofs.RecordsLinked.{records_answered}

-- each question comes after those that its law requires
built_in_order : AreBuilt [] built
built_in_order = (
  (λ j i. i),
  ((λ j i. absurd i), ((λ j i. absurd i), ((λ j i. strong_before j i), ((λ j i. absurd i), ((λ j i. linkage_and_rank_before j i), ((λ j i. absurd i), ((λ j i. absurd i), ((λ j i. zero_before j i), ((λ j i. one_before j i), ((λ j i. regular_before j i), ((λ j i. confluence_before j i), ((λ j i. signal_before j i), ((λ j i. absurd i), ((λ j i. absurd i), tt)))))))))))))),
)
  where
    strong_before : (j : Question) → IsIn j (Q2 ∷ []) → IsIn j (Q1 ∷ Q2 ∷ Q3 ∷ [])
    strong_before j (inl e) = inr (inl e)
    strong_before j (inr none) = absurd none

    linkage_and_rank_before : (j : Question) → IsIn j (Q1 ∷ Q5 ∷ []) → IsIn j (Q1 ∷ Q2 ∷ Q3 ∷ Q4 ∷ Q5 ∷ [])
    linkage_and_rank_before j (inl e) = inl e
    linkage_and_rank_before j (inr (inl e)) = inr (inr (inr (inr (inl e))))
    linkage_and_rank_before j (inr (inr none)) = absurd none

    zero_before : (j : Question) → IsIn j (Q1 ∷ Q4 ∷ Q5 ∷ []) → IsIn j (Q1 ∷ Q2 ∷ Q3 ∷ Q4 ∷ Q5 ∷ Q6 ∷ Q7 ∷ Q8 ∷ [])
    zero_before j (inl e) = inl e
    zero_before j (inr (inl e)) = inr (inr (inr (inl e)))
    zero_before j (inr (inr (inl e))) = inr (inr (inr (inr (inl e))))
    zero_before j (inr (inr (inr none))) = absurd none

    one_before : (j : Question) → IsIn j (Q1 ∷ Q2 ∷ Q6 ∷ []) → IsIn j (Q1 ∷ Q2 ∷ Q3 ∷ Q4 ∷ Q5 ∷ Q6 ∷ Q7 ∷ Q8 ∷ Q9 ∷ [])
    one_before j (inl e) = inl e
    one_before j (inr (inl e)) = inr (inl e)
    one_before j (inr (inr (inl e))) = inr (inr (inr (inr (inr (inl e)))))
    one_before j (inr (inr (inr none))) = absurd none

    regular_before : (j : Question) → IsIn j (Q1 ∷ Q2 ∷ Q7 ∷ []) → IsIn j (Q1 ∷ Q2 ∷ Q3 ∷ Q4 ∷ Q5 ∷ Q6 ∷ Q7 ∷ Q8 ∷ Q9 ∷ Q10 ∷ [])
    regular_before j (inl e) = inl e
    regular_before j (inr (inl e)) = inr (inl e)
    regular_before j (inr (inr (inl e))) = inr (inr (inr (inr (inr (inr (inl e))))))
    regular_before j (inr (inr (inr none))) = absurd none

    confluence_before : (j : Question) → IsIn j (Q1 ∷ Q2 ∷ Q4 ∷ Q11 ∷ []) → IsIn j (Q1 ∷ Q2 ∷ Q3 ∷ Q4 ∷ Q5 ∷ Q6 ∷ Q7 ∷ Q8 ∷ Q9 ∷ Q10 ∷ Q11 ∷ [])
    confluence_before j (inl e) = inl e
    confluence_before j (inr (inl e)) = inr (inl e)
    confluence_before j (inr (inr (inl e))) = inr (inr (inr (inl e)))
    confluence_before j (inr (inr (inr (inl e)))) = inr (inr (inr (inr (inr (inr (inr (inr (inr (inr (inl e))))))))))
    confluence_before j (inr (inr (inr (inr none)))) = absurd none

    signal_before : (j : Question) → IsIn j (Q4 ∷ Q12 ∷ []) → IsIn j (Q1 ∷ Q2 ∷ Q3 ∷ Q4 ∷ Q5 ∷ Q6 ∷ Q7 ∷ Q8 ∷ Q9 ∷ Q10 ∷ Q11 ∷ Q12 ∷ [])
    signal_before j (inl e) = inr (inr (inr (inl e)))
    signal_before j (inr (inl e)) = inr (inr (inr (inr (inr (inr (inr (inr (inr (inr (inr (inl e)))))))))))
    signal_before j (inr (inr none)) = absurd none

sound_by : (net : Net) (qs : List Question) (answers : List Answer) → AllTrueOrOpen net qs answers → AreSound net qs (verdicts_of answers)
sound_by net [] [] t = refl
sound_by net (q ∷ qs) (a ∷ answers) t = (t.0, sound_by net qs answers t.1)
sound_by net qs answers t = absurd t

answers_true : (net : Net) (answers : List Answer) → IsNetwork net → AreFormed net [] built answers → AreValid net [] built answers → AreSound net built (verdicts_of answers)
answers_true net answers n f v = sound_by net built answers (valid_documents_are_true built net answers built_in_order n f v)

pub records_true : (net : Net) (answers : List (List Record)) → IsNetwork net → documents.AreValid meaning built (meaning.start net) answers → AreSound net built (verdicts_said built (meaning.start net) answers)
records_true net answers n v =
    let g = records_answered net answers (valid_are_formed meaning built (meaning.start net) answers v) in
    let w = records_valid net g.0 g.1 (subst (λ (x : List (List Record)). documents.AreValid meaning built (meaning.start net) x) (sym g.2) v) in
    subst (λ (vs : List Verdict). AreSound net built vs) (sym g.3) (answers_true net g.0 n g.1 w)
