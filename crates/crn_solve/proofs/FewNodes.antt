-- Answers to questions 1 to 12 have no trees, so that all trees have few nodes if those of question 13 have.
use Rattle.crn_solve.proofs.Prelude.{◌≡◌, ℕ, [], ◌∷◌, refl, Net, Answer, Earlier, Question, Q1, Q2, Q3, Q4, Q5, Q6, Q7, Q8, Q9, Q10, Q11, Q12, trees, HeadKind, IsAnswer, HasFewNodes, HaveFewNodes, treeless, treeless_few, AreAnswers, first_questions}

-- the answer to a question without trees has few nodes
one_few : (q : Question) → ((net : Net) (earlier : Earlier) (kind : HeadKind) → trees net earlier q kind ≡ []) → (net : Net) (budget : ℕ) (earlier : Earlier) (a : Answer) → IsAnswer net budget earlier q a → HasFewNodes budget a.proof
one_few q none net budget earlier a h = treeless_few budget a.proof (treeless net earlier q a.verdict a.proof (none net earlier) h.formed)

pub first_few : (net : Net) (budget : ℕ) (a1 a2 a3 a4 a5 a6 a7 a8 a9 a10 a11 a12 a13 : Answer)
    → AreAnswers net budget [] first_questions (a1 ∷ a2 ∷ a3 ∷ a4 ∷ a5 ∷ a6 ∷ a7 ∷ a8 ∷ a9 ∷ a10 ∷ a11 ∷ a12 ∷ a13 ∷ []) → HasFewNodes budget a13.proof
    → HaveFewNodes budget (a1 ∷ a2 ∷ a3 ∷ a4 ∷ a5 ∷ a6 ∷ a7 ∷ a8 ∷ a9 ∷ a10 ∷ a11 ∷ a12 ∷ a13 ∷ [])
first_few net budget a1 a2 a3 a4 a5 a6 a7 a8 a9 a10 a11 a12 a13 (h1, (h2, (h3, (h4, (h5, (h6, (h7, (h8, (h9, (h10, (h11, (h12, more)))))))))))) few13 = (
  one_few Q1 (λ n e k. refl) net budget _ a1 h1,
  (
    one_few Q2 (λ n e k. refl) net budget _ a2 h2,
    (
      one_few Q3 (λ n e k. refl) net budget _ a3 h3,
      (
        one_few Q4 (λ n e k. refl) net budget _ a4 h4,
        (
          one_few Q5 (λ n e k. refl) net budget _ a5 h5,
          (
            one_few Q6 (λ n e k. refl) net budget _ a6 h6,
            (
              one_few Q7 (λ n e k. refl) net budget _ a7 h7,
              (
                one_few Q8 (λ n e k. refl) net budget _ a8 h8,
                (
                  one_few Q9 (λ n e k. refl) net budget _ a9 h9,
                  (
                    one_few Q10 (λ n e k. refl) net budget _ a10 h10,
                    (
                      one_few Q11 (λ n e k. refl) net budget _ a11 h11,
                      (
                        one_few Q12 (λ n e k. refl) net budget _ a12 h12,
                        (few13, tt),
                      ),
                    ),
                  ),
                ),
              ),
            ),
          ),
        ),
      ),
    ),
  ),
)
