-- The answers on linkage classes, strong classes and the rank, without those to the other questions.
-- Source: this project's own.
use Rattle.std.specs.Prelude.{◌≡◌, ℕ, List, [], ◌∷◌}
use Rattle.crn_vec.specs.Network.{Net}
use Rattle.crn_cert.specs.declared.answer.Answer.{Answer}
use Rattle.crn_cert.specs.Answered.{IsAnswer}
use Rattle.crn_cert.specs.Questions.{IsOpen, Q1, Q2, Q5}
use Rattle.crn_cert.specs.Verdicts.{tight}

-- five answers: in the places of questions 1, 2 and 5 are answers to them, each after the verdicts of
-- those before; those in the places of questions 3 and 4 are open
abbrev pub AreRankAnswers : Net → ℕ → List Answer → Type 0
AreRankAnswers net budget (a ∷ b ∷ c ∷ d ∷ e ∷ more) = IsAnswer net budget [] Q1 a
    × IsAnswer net budget ((Q1, tight a.verdict) ∷ []) Q2 b
    × IsAnswer net budget ((Q1, tight a.verdict) ∷ (Q2, tight b.verdict) ∷ []) Q5 e
    × IsOpen c.verdict × IsOpen d.verdict × (more ≡ [])
AreRankAnswers net budget answers = ⊥
