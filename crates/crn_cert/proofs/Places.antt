-- The number of each question.
use Rattle.crn_cert.proofs.Prelude.{◌≡◌, ◌≤◌, ◌-◌, get_or, refl, arith, Question, Q1, number, questions}

-- a question by its number
pub numbered : (q : Question) → get_or questions (number q - 1) Q1 ≡ q
numbered Q1 = refl
numbered q = refl

-- it is from 1
pub some_number : (q : Question) → 1 ≤ number q
some_number Q1 = omega arith
some_number q = omega arith

-- to 15
pub few_numbers : (q : Question) → number q ≤ 15
few_numbers Q1 = omega arith
few_numbers q = omega arith
