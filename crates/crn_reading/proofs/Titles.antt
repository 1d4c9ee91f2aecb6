-- The first lines of the two versions, byte by byte.
use Rattle.crn_reading.proofs.Prelude.{◌≡◌, ◌++◌, ◌∙◌, inl, inr, ap, ℕ, List, false, IsTrue, arith, false≢true, decimal_digit, title, IsTitleOf}
use Rattle.std.proofs.Common.{codes}

-- the first line of version 1
pub title_one : title 1 ≡ codes "crn certificate 1"
title_one = ap (λ (ds : List ℕ). codes "crn certificate " ++ ds) (decimal_digit 1 (omega arith))

-- the first line of version 2
pub title_two : title 2 ≡ codes "crn certificate 2"
title_two = ap (λ (ds : List ℕ). codes "crn certificate " ++ ds) (decimal_digit 2 (omega arith))

-- a line that is neither is the first line of no version
pub no_title : (line : List ℕ) → (line ≡ codes "crn certificate 1" → IsTrue false)
    → (line ≡ codes "crn certificate 2" → IsTrue false)
    → (version : ℕ) → IsTitleOf line version → ⊥
no_title line one two version (inl e, same) = false≢true (one (same ∙ ap title e ∙ title_one))
no_title line one two version (inr (inl e), same) = false≢true (two (same ∙ ap title e ∙ title_two))
no_title line one two version (inr (inr never), same) = elim never [ ]
