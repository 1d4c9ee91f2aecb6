use Rattle.crn_conc.proofs.Prelude.{◌≡◌, ◌+◌, ℕ, length, false, width, is_minus, is_plus, sign_at, word_count, signs_at}
use Rattle.crn_conc.proofs.SumLaws.{IsFilling, IsLeft}
use Rattle.crn_conc.proofs.chosen.signs_by.Given as goal

abbrev pub invariant-loop-k : goal.invariant-loop-k
invariant-loop-k l = record {
  count : length l.words.items ≡ word_count l.matrix;
  rest : IsLeft (λ j. false) (λ j. false) (width l.matrix) l.words.items l.k;
  done : (d : ℕ) → d + 1 ≡ l.choices → IsFilling (λ j. is_plus (sign_at (signs_at l.table j) d)) (λ j. is_minus (sign_at (signs_at l.table j) d)) l.words.items l.k;
}
