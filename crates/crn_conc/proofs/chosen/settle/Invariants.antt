use Rattle.crn_conc.proofs.Prelude.{settled_below, ◌≡◌, drop, length, all_zero, width, word_count, signs_at}
use Rattle.crn_conc.proofs.SumLaws.{IsFilling, IsLeft}
use Rattle.crn_conc.proofs.chosen.settle.Given as goal

abbrev pub invariant-loop-k : goal.invariant-loop-k
invariant-loop-k l = record {
  count : length l.words ≡ word_count l.matrix;
  rest : IsLeft (settled_below l.table l.choices) (settled_below l.table l.choices) (width l.matrix) l.words l.k;
  done : IsFilling (λ j. all_zero (drop l.choices (signs_at l.table j))) (λ j. all_zero (drop l.choices (signs_at l.table j))) l.words l.k;
}
