use Rattle.crn_endo.proofs.Prelude.{◌≡◌, ◌<◌, ◌≤◌, ℕ, List, length, Sign, kind_at, bit_of, slope_kinds, IsAskable}
use Rattle.crn_endo.proofs.problem.put_weak_words.Given as goal

abbrev pub invariant-loop-k : goal.invariant-loop-k
invariant-loop-k l = record {
  count : length l.words ≡ length l.initial.words;
  done : (p : List Sign) (j : ℕ) → j < l.k → IsAskable (bit_of l.words j) (kind_at (slope_kinds l.given.net l.given.reaction p) j);
  rest : (j : ℕ) → l.k ≤ j → bit_of l.words j ≡ 0;
}
