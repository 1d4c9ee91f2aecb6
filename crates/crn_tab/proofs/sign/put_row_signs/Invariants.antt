use Rattle.crn_tab.proofs.Prelude.{◌≡◌, ◌<◌, ℕ, List, length, slice_index_or, Zero, entry, HasSign, IsRowOfSign, basis_of}
use Rattle.std.proofs.Common.{ℤ}
use Rattle.crn_tab.proofs.sign.put_row_signs.Given as goal

abbrev pub invariant-loop-c : goal.invariant-loop-c
invariant-loop-c l = record {
  count : length l.signs ≡ length l.initial.signs;
  seen : (w : List ℤ) → IsRowOfSign l.fields.matrix.now (basis_of l.fields.matrix.now.cols l.fields.at.now) l.row l.sign w → (k : ℕ) → k < l.c → HasSign (slice_index_or l.signs k Zero) (entry w k);
}
