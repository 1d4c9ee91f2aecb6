use Rattle.crn_shelf.proofs.Prelude.{◌≡◌, ◌<◌, ◌≤◌, ℕ, length, Free, shelf_kinds, kind_at, kind_in, word_count, added_kind}
use Rattle.crn_shelf.proofs.choice.put_added.Given as goal

abbrev pub invariant-loop-k : goal.invariant-loop-k
invariant-loop-k l = record {
  count : length l.words ≡ word_count l.matrix;
  done : (j : ℕ) → j < l.k → kind_in l.words j ≡ added_kind (kind_at (shelf_kinds l.shape l.before) j) (kind_at (shelf_kinds l.shape l.prefix) j);
  free : (j : ℕ) → l.k ≤ j → kind_in l.words j ≡ Free;
}
