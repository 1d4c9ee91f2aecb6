use Rattle.crn_sign.proofs.Prelude.{◌≡◌, ◌≢◌, ◌<◌, ◌+◌, ◌*◌, ◌/◌, ℕ, length, bit_at, kind_at, weakened, mark_in, kind_of_mark}
use Rattle.crn_sign.proofs.kinds.put_kinds.Given as goal

abbrev pub invariant-bits : goal.invariant-bits
invariant-bits l = record {
  fits : l.rest < 18446744073709551616;
  count : length l.kinds.items ≡ length l.fn.kinds.items;
  others : (k : ℕ) → k / 64 ≢ l.w → kind_at l.kinds.items k ≡ kind_at l.fn.kinds.items k;
  done : (i : ℕ) → i < 64 → bit_at l.rest i ≡ 0 → 64 * l.w + i < length l.fn.kinds.items
      → kind_at l.kinds.items (64 * l.w + i) ≡ weakened (kind_of_mark (mark_in l.bits i)) (bit_at l.weak i);
}

abbrev pub decreases-bits : goal.decreases-bits
decreases-bits l = l.rest
