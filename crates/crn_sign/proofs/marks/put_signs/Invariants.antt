use Rattle.crn_sign.proofs.Prelude.{◌≡◌, ◌<◌, ◌≤◌, ◌*◌, ℕ, length, Zero, mark_at, sign_mark, sign_there}
use Rattle.crn_sign.proofs.marks.put_signs.Given as goal

abbrev pub invariant-loop-k : goal.invariant-loop-k
invariant-loop-k l = record {
  count : length l.into ≡ length l.fn.into;
  done : (j : ℕ) → j < l.k → mark_at l.into j ≡ sign_mark (sign_there l.signs j);
  rest : (j : ℕ) → l.k ≤ j → j < length l.fn.into * 64 → mark_at l.into j ≡ Zero;
}
