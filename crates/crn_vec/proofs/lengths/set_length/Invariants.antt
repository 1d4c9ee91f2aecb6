use Rattle.crn_vec.proofs.Prelude.{◌≡◌, ◌≤◌, ◌-◌, vec_len, vec_capacity}
use Rattle.crn_vec.proofs.lengths.set_length.Given as goal

abbrev pub decreases-places : goal.decreases-places
decreases-places g l = l.fn.count - vec_len l.list

abbrev pub invariant-places : goal.invariant-places
invariant-places g l = record {
  count : vec_len l.list ≤ l.fn.count;
  room : vec_capacity l.list ≡ vec_capacity l.fn.list;
}
