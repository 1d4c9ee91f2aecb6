use Rattle.crn_tab.proofs.Prelude.{◌≡◌, ◌≤◌, vec_len, vec_capacity}
use Rattle.crn_tab.proofs.Support.{PlacesUpTo}
use Rattle.crn_tab.proofs.lead.put_places.Given as goal

abbrev pub invariant-loop-k : goal.invariant-loop-k
invariant-loop-k l = record {
  so_far : PlacesUpTo l.row l.places.items l.k;
  count : vec_len l.places ≤ l.k;
  room : vec_capacity l.places ≡ vec_capacity l.fn.places;
}
