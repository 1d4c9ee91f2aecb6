use Rattle.crn_ctext.proofs.Prelude.{◌≡◌, ◌≤◌, take, length, MAX_REACTIONS, pairs_to}
use Rattle.crn_ctext.proofs.write_pairs.list_pairs.Given as goal

abbrev pub invariant-loop-r : goal.invariant-loop-r
invariant-loop-r l = record {
  long : length l.pairs ≡ MAX_REACTIONS;
  few : l.count ≤ l.r;
  listed : take l.count l.pairs ≡ pairs_to l.net l.labels l.exits l.r;
}
