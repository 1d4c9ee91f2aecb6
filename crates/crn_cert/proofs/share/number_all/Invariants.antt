use Rattle.crn_cert.proofs.Prelude.{◌≤◌, length, take, MAX_SHARED, all_cuts, AreNumbered}
use Rattle.crn_cert.proofs.share.number_all.Given as goal

-- the share of the cuts of the answers so far
abbrev pub invariant-loop-k : goal.invariant-loop-k
invariant-loop-k l = record {
  few : length l.made.lists.set.keys ≤ MAX_SHARED;
  numbered : AreNumbered l.made.lists.set.keys l.made.leaf.list (all_cuts (take l.k l.answers));
}
