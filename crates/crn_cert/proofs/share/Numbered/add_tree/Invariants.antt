use Rattle.crn_cert.proofs.Prelude.{◌≤◌, ◌++◌, List, length, map, take, MAX_SHARED, AreNumbered, cuts_listed}
use Rattle.std.proofs.Common.{ℤ}
use Rattle.crn_cert.specs.Preorder.{listed}
use Rattle.crn_cert.proofs.share.Numbered.add_tree.Given as goal

-- the cuts of the nodes so far come after those before
abbrev pub invariant-loop-node : goal.invariant-loop-node
invariant-loop-node l = record {
  few : length l.self.lists.set.keys ≤ MAX_SHARED;
  added : (us : List (List ℤ)) → AreNumbered l.initial.self.lists.set.keys l.initial.self.leaf.list us
      → AreNumbered l.self.lists.set.keys l.self.leaf.list (us ++ cuts_listed (map listed (take l.node-index l.node-items)));
}
