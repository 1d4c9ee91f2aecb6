use Rattle.crn_check.proofs.Prelude.{◌<◌, ℕ, IsInTree}
use Rattle.crn_check.proofs.Numbering.{IsNumberedTo}
use Rattle.crn_check.proofs.trees.are_trees.Given as goal

-- the labels so far are numbered up to the greatest, and each complex so far is a root or hangs
abbrev pub invariant-loop-c : goal.invariant-loop-c
invariant-loop-c l = record {
  numbered : IsNumberedTo l.labels l.c l.most;
  hang : (d : ℕ) → d < l.c → IsInTree l.rule l.net l.labels l.names l.depth d;
}
