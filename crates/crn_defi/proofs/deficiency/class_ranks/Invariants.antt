use Rattle.crn_defi.proofs.Prelude.{◌≡◌, length, AreClassRanks}
use Rattle.crn_defi.proofs.deficiency.class_ranks.Given as goal

abbrev pub invariant-loop-k : goal.invariant-loop-k
invariant-loop-k l = record {
  ranks : AreClassRanks l.net l.linkage.label.list 1 l.deficiencies.list l.proofs;
  count : length l.deficiencies.list ≡ l.k;
}
