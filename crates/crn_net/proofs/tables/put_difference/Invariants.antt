use Rattle.crn_net.proofs.Prelude.{◌≡◌, length, take, minus, MAX_SPECIES}
use Rattle.crn_net.proofs.tables.put_difference.Given as goal

abbrev pub invariant-loop-s : goal.invariant-loop-s
invariant-loop-s l = record {
  long : length l.row ≡ MAX_SPECIES;
  are : take l.s l.row ≡ minus (take l.s l.product) (take l.s l.reactant);
}
