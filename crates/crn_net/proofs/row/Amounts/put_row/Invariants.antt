use Rattle.crn_net.proofs.Prelude.{◌≡◌, take, length, MAX_SPECIES}
use Rattle.crn_net.proofs.row.Amounts.put_row.Given as goal

abbrev pub invariant-loop-s : goal.invariant-loop-s
invariant-loop-s l = record {
  long : length l.row ≡ MAX_SPECIES;
  are : take l.s l.row ≡ take l.s l.self;
}
