use Rattle.crn_reg.proofs.Prelude.{◌≡◌, length, AllZip, width, IsTieOf, numbers_but}
use Rattle.crn_reg.proofs.ties.ties.Given as goal

abbrev pub invariant-loop-c : goal.invariant-loop-c
invariant-loop-c l = record {
  work : length l.work ≡ width l.tableau.matrix;
  ties : AllZip (IsTieOf l.tableau.matrix l.spared) (numbers_but l.spared l.c) l.ties;
}
