use Rattle.crn_conc.proofs.Prelude.{AreSettledBelow}
use Rattle.crn_conc.proofs.SumLaws.{AreSoFar}
use Rattle.crn_conc.proofs.chosen.columns_by_choice.Given as goal

abbrev pub invariant-loop-choices : goal.invariant-loop-choices
invariant-loop-choices l = record {
  made : AreSoFar l.matrix l.table l.made.items l.choices;
  settled : AreSettledBelow l.matrix l.table l.choices l.settled.items;
}
