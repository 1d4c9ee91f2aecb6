use Rattle.crn_ctext.proofs.Prelude.{◌↔◌, drop, AllByRecursion, IsNarrow}
use Rattle.crn_ctext.proofs.record_shape.are_narrow.Given as goal

abbrev pub invariant-loop-number : goal.invariant-loop-number
invariant-loop-number l = AllByRecursion IsNarrow (drop l.number-index l.numbers) ↔ AllByRecursion IsNarrow l.numbers
