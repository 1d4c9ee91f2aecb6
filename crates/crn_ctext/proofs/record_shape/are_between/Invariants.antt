use Rattle.crn_ctext.proofs.Prelude.{◌↔◌, drop, AreBetween}
use Rattle.crn_ctext.proofs.record_shape.are_between.Given as goal

abbrev pub invariant-loop-number : goal.invariant-loop-number
invariant-loop-number l =
    AreBetween l.range.least l.range.greatest (drop l.number-index l.numbers) ↔ AreBetween l.range.least l.range.greatest l.numbers
