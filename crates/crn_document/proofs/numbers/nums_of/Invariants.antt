use Rattle.crn_document.proofs.Prelude.{◌≡◌, map, take}
use Rattle.std.proofs.Common.{nat_abs}
use Rattle.crn_document.proofs.numbers.nums_of.Given as goal

-- the list holds the numbers so far
abbrev pub invariant-loop-value : goal.invariant-loop-value
invariant-loop-value l = l.items.items ≡ map nat_abs (take l.value-index l.row)
