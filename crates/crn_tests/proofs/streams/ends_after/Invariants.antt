use Rattle.std.proofs.Common.{◌≡◌, true}
use Rattle.crn_tests.proofs.streams.ends_after.Given as goal

abbrev pub invariant-calls : goal.invariant-calls
invariant-calls l = l.lines.goes_on ≡ true
