use Rattle.crn_siphon.proofs.Prelude.{◌≡◌, length}
use Rattle.crn_siphon.proofs.dictionary.Dictionary.leave.Given as goal

abbrev pub invariant-loop-i : goal.invariant-loop-i
invariant-loop-i l = length l.self.laws.items ≡ length l.initial.self.laws.items
