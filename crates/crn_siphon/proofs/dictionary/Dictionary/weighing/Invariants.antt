use Rattle.crn_siphon.proofs.Prelude.{◌<◌, length, IfSome}
use Rattle.crn_siphon.proofs.dictionary.Dictionary.weighing.Given as goal

abbrev pub invariant-loop-i : goal.invariant-loop-i
invariant-loop-i l = IfSome l.found (λ k. k < length l.self.laws.items)
