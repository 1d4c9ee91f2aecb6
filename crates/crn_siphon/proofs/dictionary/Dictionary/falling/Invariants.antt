use Rattle.crn_siphon.proofs.Prelude.{◌<◌, length, IfSome}
use Rattle.crn_siphon.proofs.dictionary.Dictionary.falling.Given as goal

abbrev pub invariant-loop-i : goal.invariant-loop-i
invariant-loop-i l = IfSome l.falls (λ k. k < length l.self.laws.items)
