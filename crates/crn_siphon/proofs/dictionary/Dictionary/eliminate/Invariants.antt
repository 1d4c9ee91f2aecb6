use Rattle.crn_siphon.proofs.Prelude.{◌≡◌, length}
use Rattle.crn_siphon.proofs.dictionary.Dictionary.eliminate.Given as goal

abbrev pub invariant-loop-j : goal.invariant-loop-j
invariant-loop-j l = length l.self.laws.items ≡ length l.initial.self.laws.items
