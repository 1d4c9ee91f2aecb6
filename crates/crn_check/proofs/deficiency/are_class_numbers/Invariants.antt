use Rattle.crn_check.proofs.Prelude.{◌↔◌, ◌+◌, drop, AreClassNumbers}
use Rattle.crn_check.proofs.deficiency.are_class_numbers.Given as goal

-- all deficiencies are right if and only if those from here on are
abbrev pub invariant-loop-k : goal.invariant-loop-k
invariant-loop-k l = AreClassNumbers l.net l.facts.earlier (l.k + 1) (drop l.k l.classes) ↔ AreClassNumbers l.net l.facts.earlier 1 l.classes
