use Rattle.crn_check.proofs.Prelude.{◌≡◌, ◌≤◌, ◌++◌, map, length, Fact}
use Rattle.crn_check.proofs.Kept.{earlier_of}
use Rattle.crn_check.proofs.facts.Facts.into_verdicts.Given as goal

abbrev pub invariant-loop-fact : goal.invariant-loop-fact
invariant-loop-fact l =
    (l.verdicts ≡ map (λ (f : Fact). f.verdict) l.yielded)
    × (earlier_of (l.yielded ++ l.fact-iterator.rest.items) ≡ l.fn.self.earlier)
    × (length (l.yielded ++ l.fact-iterator.rest.items) ≤ 15)
