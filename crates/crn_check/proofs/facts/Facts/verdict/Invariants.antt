use Rattle.crn_check.proofs.Prelude.{drop}
use Rattle.crn_check.proofs.Kept.{IsAhead}
use Rattle.crn_check.proofs.facts.Facts.verdict.Given as goal

abbrev pub invariant-loop-fact : goal.invariant-loop-fact
invariant-loop-fact l = IsAhead (drop l.fact-index l.fact-items) l.self.earlier l.question
