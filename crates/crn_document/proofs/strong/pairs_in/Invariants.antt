use Rattle.crn_document.proofs.Prelude.{◌≡◌, pairs_to}
use Rattle.crn_document.proofs.strong.pairs_in.Given as goal

-- the list holds the pairs among the reactions so far
abbrev pub invariant-loop-r : goal.invariant-loop-r
invariant-loop-r l = l.pairs.list ≡ pairs_to l.fn.net l.fn.classes.labels.now l.fn.classes.exits.now l.r
