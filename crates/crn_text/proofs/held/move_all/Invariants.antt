use Rattle.crn_text.proofs.Prelude.{◌≡◌, ◌++◌, take, drop, map, moved}
use Rattle.crn_text.proofs.held.move_all.Given as goal

abbrev pub invariant-loop-term : goal.invariant-loop-term
invariant-loop-term l = l.terms ≡ map (λ t. moved l.by t) (take l.term-index l.fn.terms) ++ drop l.term-index l.fn.terms
