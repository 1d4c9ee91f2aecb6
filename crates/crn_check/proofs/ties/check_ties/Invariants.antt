use Rattle.crn_check.proofs.Prelude.{length, IsTie, IsSpared, is_tied}
use Rattle.crn_check.proofs.InOrder.{AreDone}
use Rattle.crn_check.proofs.ties.check_ties.Given as goal

-- the ties so far pass
abbrev pub invariant-loop-c : goal.invariant-loop-c
invariant-loop-c l = AreDone (IsTie l.net l.labels l.count (IsSpared l.spared)) (is_tied l.spared) 0 (length l.net.complexes) l.first l.ties l.c l.done
