use Rattle.crn_text.proofs.Prelude.{◌≡◌, ◌==◌, take, list_all}
use Rattle.crn_text.proofs.side.are_zeros.Given as goal

abbrev pub invariant-loop-digit : goal.invariant-loop-digit
invariant-loop-digit l = l.zeros ≡ list_all (λ d. d == 48) (take l.digit-index l.digits)
