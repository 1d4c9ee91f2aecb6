use Rattle.crn_net.proofs.Prelude.{◌≡◌, take, amount_in, side_of}
use Rattle.crn_net.proofs.side_sums.has_name.Given as goal

abbrev pub invariant-loop-term : goal.invariant-loop-term
invariant-loop-term l = amount_in (side_of l.text (take l.term-index l.side)) l.name ≡ 0
