use Rattle.crn_vec.proofs.Prelude.{◌≡◌, true, take, all_zero}
use Rattle.crn_vec.proofs.signs.is_all_zero.Given as goal

abbrev pub invariant-loop-sign : goal.invariant-loop-sign
invariant-loop-sign l = all_zero (take l.sign-index l.signs) ≡ true
