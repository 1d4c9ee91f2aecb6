use Rattle.crn_cert.proofs.Prelude.{◌≡◌, map, take}
use Rattle.crn_cert.proofs.share.rows_of.Given as goal

abbrev pub invariant-loop-list : goal.invariant-loop-list
invariant-loop-list l = l.rows ≡ map (λ u. u.now) (take l.list-index l.lists.keys)
