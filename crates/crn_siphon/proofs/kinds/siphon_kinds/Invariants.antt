use Rattle.crn_siphon.proofs.Prelude.{◌≡◌, ◌++◌, length, map, replicate, Free, members, change_kind}
use Rattle.crn_siphon.proofs.kinds.siphon_kinds.Given as goal

abbrev pub invariant-loop-s : goal.invariant-loop-s
invariant-loop-s l = l.kinds.items ≡ replicate (length l.net.reactions) Free ++ map change_kind (members l.set l.s)
