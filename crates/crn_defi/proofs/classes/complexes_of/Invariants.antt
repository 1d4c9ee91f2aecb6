use Rattle.crn_defi.proofs.Prelude.{◌≡◌, length, take, class_members}
use Rattle.crn_defi.proofs.classes.complexes_of.Given as goal

abbrev pub invariant-loop-own : goal.invariant-loop-own
invariant-loop-own l = l.count ≡ length (class_members (take l.own-index l.label) l.class)
