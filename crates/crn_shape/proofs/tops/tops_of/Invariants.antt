use Rattle.crn_shape.proofs.Prelude.{◌≡◌, map, take, top_for}
use Rattle.crn_shape.proofs.tops.tops_of.Given as goal

abbrev pub invariant-loop-c : goal.invariant-loop-c
invariant-loop-c l = l.tops.items ≡ take l.c (map (top_for l.exits) l.labels)
