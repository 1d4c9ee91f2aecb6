use Rattle.crn_ctext.proofs.Prelude.{◌≡◌, ◌≤◌, ◌+◌, ◌++◌, List, map, length, Came, capped}
use Rattle.std.proofs.Common.{ℤ}
use Rattle.crn_ctext.proofs.record_numbers.numbers.Given as goal

abbrev pub invariant-loop-left : goal.invariant-loop-left
invariant-loop-left l = (zs : List ℤ) × Came l.initial.left l.left zs
    × (l.into.list ≡ l.initial.into.list ++ map capped zs) × (length zs ≡ l.count) × (l.count ≤ l.most)
    × (l.into.spare + l.count ≡ l.initial.into.spare)

abbrev pub decreases-loop-left : goal.decreases-loop-left
decreases-loop-left l = length l.left
