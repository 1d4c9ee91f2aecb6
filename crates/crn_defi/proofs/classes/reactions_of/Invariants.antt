use Rattle.crn_defi.proofs.Prelude.{◌≡◌, ◌-◌, ◌==◌, filter, slice_index, slice_index_or, range_with_len}
use Rattle.crn_defi.proofs.classes.reactions_of.Given as goal

abbrev pub invariant-loop-r : goal.invariant-loop-r
invariant-loop-r l = l.members.items ≡ filter (λ r. slice_index l.label (slice_index_or l.net.reactions (r - 1) (0, 0)).0 == l.class) (range_with_len 1 l.r)
