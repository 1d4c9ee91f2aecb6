use Rattle.crn_document.proofs.Prelude.{◌≡◌, filter, range_with_len, is_in_class}
use Rattle.crn_document.proofs.linkage.fill_members.Given as goal

-- the list holds the members among the reactions so far
abbrev pub invariant-loop-r : goal.invariant-loop-r
invariant-loop-r l = l.into.list ≡ filter (λ r. is_in_class l.fn.net l.fn.labels l.fn.class r) (range_with_len 1 l.r)
