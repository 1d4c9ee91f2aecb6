use Rattle.crn_document.proofs.Prelude.{◌≡◌, ◌≤◌, length, filter, range_with_len, is_in_class}
use Rattle.crn_document.proofs.linkage.count_members.Given as goal

-- so many members are among the reactions so far
abbrev pub invariant-loop-r : goal.invariant-loop-r
invariant-loop-r l = record { few : l.count ≤ l.r; is : l.count ≡ length (filter (λ r. is_in_class l.net l.labels l.class r) (range_with_len 1 l.r)) }
