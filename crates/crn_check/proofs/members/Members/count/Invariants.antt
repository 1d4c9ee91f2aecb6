use Rattle.crn_check.proofs.Prelude.{◌≡◌, ◌≤◌, ◌+◌, length, members_of}
use Rattle.crn_check.proofs.Outside.{left}
use Rattle.crn_check.proofs.members.Members.count.Given as goal

-- so many members are before this reaction
abbrev pub invariant-loop-r : goal.invariant-loop-r
invariant-loop-r l = record { few : l.count ≤ l.r; all : l.count + length (left l.net l.self l.r) ≡ length (members_of l.net l.self) }
