use Rattle.crn_net.proofs.Prelude.{◌≡◌, ◌≤◌, ◌+◌, ◌++◌, ℕ, List, length, map, take, share_of, sum_in}
use Rattle.crn_net.proofs.merge.put_shares.Given as goal

abbrev pub invariant-terms : goal.invariant-terms
invariant-terms l =
    (length l.slots ≡ length l.initial.slots)
    × (length l.shares.items ≤ length l.initial.shares.items + l.term-index)
    × ((name : List ℕ) → sum_in l.text l.shares.items name ≡ sum_in l.text (l.initial.shares.items ++ map (share_of l.sign) (take l.term-index l.side)) name)
