use Rattle.crn_net.proofs.Prelude.{◌≡◌, ◌≤◌, ℕ, List, length, take, sum_in}
use Rattle.crn_net.proofs.merge.without_zeros.Given as goal

abbrev pub invariant-shares : goal.invariant-shares
invariant-shares l = (length l.kept.items ≤ l.share-index) × ((text name : List ℕ) → sum_in text l.kept.items name ≡ sum_in text (take l.share-index l.shares) name)
