use Rattle.crn_shelf.proofs.Prelude.{◌≡◌, map, take, shelf_number}
use Rattle.crn_shelf.proofs.answer.shelf_numbers.Given as goal

abbrev pub invariant-loop-k : goal.invariant-loop-k
invariant-loop-k l = l.numbers.list ≡ take l.k (map shelf_number l.shelves)
