use Rattle.crn_ctext.proofs.Prelude.{numbers_text}
use Rattle.std.specs.Prelude.{◌≡◌, ◌≤◌, ◌+◌, ◌*◌, ◌++◌, take, length}
use Rattle.crn_ctext.proofs.write_piece.add_ints.Given as goal

abbrev pub invariant-loop-number : goal.invariant-loop-number
invariant-loop-number l = (l.piece.items ≡ l.initial.piece.items ++ numbers_text (take l.number-index l.numbers)) × (length l.piece.items ≤ length l.initial.piece.items + 42 * l.number-index)
