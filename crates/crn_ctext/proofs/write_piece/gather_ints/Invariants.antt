use Rattle.crn_ctext.proofs.Prelude.{numbers_text, Gathered}
use Rattle.std.specs.Prelude.{◌≡◌, ◌++◌, ℕ, List, length}
use Rattle.crn_ctext.proofs.write_piece.gather_ints.Given as goal

abbrev pub invariant-parts : goal.invariant-parts
invariant-parts g l = (done : List ℕ) × (numbers_text l.numbers ≡ done ++ numbers_text l.left) × Gathered (l.initial.piece.items ++ done) l.piece.items (g.K.Sink.seen l.initial.sink) (g.K.Sink.seen l.sink)

abbrev pub decreases-parts : goal.decreases-parts
decreases-parts g l = length l.left
