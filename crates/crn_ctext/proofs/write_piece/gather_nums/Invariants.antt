use Rattle.crn_ctext.proofs.Prelude.{numbers_text, Gathered}
use Rattle.std.specs.Prelude.{◌<◌, ◌++◌, take, length, map}
use Rattle.std.proofs.Common.{pos}
use Rattle.crn_ctext.proofs.write_piece.gather_nums.Given as goal

abbrev pub invariant-loop-number : goal.invariant-loop-number
invariant-loop-number g l = (length l.piece.items < 512) × Gathered (l.initial.piece.items ++ numbers_text (map pos (take l.number-index l.numbers))) l.piece.items (g.K.Sink.seen l.initial.sink) (g.K.Sink.seen l.sink)
