use Rattle.crn_ctext.proofs.Prelude.{err_from_is_err_and}
use Rattle.crn_ctext.proofs.Pieces.{Gathered-none, Gathered-whole, Gathers-prefix}
use Rattle.crn_ctext.proofs.write_piece.make_room.Goals as goal

pub returns-then-remaining_capacity-bytes-clause-gathers : goal.returns-then-remaining_capacity-bytes-clause-gathers
returns-then-remaining_capacity-bytes-clause-gathers g c = record { all = Gathered-none _ _; prefix = tt }

pub returns-in_err-put_piece-clause-gathers : goal.returns-in_err-put_piece-clause-gathers
returns-in_err-put_piece-clause-gathers g c =
    let p = err_from_is_err_and c.from_residual.result c.from_residual.ensures.1 in
    let wrote = rw c.as_slice.ensures.value at c.in_err-put_piece.ensures in
    Gathers-prefix p.1 wrote.prefix

pub returns-clause-gathers : goal.returns-clause-gathers
returns-clause-gathers g c = record { all = Gathered-whole c.as_slice.ensures.value c.clear.ensures c.in_ok-put_piece.ensures.all; prefix = tt }
