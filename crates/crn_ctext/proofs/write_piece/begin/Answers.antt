use Rattle.crn_ctext.proofs.Prelude.{err_from_is_err_and, arith, refl}
use Rattle.crn_ctext.proofs.Pieces.{Gathered-held, Gathered-whole, Gathers-prefix}
use Rattle.crn_ctext.proofs.write_piece.begin.Goals as goal

pub add_bytes-requires : goal.add_bytes-requires
add_bytes-requires g c = rw c.requires (omega arith)

pub returns-then-text-lt512-clause-room : goal.returns-then-text-lt512-clause-room
returns-then-text-lt512-clause-room g c = rw (rw c.requires at c.add_bytes.ensures.text) (omega arith)

pub returns-then-text-lt512-clause-gathers : goal.returns-then-text-lt512-clause-gathers
returns-then-text-lt512-clause-gathers g c = record { all = Gathered-held _ (rw c.requires at c.add_bytes.ensures.text); prefix = tt }

pub returns-in_err-put_all-clause-gathers : goal.returns-in_err-put_all-clause-gathers
returns-in_err-put_all-clause-gathers g c =
    let p = err_from_is_err_and c.from_residual.result c.from_residual.ensures.1 in
    Gathers-prefix p.1 c.in_err-put_all.ensures.writes.prefix

pub returns-clause-room : goal.returns-clause-room
returns-clause-room g c = rw c.requires (omega arith)

pub returns-clause-gathers : goal.returns-clause-gathers
returns-clause-gathers g c = record { all = Gathered-whole refl c.requires c.in_ok-put_all.ensures.writes.all; prefix = tt }
