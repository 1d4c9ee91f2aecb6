use Rattle.crn_ctext.proofs.Prelude.{err_from_is_err_and, arith, sym, ap, refl, ◌∙◌, List, ℕ, [], ◌++◌, append_assoc, numbers_text}
use Rattle.std.proofs.Common.{append-nil}
use Rattle.crn_ctext.proofs.Pieces.{Gathered-held, Gathered-then, Gathered-next, Gathered-step, Gathered-halts, Gathered-breaks, Gathers-prefix}
use Rattle.crn_ctext.proofs.write_piece.gather_ints.Goals as goal

pub parts-init : goal.parts-init
parts-init g c = ([], refl, Gathered-held _ (sym (append-nil _)))

pub parts-preserved : goal.parts-preserved
parts-preserved g c =
    let done = c.parts.invariant.0 in
    let first = c.in_ok-left.ensures.first in (
      done ++ first.0,
      c.parts.invariant.1 ∙ ap (λ (t : List ℕ). done ++ t) first.1 ∙ sym (append_assoc done first.0 _),
      Gathered-then (Gathered-next _ _ _ refl c.parts.invariant.2) first.2,
    )

pub returns-in_err-left-clause-gathers : goal.returns-in_err-left-clause-gathers
returns-in_err-left-clause-gathers g c =
    let p = err_from_is_err_and c.from_residual.result c.from_residual.ensures.1 in
    Gathers-prefix p.1 (Gathered-breaks _ c.parts.invariant.0 (numbers_text c.parts.left.now) c.parts.invariant.1 c.parts.invariant.2 c.in_err-left.ensures.prefix)

pub returns-in_err-make_room-clause-gathers : goal.returns-in_err-make_room-clause-gathers
returns-in_err-make_room-clause-gathers g c =
    let p = err_from_is_err_and c.from_residual-in_err-make_room.result c.from_residual-in_err-make_room.ensures.1 in
    Gathers-prefix p.1 (Gathered-halts _ c.parts.invariant.0 (numbers_text c.parts.left.now) c.parts.invariant.1 c.parts.invariant.2 c.in_err-make_room.ensures.gathers.prefix)

pub add_ints-requires : goal.add_ints-requires
add_ints-requires g c = omega (arith, c.parts-test.false, c.in_ok-make_room.ensures.room)

pub returns-clause-gathers : goal.returns-clause-gathers
returns-clause-gathers g c = record {
  all = Gathered-step _ c.parts.invariant.0 (numbers_text c.parts.left.now) c.parts.invariant.1 c.add_ints.ensures.text (Gathered-then c.parts.invariant.2 c.in_ok-make_room.ensures.gathers.all);
  prefix = tt;
}

pub returns-clause-room : goal.returns-clause-room
returns-clause-room g c = omega (arith, c.add_ints.ensures.len, c.in_ok-make_room.ensures.room, c.parts-test.false)
