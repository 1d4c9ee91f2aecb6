use Rattle.crn_ctext.proofs.Prelude.{err_from_is_err_and, refl, ap, ap₂, ◌∙◌, List, ℕ, ◌++◌, WrotePrefix-more, numbers_text}
use Rattle.std.proofs.Common.{codes}
use Rattle.crn_ctext.proofs.WrittenLines.{numbers_parts, zeros_text}
use Rattle.crn_ctext.proofs.Pieces.{Gathered-add, Gathered-next}
use Rattle.crn_ctext.proofs.write_piece.gather_first.Goals as goal

pub returns-in_err-make_room-clause-prefix : goal.returns-in_err-make_room-clause-prefix
returns-in_err-make_room-clause-prefix g c =
    let p = err_from_is_err_and c.from_residual.result c.from_residual.ensures.1 in
    rw p.1 (WrotePrefix-more _ c.in_err-make_room.ensures.gathers.prefix)

pub returns-then-are_zero-clause-first : goal.returns-then-are_zero-clause-first
returns-then-are_zero-clause-first g c =
    let s = c.split_at in
    let more = c.add_zeros.ensures.added in (
      codes " 0 0 0 0" ++ more.0,
      numbers_parts 4 c.args.numbers.now s.result.0.now s.result.1.now s.ensures.front s.ensures.back
          ∙ ap₂ (λ (a b : List ℕ). a ++ b) (ap numbers_text (c.are_zero.ensures c.if-are_zero.true) ∙ zeros_text) more.1,
      Gathered-next c.args.piece.now.items (codes " 0 0 0 0") more.0 more.2 (Gathered-add _ c.add_bytes.ensures.text refl c.in_ok-make_room.ensures.gathers.all),
    )

pub returns-in_err-make_room-2-clause-prefix : goal.returns-in_err-make_room-2-clause-prefix
returns-in_err-make_room-2-clause-prefix g c =
    let r = c.from_residual-in_err-make_room-2 in
    let p = err_from_is_err_and r.result r.ensures.1 in
    rw p.1 (WrotePrefix-more _ c.in_err-make_room-2.ensures.gathers.prefix)

pub returns-clause-first : goal.returns-clause-first
returns-clause-first g c =
    let s = c.split_at in (
      numbers_text s.result.0.now,
      numbers_parts 4 c.args.numbers.now s.result.0.now s.result.1.now s.ensures.front s.ensures.back,
      Gathered-add _ c.add_ints.ensures.text refl c.in_ok-make_room-2.ensures.gathers.all,
    )
