use Rattle.crn_ctext.proofs.Prelude.{refl, sym, ap, ◌∙◌, [], List, ℕ, ◌++◌, numbers_text}
use Rattle.std.proofs.Common.{append-nil, codes}
use Rattle.crn_ctext.proofs.WrittenLines.{numbers_parts, zeros_text}
use Rattle.crn_ctext.proofs.write_piece.add_zeros.Goals as goal

pub returns-then-numbers-lt4-clause-added : goal.returns-then-numbers-lt4-clause-added
returns-then-numbers-lt4-clause-added c = ([], refl, sym (append-nil _))

pub returns-then-are_zero-clause-added : goal.returns-then-are_zero-clause-added
returns-then-are_zero-clause-added c =
    let s = c.split_at in (
      codes " 0 0 0 0",
      numbers_parts 4 c.args.numbers.now s.result.0.now s.result.1.now s.ensures.front s.ensures.back
          ∙ ap (λ (t : List ℕ). t ++ numbers_text s.result.1.now) (ap numbers_text (c.are_zero.ensures c.if-are_zero.true) ∙ zeros_text),
      c.add_bytes.ensures.text,
    )

pub returns-clause-added : goal.returns-clause-added
returns-clause-added c = ([], refl, sym (append-nil _))
