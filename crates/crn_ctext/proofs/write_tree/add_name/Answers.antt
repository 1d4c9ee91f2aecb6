use Rattle.crn_ctext.proofs.Prelude.{ap, sym, refl, ◌∙◌, List, ℕ, [], ◌∷◌, ◌++◌, decimal}
use Rattle.std.proofs.Common.{codes}
use Rattle.crn_ctext.proofs.NameLines.{one_digit, two_digits}
use Rattle.crn_ctext.proofs.Pieces.{added}
use Rattle.crn_ctext.proofs.write_tree.add_name.Goals as goal

pub returns-then-number-lt10 : goal.returns-then-number-lt10
returns-then-number-lt10 c = c.add_bytes.ensures.text ∙ ap (λ (t : List ℕ). c.args.piece.now.items ++ t) (sym (one_digit c.args.part c.args.number c.if-number-lt10.true))

pub returns-then-number-lt100 : goal.returns-then-number-lt100
returns-then-number-lt100 c =
    c.add_bytes-then-number-lt100.ensures.text
    ∙ ap (λ (t : List ℕ). c.args.piece.now.items ++ t) (sym (two_digits c.args.part c.args.number c.if-number-lt10.false c.if-number-lt100.true))

pub returns : goal.returns
returns c =
    let begun = codes "ref" ++ c.args.part ∷ 32 ∷ [] in
    let named = codes "ref" ++ c.args.part ∷ 32 ∷ decimal c.args.number in
    let digits = rw c.from.ensures at c.add_digits.ensures.text in
    added c.args.piece.now.items named (codes "\n") refl (added c.args.piece.now.items begun (decimal c.args.number) refl c.add_bytes-2.ensures.text digits) c.push.ensures.items
