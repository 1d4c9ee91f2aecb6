use Rattle.crn_sign.proofs.Prelude.{◌≡◌, ℕ, ap, ap₂, sym, ◌∙◌, arith, is_signed, Mark, bit_of, weakened, kind_of_mark}
use Rattle.crn_sign.proofs.MarkLaws.{kind_asked}
use Rattle.crn_sign.proofs.finder.Finder.give_required_sign.Goals as goal

pub give_sign-requires-clause-asked : goal.give_sign-requires-clause-asked
give_sign-requires-clause-asked c =
    let weak = c.args.weak.now in
    let asked = c.args.asked.now in
    let g = c.args.g in
    let firm : bit_of weak g ≡ 0 = sym c.bit_of.ensures ∙ omega arith in
    ap is_signed (kind_asked c.args.matrix.now weak asked g c.requires.goal)
    ∙ ap₂ (λ (m : Mark) (e : ℕ). is_signed (weakened (kind_of_mark m) e)) (sym c.mark_at-mark.ensures ∙ c.in-Plus.is) firm

pub give_sign-requires-in-Minus-clause-asked : goal.give_sign-requires-in-Minus-clause-asked
give_sign-requires-in-Minus-clause-asked c =
    let weak = c.args.weak.now in
    let asked = c.args.asked.now in
    ap is_signed (kind_asked c.args.matrix.now weak asked c.args.g c.requires.goal)
    ∙ ap (λ (m : Mark). is_signed (weakened (kind_of_mark m) (bit_of weak c.args.g))) (sym c.mark_at-mark.ensures ∙ c.in-Minus.is)
