use Rattle.crn_conc.proofs.Prelude.{◌≡◌, ◌-◌, ℕ, List, get_or, sym, ap, ◌∙◌, arith, get_or_past, Sign, Zero, sign_at}
use Rattle.crn_conc.proofs.SumLaws.{no_sign, signs_past}
use Rattle.crn_conc.proofs.chosen.last_sign_at.Goals as goal

pub returns-then-k-reactions : goal.returns-then-k-reactions
returns-then-k-reactions c = λ d e. sym (ap (λ (l : List Sign). sign_at l d) (signs_past c.args.table.now c.args.k (omega (arith, c.if-k-reactions.true, c.reactions.ensures))) ∙ no_sign d)

pub returns-then-choices-eq0 : goal.returns-then-choices-eq0
returns-then-choices-eq0 c = λ d e. absurd (omega (arith, e, c.if-choices-eq0.true))

pub returns-then-choices-signs : goal.returns-then-choices-signs
returns-then-choices-signs c = λ d e. sym (ap (λ (l : List Sign). sign_at l d) (sym c.row-signs.ensures) ∙ get_or_past c.row-signs.result.now d Zero (omega (arith, e, c.if-choices-signs.true)))

pub returns : goal.returns
returns c = λ d e.
    let at : c.args.choices - 1 ≡ d = omega (arith, e) in
    ap (λ (i : ℕ). get_or c.row-signs.result.now i Zero) at ∙ ap (λ (l : List Sign). sign_at l d) c.row-signs.ensures
