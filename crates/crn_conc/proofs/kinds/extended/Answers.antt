use Rattle.crn_conc.proofs.Prelude.{bit_or, sym, subst, Sign, IsExtended}
use Rattle.crn_conc.proofs.SumLaws.{extended_minus, extended_plus, extended_zero}
use Rattle.crn_conc.proofs.kinds.extended.Goals as goal

pub returns-in-Zero : goal.returns-in-Zero
returns-in-Zero c = subst (λ (s : Sign). IsExtended c.args.above c.args.signs s c.args.above) (sym c.in-Zero.is) (extended_zero c.args.above c.args.signs)

pub returns-in-Plus : goal.returns-in-Plus
returns-in-Plus c =
    let a = c.args.above in
    let b = c.args.signs in
    subst (λ (s : Sign). IsExtended a b s (record { plus = bit_or a.plus b.plus; minus = bit_or a.minus b.minus })) (sym c.in-Plus.is) (extended_plus a b)

pub returns-in-Minus : goal.returns-in-Minus
returns-in-Minus c =
    let a = c.args.above in
    let b = c.args.signs in
    subst (λ (s : Sign). IsExtended a b s (record { plus = bit_or a.plus b.minus; minus = bit_or a.minus b.plus })) (sym c.in-Minus.is) (extended_minus a b)
