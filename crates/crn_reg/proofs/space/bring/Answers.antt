use Rattle.crn_reg.proofs.Prelude.{◌≡◌, ap, ◌∙◌, arith, ℤ, pos, ◌*ℤ◌, ints, entry, no_zero}
use lib.IntN.{zero-*ℤ}
use Rattle.crn_reg.proofs.space.bring.Goals as goal

pub pivot-requires-clause-some : goal.pivot-requires-clause-some
pivot-requires-clause-some c w named =
    let v = c.requires.some in
    let x = entry v.0 c.args.enter in
    let y = entry v.0 c.args.leave in
    let e = c.entry.ensures.columns v.0 v.1 in
    let positive = c.entry.ensures.den in
    let some : c.entry.result.num ≡ pos 0 → ⊥ = λ z. v.2 (no_zero c.entry.result.den x (e ∙ ap (λ (t : ℤ). t *ℤ y) z ∙ zero-*ℤ y) (λ d. omega (arith, ints, d, positive))) in
    c.entry.ensures.some some w named

pub returns-clause-basis : goal.returns-clause-basis
returns-clause-basis c k i = (c.in_default.ensures.ok.members k).0 i
