use Rattle.crn_tab.proofs.Prelude.{◌≡◌, ◌≤◌, ◌-◌, ap, ◌∙◌, sym, subst, arith, to_z, ℤ, pos, unsigned_abs, ◌∣◌, w64, ints, one-dvd, pos_of_dvd_of_pos, WIDE_ENTRY}
use Rattle.crn_tab.proofs.Cross.{read}
use Rattle.crn_tab.proofs.combine.common.Goals as goal

pub returns-clause-gcd : goal.returns-clause-gcd
returns-clause-gcd c =
    let ux : c.unsigned_abs.result ≡ unsigned_abs c.args.x.now = c.unsigned_abs.ensures.value ∙ ap unsigned_abs (read c.args.x.now c.requires.x) in
    let uy : c.unsigned_abs-2.result ≡ unsigned_abs c.args.y.now = c.unsigned_abs-2.ensures.value ∙ ap unsigned_abs (read c.args.y.now c.requires.y) in
    let le = c.gcd_of.ensures.small (WIDE_ENTRY - 1) (omega (arith, ux, c.requires.x)) (omega (arith, uy, c.requires.y)) in
    let e : unsigned_abs (to_z w64 c.gcd_of.result) ≡ c.gcd_of.result = omega (arith, ints, le) in
    rw (e, ← ux, ← uy) c.gcd_of.ensures.gcd

pub returns-clause-some : goal.returns-clause-some
returns-clause-some c =
    let ux : c.unsigned_abs.result ≡ unsigned_abs c.args.x.now = c.unsigned_abs.ensures.value ∙ ap unsigned_abs (read c.args.x.now c.requires.x) in
    let uy : c.unsigned_abs-2.result ≡ unsigned_abs c.args.y.now = c.unsigned_abs-2.ensures.value ∙ ap unsigned_abs (read c.args.y.now c.requires.y) in
    let le = c.gcd_of.ensures.small (WIDE_ENTRY - 1) (omega (arith, ux, c.requires.x)) (omega (arith, uy, c.requires.y)) in
    let some : 1 ≤ c.gcd_of.result = pos_of_dvd_of_pos c.gcd_of.ensures.gcd.1 (omega (arith, ints, uy, c.requires.some)) in
    omega (arith, ints, le, some)

pub returns-then-y-eq1-clause-gcd : goal.returns-then-y-eq1-clause-gcd
returns-then-y-eq1-clause-gcd c =
    let is : c.args.y.now ≡ pos 1 = sym (read c.args.y.now c.requires.y) ∙ ap (to_z w64) c.if-y-eq1.true in
    (one-dvd (unsigned_abs c.args.x.now), one-dvd (unsigned_abs c.args.y.now), λ d p q. subst (λ (z : ℤ). d ∣ unsigned_abs z) is q)
