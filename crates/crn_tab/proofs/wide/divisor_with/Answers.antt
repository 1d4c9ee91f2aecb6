use Rattle.crn_tab.proofs.Prelude.{◌≡◌, ◌≤◌, ◌<◌, ℕ, ap, ◌∙◌, arith, rules, to_z, of_z, ℤ, pos, ◌≤ℤ◌, unsigned_abs, FitsSigned, ◌∣◌, w64, w128, ints, to_z-of_z, le_of_dvd, pos_of_dvd_of_pos, WIDE_ENTRY}
use Rattle.crn_tab.proofs.Cross.{read}
use Rattle.crn_tab.proofs.wide.divisor_with.Goals as goal

-- a divisor of a small positive number is positive and small
bounds : (g : ℤ) (n d : ℕ) → n ≡ unsigned_abs (to_z w64 (of_z w64 g)) → pos 1 ≤ℤ g → unsigned_abs g < WIDE_ENTRY → d ∣ n
    → (1 ≤ d) × (d < WIDE_ENTRY)
bounds g n d value some small h =
    let is : n ≡ unsigned_abs g = value ∙ ap unsigned_abs (read g small) in
    let more : 0 < n = omega (arith, ints, is, some) in
    (pos_of_dvd_of_pos h more, omega (arith, le_of_dvd more h, is, small))

pub overflow_cast-result : goal.overflow_cast-result
overflow_cast-result c =
    let b = bounds c.args.g.now c.unsigned_abs-2.result c.gcd_of.result c.unsigned_abs-2.ensures.value c.requires.some c.requires.small c.gcd_of.ensures.gcd.1 in
    omega (arith, ints, b.1)

pub returns-clause-gcd : goal.returns-clause-gcd
returns-clause-gcd c =
    let b = bounds c.args.g.now c.unsigned_abs-2.result c.gcd_of.result c.unsigned_abs-2.ensures.value c.requires.some c.requires.small c.gcd_of.ensures.gcd.1 in
    let fx : FitsSigned w128 c.args.x.now = search rules in
    let ux : c.unsigned_abs.result ≡ unsigned_abs c.args.x.now = c.unsigned_abs.ensures.value ∙ ap unsigned_abs (to_z-of_z w128 c.args.x.now fx) in
    let ug : c.unsigned_abs-2.result ≡ unsigned_abs c.args.g.now = c.unsigned_abs-2.ensures.value ∙ ap unsigned_abs (read c.args.g.now c.requires.small) in
    let e : unsigned_abs (to_z w64 c.gcd_of.result) ≡ c.gcd_of.result = omega (arith, ints, b.1) in
    rw (e, ← ux, ← ug) c.gcd_of.ensures.gcd

pub returns-clause-some : goal.returns-clause-some
returns-clause-some c =
    let b = bounds c.args.g.now c.unsigned_abs-2.result c.gcd_of.result c.unsigned_abs-2.ensures.value c.requires.some c.requires.small c.gcd_of.ensures.gcd.1 in
    omega (arith, ints, b.0, b.1)

pub returns-clause-small : goal.returns-clause-small
returns-clause-small c =
    let b = bounds c.args.g.now c.unsigned_abs-2.result c.gcd_of.result c.unsigned_abs-2.ensures.value c.requires.some c.requires.small c.gcd_of.ensures.gcd.1 in
    omega (arith, ints, b.1)
