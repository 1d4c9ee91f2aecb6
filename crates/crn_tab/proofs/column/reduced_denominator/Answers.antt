use Rattle.crn_tab.proofs.Prelude.{◌≡◌, ◌≤◌, ◌*◌, ◌/◌, ℕ, ap, sym, subst, ◌∙◌, arith, to_z, unsigned_abs, IsGcd, ◌∣◌, w64, ints, one-dvd, dvd-mul_right, div-mul_cancel, pos_of_dvd_of_pos, dvd_refl, dvd-zero}
use Rattle.crn_tab.proofs.Cross.{read}
use Rattle.crn_tab.proofs.column.reduced_denominator.Goals as goal

-- the quotient by the greatest common divisor
record Reduced (a d g : ℕ) : Type 0 where
  pub gcd : IsGcd a d g
  pub g_some : 1 ≤ g
  pub whole : d / g * g ≡ d
  pub some : 1 ≤ d / g

reduced_of : (a d a' d' g : ℕ) → a' ≡ a → d' ≡ d → 1 ≤ d → IsGcd a' d' g → Reduced a d g
reduced_of a d a' d' g e f some h =
    let A : ℕ → Type 0 = λ k. IsGcd k d' g in
    let B : ℕ → Type 0 = λ k. IsGcd a k g in
    let is : IsGcd a d g = subst B f (subst A e h) in
    let whole : d / g * g ≡ d = div-mul_cancel g is.1 in
    let D : ℕ → Type 0 = λ k. d / g ∣ k in
    record {
      gcd = is;
      g_some = pos_of_dvd_of_pos is.1 some;
      whole = whole;
      some = pos_of_dvd_of_pos (subst D whole (dvd-mul_right (d / g) g)) some;
    }

pub nonzero_div-result : goal.nonzero_div-result
nonzero_div-result c =
    let ud : c.unsigned_abs-d.result ≡ unsigned_abs c.args.den.now = omega (arith, ints) in
    let some : 1 ≤ unsigned_abs c.args.den.now = omega (arith, ints, c.requires.some) in
    pos_of_dvd_of_pos c.gcd_of.ensures.gcd.1 (omega (arith, ud, some))

pub returns-clause-is : goal.returns-clause-is
returns-clause-is c =
    let ud : c.unsigned_abs-d.result ≡ unsigned_abs c.args.den.now = omega (arith, ints) in
    let ua : c.unsigned_abs.result ≡ unsigned_abs c.args.num.now = omega (arith, ints) in
    let some : 1 ≤ unsigned_abs c.args.den.now = omega (arith, ints, c.requires.some) in
    let h = reduced_of (unsigned_abs c.args.num.now) (unsigned_abs c.args.den.now) c.unsigned_abs.result c.unsigned_abs-d.result c.gcd_of.result ua ud some c.gcd_of.ensures.gcd in
    (c.gcd_of.result, h.gcd, ap (λ d. d / c.gcd_of.result * c.gcd_of.result) ud ∙ h.whole)

pub returns-clause-some : goal.returns-clause-some
returns-clause-some c =
    let ud : c.unsigned_abs-d.result ≡ unsigned_abs c.args.den.now = omega (arith, ints) in
    let ua : c.unsigned_abs.result ≡ unsigned_abs c.args.num.now = omega (arith, ints) in
    let some : 1 ≤ unsigned_abs c.args.den.now = omega (arith, ints, c.requires.some) in
    let h = reduced_of (unsigned_abs c.args.num.now) (unsigned_abs c.args.den.now) c.unsigned_abs.result c.unsigned_abs-d.result c.gcd_of.result ua ud some c.gcd_of.ensures.gcd in
    let S : ℕ → Type 0 = λ d. 1 ≤ d / c.gcd_of.result in
    subst S (sym ud) h.some

pub returns-then-den-eq1-clause-is : goal.returns-then-den-eq1-clause-is
returns-then-den-eq1-clause-is c =
    let is : unsigned_abs c.args.den.now ≡ 1 = ap unsigned_abs (sym (read c.args.den.now c.requires.den_small) ∙ ap (to_z w64) c.if-den-eq1.true) in
    (1, (one-dvd (unsigned_abs c.args.num.now), one-dvd (unsigned_abs c.args.den.now), λ d p q. subst (λ n. d ∣ n) is q), sym is)

-- the divisors of 0 and a number are those of the number
pub returns-then-num-eq0-clause-is : goal.returns-then-num-eq0-clause-is
returns-then-num-eq0-clause-is c =
    let zero : unsigned_abs c.args.num.now ≡ 0 = ap unsigned_abs (sym (read c.args.num.now c.requires.num_small) ∙ ap (to_z w64) c.if-num-eq0.true) in
    let d : ℕ = unsigned_abs c.args.den.now in
    (d, (subst (λ n. d ∣ n) (sym zero) (dvd-zero d), dvd_refl d, λ k p q. q), omega (arith))
