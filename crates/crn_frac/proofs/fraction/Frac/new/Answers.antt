use Rattle.crn_frac.proofs.Prelude.{◌≡◌, ◌≢◌, refl, sym, ap, ◌∙◌, ◌≤◌, ◌<◌, arith, ◌^◌, to_z, of_z, ℤ, pos, ◌*ℤ◌, ◌-ℤ◌, neg_ℤ, ◌≤ℤ◌, FitsSigned, unsigned_abs, w128, IsGcd, ints, to_z-of_z, fits_signed_from_abs, pos_of_dvd_of_pos}
use lib.IntN.{zero-*ℤ}
use Rattle.crn_frac.proofs.Lowest.{lowest_value, lowest_value_neg, minus, abs_minus, smaller, reduced}
use Rattle.crn_frac.proofs.fraction.Frac.new.Goals as goal

-- what is known of the greatest common divisor
record Divisor (num den g : ℤ) : Type 0 where
  pub gcd : IsGcd (unsigned_abs num) (unsigned_abs den) (unsigned_abs g)
  pub some : pos 1 ≤ℤ g

divisor_of : (num den g : ℤ) → FitsSigned w128 num → FitsSigned w128 den → den ≢ pos 0
    → IsGcd (unsigned_abs (to_z w128 (of_z w128 num))) (unsigned_abs (to_z w128 (of_z w128 den))) (unsigned_abs g) → pos 0 ≤ℤ g → Divisor num den g
divisor_of num den g fn fd ne h sign =
    let both : IsGcd (unsigned_abs num) (unsigned_abs den) (unsigned_abs g) = rw (to_z-of_z w128 num fn, to_z-of_z w128 den fd) at h in
    let abs_some : 1 ≤ unsigned_abs den = omega (arith, ints, ne) in
    let some : 1 ≤ unsigned_abs g = pos_of_dvd_of_pos both.1 abs_some in
    record { gcd = both; some = omega (arith, ints) }

pub exact_quotient-n-requires-clause-some : goal.exact_quotient-n-requires-clause-some
exact_quotient-n-requires-clause-some c =
    let k = divisor_of c.args.num c.args.den c.gcd-g.result c.ranges.num c.ranges.den c.requires.den_some c.gcd-g.ensures.gcd c.gcd-g.ensures.sign in
    rw (to_z-of_z w128 c.gcd-g.result (record { sfits = c.gcd-g.type_inv })) k.some

pub exact_quotient-n-requires-clause-divides : goal.exact_quotient-n-requires-clause-divides
exact_quotient-n-requires-clause-divides c =
    rw (to_z-of_z w128 c.gcd-g.result (record { sfits = c.gcd-g.type_inv })) c.gcd-g.ensures.gcd.0

pub exact_quotient-d-requires-clause-some : goal.exact_quotient-d-requires-clause-some
exact_quotient-d-requires-clause-some c =
    let k = divisor_of c.args.num c.args.den c.gcd-g.result c.ranges.num c.ranges.den c.requires.den_some c.gcd-g.ensures.gcd c.gcd-g.ensures.sign in
    rw (to_z-of_z w128 c.gcd-g.result (record { sfits = c.gcd-g.type_inv })) k.some

pub exact_quotient-d-requires-clause-divides : goal.exact_quotient-d-requires-clause-divides
exact_quotient-d-requires-clause-divides c =
    rw (to_z-of_z w128 c.gcd-g.result (record { sfits = c.gcd-g.type_inv })) c.gcd-g.ensures.gcd.1

-- what is known once both parts are divided
record Parts (num den n d : ℤ) : Type 0 where
  pub value : n *ℤ den ≡ num *ℤ d
  pub reduced : IsGcd (unsigned_abs n) (unsigned_abs d) 1
  pub n_small : unsigned_abs n ≤ unsigned_abs num
  pub d_small : unsigned_abs d ≤ unsigned_abs den
  pub d_some : d ≢ pos 0

parts_of : (num den g n d : ℤ) → Divisor num den g → den ≢ pos 0 → FitsSigned w128 num → FitsSigned w128 den → FitsSigned w128 g
    → n *ℤ to_z w128 (of_z w128 g) ≡ to_z w128 (of_z w128 num) → d *ℤ to_z w128 (of_z w128 g) ≡ to_z w128 (of_z w128 den) → Parts num den n d
parts_of num den g n d k ne fn fd fg p q =
    let e : n *ℤ g ≡ num = rw (to_z-of_z w128 g fg, to_z-of_z w128 num fn) at p in
    let f : d *ℤ g ≡ den = rw (to_z-of_z w128 g fg, to_z-of_z w128 den fd) at q in
    let some : 1 ≤ unsigned_abs g = omega (arith, ints, k.some) in
    record {
      value = lowest_value num den g n d e f;
      reduced = reduced num den g n d k.gcd some e f;
      n_small = smaller num g n some e;
      d_small = smaller den g d some f;
      d_some = λ z. ne (sym f ∙ ap (λ (t : ℤ). t *ℤ g) z ∙ zero-*ℤ g);
    }

pub returns-clause-value : goal.returns-clause-value
returns-clause-value c =
    let k = divisor_of c.args.num c.args.den c.gcd-g.result c.ranges.num c.ranges.den c.requires.den_some c.gcd-g.ensures.gcd c.gcd-g.ensures.sign in
    let h = parts_of _ _ _ c.exact_quotient-n.result c.exact_quotient-d.result k c.requires.den_some c.ranges.num c.ranges.den (record { sfits = c.gcd-g.type_inv }) c.exact_quotient-n.ensures c.exact_quotient-d.ensures in
    rw (to_z-of_z w128 c.exact_quotient-n.result (record { sfits = c.exact_quotient-n.type_inv }), to_z-of_z w128 c.exact_quotient-d.result (record { sfits = c.exact_quotient-d.type_inv })) h.value

pub invariant_of-result-2 : goal.invariant_of-result-2
invariant_of-result-2 c =
    let k = divisor_of c.args.num c.args.den c.gcd-g.result c.ranges.num c.ranges.den c.requires.den_some c.gcd-g.ensures.gcd c.gcd-g.ensures.sign in
    let h = parts_of _ _ _ c.exact_quotient-n.result c.exact_quotient-d.result k c.requires.den_some c.ranges.num c.ranges.den (record { sfits = c.gcd-g.type_inv }) c.exact_quotient-n.ensures c.exact_quotient-d.ensures in
    let not_below = rw (to_z-of_z w128 c.exact_quotient-d.result (record { sfits = c.exact_quotient-d.type_inv })) at c.if-d-lt0.false in
    rw (to_z-of_z w128 c.exact_quotient-n.result (record { sfits = c.exact_quotient-n.type_inv }), to_z-of_z w128 c.exact_quotient-d.result (record { sfits = c.exact_quotient-d.type_inv }))
    (record { positive = omega (arith, ints, h.d_some, not_below); lowest = h.reduced })

pub returns-clause-reduced : goal.returns-clause-reduced
returns-clause-reduced c = (invariant_of-result-2 c).lowest

-- the value that the code gives for -n
negated : (n : ℤ) → FitsSigned w128 n → unsigned_abs n < 2 ^ 127 → to_z w128 (of_z w128 (pos 0 -ℤ to_z w128 (of_z w128 n))) ≡ neg_ℤ n
negated n f h =
    let fits : FitsSigned w128 (neg_ℤ n) = fits_signed_from_abs w128 (neg_ℤ n) (omega (arith, abs_minus n)) in
    rw (to_z-of_z w128 n f, minus n, to_z-of_z w128 (neg_ℤ n) fits) refl

pub returns-then-d-lt0-clause-value : goal.returns-then-d-lt0-clause-value
returns-then-d-lt0-clause-value c =
    let k = divisor_of c.args.num c.args.den c.gcd-g.result c.ranges.num c.ranges.den c.requires.den_some c.gcd-g.ensures.gcd c.gcd-g.ensures.sign in
    let h = parts_of _ _ _ c.exact_quotient-n.result c.exact_quotient-d.result k c.requires.den_some c.ranges.num c.ranges.den (record { sfits = c.gcd-g.type_inv }) c.exact_quotient-n.ensures c.exact_quotient-d.ensures in
    rw (negated c.exact_quotient-n.result (record { sfits = c.exact_quotient-n.type_inv }) (omega (arith, h.n_small)), negated c.exact_quotient-d.result (record { sfits = c.exact_quotient-d.type_inv }) (omega (arith, h.d_small)))
    (lowest_value_neg c.args.num c.args.den c.exact_quotient-n.result c.exact_quotient-d.result h.value)

pub invariant_of-result : goal.invariant_of-result
invariant_of-result c =
    let k = divisor_of c.args.num c.args.den c.gcd-g.result c.ranges.num c.ranges.den c.requires.den_some c.gcd-g.ensures.gcd c.gcd-g.ensures.sign in
    let h = parts_of _ _ _ c.exact_quotient-n.result c.exact_quotient-d.result k c.requires.den_some c.ranges.num c.ranges.den (record { sfits = c.gcd-g.type_inv }) c.exact_quotient-n.ensures c.exact_quotient-d.ensures in
    let below = rw (to_z-of_z w128 c.exact_quotient-d.result (record { sfits = c.exact_quotient-d.type_inv })) at c.if-d-lt0.true in
    rw (negated c.exact_quotient-n.result (record { sfits = c.exact_quotient-n.type_inv }) (omega (arith, h.n_small)), negated c.exact_quotient-d.result (record { sfits = c.exact_quotient-d.type_inv }) (omega (arith, h.d_small)))
    (record { positive = omega (arith, ints, below); lowest = rw (abs_minus c.exact_quotient-n.result, abs_minus c.exact_quotient-d.result) h.reduced })

pub returns-then-d-lt0-clause-reduced : goal.returns-then-d-lt0-clause-reduced
returns-then-d-lt0-clause-reduced c = (invariant_of-result c).lowest
