use Rattle.crn_tab.proofs.Prelude.{subst, ◌≡◌, ◌*◌, ◌^◌, ◌<◌, ℕ, refl, ◌∙◌, arith, to_z, of_z, ℤ, pos, ◌-ℤ◌, ◌*ℤ◌, neg_ℤ, FitsSigned, unsigned_abs, w64, w128, ints, to_z-of_z, fits_signed_from_abs, unsigned_abs-mul, WIDE_ENTRY, minus, abs_minus, neg-mul, ap, sym, rules, ◌≤◌, ◌∣◌}
use Rattle.crn_tab.proofs.Cross.{read, widened, narrowed, product_small}
use Rattle.crn_tab.proofs.ColumnList.{nothing}
use Rattle.crn_tab.proofs.column.quotient.Goals as goal

large : (l : ℕ) → l < WIDE_ENTRY → to_z w128 l ≡ pos l
large l h = omega (arith, ints, h)

-- the values that the code forms
record Formed (num den : ℤ) (l : ℕ) : Type 0 where
  pub own : to_z w128 (of_z w128 (to_z w64 (of_z w64 den))) ≡ den
  pub product : to_z w128 (of_z w128 (pos 0 -ℤ to_z w128 (of_z w128 (to_z w128 (of_z w128 (to_z w64 (of_z w64 num))) *ℤ to_z w128 l)))) ≡ neg_ℤ (num *ℤ pos l)
  pub size : unsigned_abs (neg_ℤ (num *ℤ pos l)) ≡ unsigned_abs num * l

formed : (num den : ℤ) (l : ℕ) → unsigned_abs num < WIDE_ENTRY → unsigned_abs den < WIDE_ENTRY → l < WIDE_ENTRY → Formed num den l
formed num den l hn hd hl =
    let p : ℤ = num *ℤ pos l in
    let small : unsigned_abs p < 2 ^ 124 = product_small num (pos l) hn hl in
    let fits : FitsSigned w128 p = fits_signed_from_abs w128 p (omega (arith, small)) in
    let fits' : FitsSigned w128 (neg_ℤ p) = fits_signed_from_abs w128 (neg_ℤ p) (omega (arith, small, abs_minus p)) in
    record {
      own = widened den hd;
      product = rw (widened num hn, large l hl, to_z-of_z w128 p fits, minus p, to_z-of_z w128 (neg_ℤ p) fits') refl;
      size = abs_minus p ∙ unsigned_abs-mul num (pos l);
    }

pub exact_quotient-x-requires-clause-divides : goal.exact_quotient-x-requires-clause-divides
exact_quotient-x-requires-clause-divides c =
    let h = formed c.args.num.now c.args.den.now c.args.l.now c.requires.num_small c.requires.den_small c.requires.l_small in
    rw (h.own, h.product, h.size) c.requires.divides

pub returns-then-is_small : goal.returns-then-is_small
returns-then-is_small c =
    let h = formed c.args.num.now c.args.den.now c.args.l.now c.requires.num_small c.requires.den_small c.requires.l_small in
    let x = c.exact_quotient-x.result in
    let small : unsigned_abs x < WIDE_ENTRY = search rules in
    let e = rw (h.own, h.product) at c.exact_quotient-x.ensures in
    rw (narrowed x small) (e, small)

pub returns-else-is_small : goal.returns-else-is_small
returns-else-is_small c =
    let h = formed c.args.num.now c.args.den.now c.args.l.now c.requires.num_small c.requires.den_small c.requires.l_small in
    let x = c.exact_quotient-x.result in
    let wide : WIDE_ENTRY ≤ unsigned_abs x = search rules in
    let e = rw (h.own, h.product) at c.exact_quotient-x.ensures in
    (x, e, wide)

-- where the row's own entry is l
pub returns-then-den-l : goal.returns-then-den-l
returns-then-den-l c =
    let num = c.args.num.now in
    let den = c.args.den.now in
    let l = c.args.l.now in
    let same : den ≡ pos l = omega (arith, ints, c.if-den-l.true, c.requires.den_small, c.requires.den_some) in
    let n_is : to_z w64 (of_z w64 num) ≡ num = read num c.requires.num_small in
    let fits : unsigned_abs (neg_ℤ num) < WIDE_ENTRY = omega (arith, ints, c.requires.num_small) in
    rw (n_is, minus num, read (neg_ℤ num) fits) (ap (λ (t : ℤ). neg_ℤ num *ℤ t) same ∙ neg-mul num (pos l), fits)

pub returns-then-num-eq0 : goal.returns-then-num-eq0
returns-then-num-eq0 c =
    let zero : c.args.num.now ≡ pos 0 = sym (read c.args.num.now c.requires.num_small) ∙ ap (to_z w64) c.if-num-eq0.true in
    (nothing c.args.num.now c.args.den.now c.args.l.now zero, omega arith)

-- where the product is small
pub over-requires-clause-divides : goal.over-requires-clause-divides
over-requires-clause-divides c =
    let num = c.args.num.now in
    let l = c.args.l.now in
    let D : ℕ → Type 0 = λ k. unsigned_abs c.args.den.now ∣ k in
    subst D (sym (ap unsigned_abs (read c.in-Some.product c.in-Some.ensures.1 ∙ c.in-Some.ensures.0) ∙ unsigned_abs-mul num (pos l))) c.requires.divides

pub returns-in-Some : goal.returns-in-Some
returns-in-Some c =
    let num = c.args.num.now in
    let den = c.args.den.now in
    let l = c.args.l.now in
    let x = c.over.result in
    let small : unsigned_abs x < WIDE_ENTRY = c.over.ensures.small in
    let fits : unsigned_abs (neg_ℤ x) < WIDE_ENTRY = omega (arith, ints, small) in
    rw (read x small, minus x, read (neg_ℤ x) fits) (neg-mul x den ∙ ap neg_ℤ (c.over.ensures.value ∙ read c.in-Some.product c.in-Some.ensures.1 ∙ c.in-Some.ensures.0), fits)
