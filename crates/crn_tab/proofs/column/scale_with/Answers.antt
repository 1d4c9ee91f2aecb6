use Rattle.crn_tab.proofs.Prelude.{◌≡◌, ◌<◌, ◌*◌, ◌/◌, ◌%◌, ℕ, ap, sym, subst, ◌∙◌, arith, to_z, of_z, ℤ, pos, unsigned_abs, w64, ◌∣◌, ints, one-dvd, dvd-mul_left, dvd-mul_right, div-add-mod, WIDE_ENTRY}
use Rattle.crn_tab.proofs.Cross.{read}
use Rattle.crn_tab.proofs.Scales.{stays, stays_zero}
use Rattle.crn_tab.proofs.column.scale_with.Goals.{then-own-eq1-via-then-own-eq1, then-own-eq1-via-else-own-eq1+then-own-l}
use Rattle.crn_tab.proofs.column.scale_with.Goals as goal

-- the absolute value of a small number, read
as_word : (den : ℤ) → unsigned_abs den < WIDE_ENTRY → unsigned_abs (to_z w64 (of_z w64 den)) ≡ unsigned_abs den
as_word den small = ap unsigned_abs (read den small)

by_rest : (d x : ℕ) → x % d ≡ 0 → d ∣ x
by_rest d x e =
    let D : ℕ → Type 0 = λ k. d ∣ k in
    let h : d * (x / d) ≡ x = omega (arith, div-add-mod x d, e) in
    subst D h (dvd-mul_right d (x / d))

pub returns-then-num-eq0 : goal.returns-then-num-eq0
returns-then-num-eq0 c =
    let zero : c.args.num.now ≡ pos 0 = sym (read c.args.num.now c.requires.num_small) ∙ ap (to_z w64) c.if-num-eq0.true in
    (stays_zero c.args.num.now c.args.den.now c.args.l.now zero, c.requires.l_small)

pub returns-then-own-eq1 : goal.returns-then-own-eq1
returns-then-own-eq1 c =
    let a = unsigned_abs c.args.num.now in
    let d = unsigned_abs c.args.den.now in
    let l = c.args.l.now in
    let is : unsigned_abs (to_z w64 (of_z w64 c.args.den.now)) ≡ d = as_word c.args.den.now c.requires.den_small in
    let D : ℕ → Type 0 = λ k. k ∣ a * l in
    let divides : d ∣ a * l = elim c.then-own-eq1.branch [
      | then-own-eq1-via-then-own-eq1 w ↦ subst D (sym w.if-own-eq1.true ∙ is) (one-dvd (a * l))
      | then-own-eq1-via-else-own-eq1+then-own-l w ↦ subst D (sym w.if-own-l.true ∙ is) (dvd-mul_left l a)
    ] in
    (stays c.args.num.now c.args.den.now l (omega (arith, ints, c.requires.den_some)) divides, c.requires.l_small)

pub returns-then-product-own-eq0 : goal.returns-then-product-own-eq0
returns-then-product-own-eq0 c =
    let a = unsigned_abs c.args.num.now in
    let d = unsigned_abs c.args.den.now in
    let l = c.args.l.now in
    let is : unsigned_abs (to_z w64 (of_z w64 c.args.den.now)) ≡ d = as_word c.args.den.now c.requires.den_small in
    let size : c.unsigned_abs.result ≡ a = c.unsigned_abs.ensures.value ∙ ap unsigned_abs (read c.args.num.now c.requires.num_small) in
    let product : c.in-Some.product ≡ a * l = c.in-Some.ensures.1 ∙ ap (λ k. k * l) size in
    let D : ℕ → Type 0 = λ k. k ∣ c.in-Some.product in
    let E : ℕ → Type 0 = λ k. d ∣ k in
    let divides : d ∣ a * l = subst E product (subst D is (by_rest (unsigned_abs (to_z w64 (of_z w64 c.args.den.now))) c.in-Some.product c.if-product-own-eq0.true)) in
    (stays c.args.num.now c.args.den.now l (omega (arith, ints, c.requires.den_some)) divides, c.requires.l_small)
