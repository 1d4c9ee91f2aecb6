use Rattle.crn_tab.proofs.Prelude.{◌≡◌, ◌<◌, ◌^◌, sym, ap, subst, arith, to_z, ℤ, ◌*ℤ◌, ◌-ℤ◌, unsigned_abs, ◌∣◌, w64, ints, le_of_dvd, entry}
use Rattle.crn_tab.proofs.LowCross.{read_low}
use Rattle.crn_tab.proofs.ShortCross.{read_short}
use Rattle.crn_tab.proofs.short.first_divisor.Goals as goal

pub loop-j-init : goal.loop-j-init
loop-j-init c =
    let e = read_low c.args.known.now (omega (arith, c.requires.short)) in
    rw e (record {
      greatest = c.requires.known;
      some = c.requires.some;
      short = c.requires.short;
    })

pub returns-then-g-eq1-clause-greatest : goal.returns-then-g-eq1-clause-greatest
returns-then-g-eq1-clause-greatest c = λ d h.
    subst (λ n. d ∣ n) (ap (λ b. unsigned_abs (to_z w64 b)) c.if-g-eq1.true) (c.loop-j.invariant.greatest d h)

pub loop-j-preserved : goal.loop-j-preserved
loop-j-preserved c =
    let j = c.loop-j.j in
    let p = c.args.p.now in
    let q = c.args.q.now in
    let r = c.divisor_with-g.result in
    let was = to_z w64 c.loop-j.g-bits in
    let some : 0 < unsigned_abs was = omega (arith, ints, c.loop-j.invariant.some) in
    let less : unsigned_abs r < 2 ^ 14 = omega (arith, le_of_dvd some c.divisor_with-g.ensures.less, c.loop-j.invariant.short) in
    let x = c.short_cross.result in
    let small : unsigned_abs x < 2 ^ 30 = c.short_cross.ensures.small in
    let is : x ≡ (p *ℤ entry c.args.row.now j) -ℤ (q *ℤ entry c.args.lead.now j) = c.short_cross.ensures.value in
    let greatest = rw (read_short x small, read_low x small) at c.divisor_with-g.ensures.greatest in
    rw (read_low r (omega (arith, less))) (record {
      greatest = λ d h. greatest d (subst (λ (z : ℤ). d ∣ unsigned_abs z) (sym is) (h j)) (c.loop-j.invariant.greatest d h);
      some = c.divisor_with-g.ensures.some;
      short = less;
    })
