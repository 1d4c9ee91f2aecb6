use Rattle.crn_tab.proofs.Prelude.{sym, subst, ℤ, unsigned_abs, ◌∣◌, dvd_refl}
use Rattle.crn_tab.proofs.Cross.{read}
use Rattle.crn_tab.proofs.low.divisor_with.Goals as goal

pub returns-then-is_multiple-clause-divides : goal.returns-then-is_multiple-clause-divides
returns-then-is_multiple-clause-divides c = subst (λ (z : ℤ). unsigned_abs z ∣ unsigned_abs c.args.x.now) (sym (read c.args.g.now c.requires.small)) (c.is_multiple.ensures c.if-is_multiple.true)

pub returns-then-is_multiple-clause-less : goal.returns-then-is_multiple-clause-less
returns-then-is_multiple-clause-less c = subst (λ (z : ℤ). unsigned_abs z ∣ unsigned_abs c.args.g.now) (sym (read c.args.g.now c.requires.small)) (dvd_refl (unsigned_abs c.args.g.now))

pub returns-then-is_multiple-clause-greatest : goal.returns-then-is_multiple-clause-greatest
returns-then-is_multiple-clause-greatest c = λ d hx hg. subst (λ (z : ℤ). d ∣ unsigned_abs z) (sym (read c.args.g.now c.requires.small)) hg

pub returns-clause-divides : goal.returns-clause-divides
returns-clause-divides c = subst (λ (z : ℤ). unsigned_abs z ∣ unsigned_abs c.args.x.now) (sym (read c.common.result c.common.ensures.small)) c.common.ensures.gcd.0

pub returns-clause-less : goal.returns-clause-less
returns-clause-less c = subst (λ (z : ℤ). unsigned_abs z ∣ unsigned_abs c.args.g.now) (sym (read c.common.result c.common.ensures.small)) c.common.ensures.gcd.1

pub returns-clause-greatest : goal.returns-clause-greatest
returns-clause-greatest c = λ d hx hg. subst (λ (z : ℤ). d ∣ unsigned_abs z) (sym (read c.common.result c.common.ensures.small)) (c.common.ensures.gcd.2 d hx hg)
