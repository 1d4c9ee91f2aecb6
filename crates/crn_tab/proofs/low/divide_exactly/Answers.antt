use Rattle.crn_tab.proofs.Prelude.{sym, ap, subst, arith, ℤ, unsigned_abs, ◌∣◌}
use Rattle.crn_tab.proofs.low.divide_exactly.Goals as goal

pub exact_part-requires-clause-low : goal.exact_part-requires-clause-low
exact_part-requires-clause-low c = λ yes.
    let h = c.requires.low yes in (
      omega (arith, ap unsigned_abs (c.loop-j.invariant.left c.loop-j.j (omega arith)), h.0 c.loop-j.j),
      h.1,
    )

pub exact_part-requires-clause-divides : goal.exact_part-requires-clause-divides
exact_part-requires-clause-divides c = subst (λ (z : ℤ). unsigned_abs c.args.by.now ∣ unsigned_abs z) (sym (c.loop-j.invariant.left c.loop-j.j (omega arith))) (c.requires.divides c.loop-j.j)

pub returns-clause-small : goal.returns-clause-small
returns-clause-small c = c.loop-j.invariant.small
