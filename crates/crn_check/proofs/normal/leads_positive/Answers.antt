use Rattle.crn_check.proofs.Prelude.{ℕ, sym, subst, arith, pos, ◌≤ℤ◌, ints, common_steps, entry, all_at, held, IsNarrow}
use Rattle.crn_check.proofs.Leading.{leads_by, leads_at}
use Rattle.crn_check.proofs.normal.leads_positive.Goals as goal

pub returns-then-first-numbers : goal.returns-then-first-numbers
returns-then-first-numbers c =
    let g = c.args.numbers.now in
    let x = entry g c.least-first.result in
    let narrow : IsNarrow x = all_at IsNarrow g c.least-first.result (pos 0) c.requires c.if-first-numbers.true in
    rw (held x (omega (arith, narrow))) (
      λ t.
          let some : pos 1 ≤ℤ x = grind (arith, common_steps, ints, t) in
          leads_by g (subst (λ (k : ℕ). pos 1 ≤ℤ entry g k) c.least-first.ensures some),
      λ h.
          let some : pos 1 ≤ℤ x = subst (λ (k : ℕ). pos 1 ≤ℤ entry g k) (sym c.least-first.ensures) (leads_at g h).1 in
          grind (arith, common_steps, ints, some),
    )

pub returns-else-first-numbers : goal.returns-else-first-numbers
returns-else-first-numbers c = (
  λ t. absurd (grind (arith, common_steps, t, c.if-first-numbers.false)),
  λ h. let lt = (leads_at c.args.numbers.now h).0 in grind (arith, common_steps, lt, c.least-first.ensures),
)
