use Rattle.crn_reg.proofs.Prelude.{ℕ, inl, inr, sym, subst, ◌∙◌, arith, false≢true, IsIn, eq_or}
use Rattle.crn_reg.proofs.columns.free_column.Goals as goal

pub loop-c-preserved : goal.loop-c-preserved
loop-c-preserved c d from lt i = elim (eq_or d c.loop-c.c) as (λ _. ⊥) [
  | inl e ↦ false≢true (sym c.if-is_basic.false ∙ c.is_basic.ensures.1 (subst (λ (k : ℕ). IsIn k c.args.tableau.now.basis) e i))
  | inr ne ↦ c.loop-c.invariant d from (omega (arith, lt, ne)) i
]

pub returns : goal.returns
returns c d from lt i = c.loop-c.invariant d from (omega (arith, lt, c.loop-c-test.false, c.cols-c-end.ensures)) i
