use Rattle.crn_check.proofs.Prelude.{◌≡◌, ◌+◌, ℕ, inl, inr, sym, subst, ◌∙◌, arith, lt_or, terminals_in}
use Rattle.crn_check.proofs.terminals.have_one_to.Goals as goal

pub loop-k-preserved : goal.loop-k-preserved
loop-k-preserved c j some less =
    let T : ℕ → ℕ = λ k. terminals_in c.args.facts.now.earlier k in
    let here : T (c.loop-k.k + 1) ≡ 1 = sym c.terminals_in.ensures ∙ c.if-terminals_in-ne1.false in
    elim (lt_or c.loop-k.k j) as (λ _. T j ≡ 1) [
      | inl more ↦ subst (λ (i : ℕ). T i ≡ 1) (omega (arith, more, less)) here
      | inr le ↦ c.loop-k.invariant j some (omega (arith, le))
    ]
