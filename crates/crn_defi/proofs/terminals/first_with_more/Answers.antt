use Rattle.crn_defi.proofs.Prelude.{◌≡◌, ◌+◌, ℕ, inl, inr, length, sym, subst, ◌∙◌, arith, lt_or, terminals_of}
use Rattle.crn_defi.proofs.terminals.first_with_more.Goals as goal

pub loop-k-preserved : goal.loop-k-preserved
loop-k-preserved c j from most =
    let n = length c.args.exit.now in
    let T = terminals_of c.args.strong.now c.args.exit.now c.args.linkage.now n in
    let here : T (c.loop-k.k + 1) ≡ 1 = sym c.terminal_count-count.ensures ∙ c.if-count-ne1.false in
    elim (lt_or c.loop-k.k j) as (λ _. T j ≡ 1) [
      | inl more ↦ subst (λ (i : ℕ). T i ≡ 1) (omega (arith, more, most)) here
      | inr le ↦ c.loop-k.invariant j from le
    ]
