use Rattle.crn_check.proofs.Prelude.{◌≡◌, ◌+◌, ◌-◌, ◌∙◌, ℕ, sym, subst, arith, HaveOneBefore}
use Rattle.std.specs.Prelude.{◌↔◌, IsTrue}
use Rattle.crn_check.proofs.terminals.is_first_split.Goals as goal

pub returns-then-count-ge2 : goal.returns-then-count-ge2
returns-then-count-ge2 c =
    let earlier = c.args.facts.now.earlier in
    let k = c.args.k in
    let some = c.requires.class in
    let same : k - 1 + 1 ≡ k = omega (arith, some) in
    let h : IsTrue c.have_one_to.result ↔ HaveOneBefore earlier k = subst (λ (n : ℕ). IsTrue c.have_one_to.result ↔ HaveOneBefore earlier n) same c.have_one_to.ensures in
    ((λ t. (sym c.terminals_in.ensures ∙ c.if-count-ge2.true.0, c.if-count-ge2.true.1, h.0 t)), (λ f. h.1 f.2))
