use Rattle.crn_check.proofs.Prelude.{◌≡◌, ◌+◌, ◌∙◌, ℕ, suc, ap, subst, arith, Verdict, count_of, linkage_count, HaveOneBefore}
use Rattle.std.specs.Prelude.{◌↔◌, IsTrue}
use Rattle.crn_check.proofs.terminals.have_one_each.Goals as goal

pub returns : goal.returns
returns c =
    let earlier = c.args.facts.now.earlier in
    let count : c.count_in.result ≡ linkage_count earlier = c.count_in.ensures ∙ ap (λ (v : Verdict). count_of v) c.verdict.ensures in
    let last : c.count_in.result + 1 ≡ suc (linkage_count earlier) = omega (arith, count) in
    subst (λ (n : ℕ). IsTrue c.have_one_to.result ↔ HaveOneBefore earlier n) last c.have_one_to.ensures
