use Rattle.crn_endo.proofs.Prelude.{ℕ, List, filter, sym, ap, ap₂, ◌∙◌, ◌==◌, not, KeptSlopes, others}
use Rattle.crn_endo.proofs.problem.search_slopes.Goals as goal

pub invariant_of-problem-clause-net_is : goal.invariant_of-problem-clause-net_is
invariant_of-problem-clause-net_is c = ap (λ (k : KeptSlopes). k.net) c.requires.given

pub invariant_of-problem-clause-further_is : goal.invariant_of-problem-clause-further_is
invariant_of-problem-clause-further_is c =
    c.in_ok-further.ensures
    ∙ ap₂ (λ (own : ℕ) (complexes : List ℕ). filter (λ c. not (c == own)) complexes) c.reactant.ensures.value c.requires.complexes
    ∙ ap (others c.args.net.now) (sym (ap (λ (k : KeptSlopes). k.reaction) c.requires.given))

pub invariant_of-problem-clause-reaction_is : goal.invariant_of-problem-clause-reaction_is
invariant_of-problem-clause-reaction_is c = ap (λ (k : KeptSlopes). k.reaction) c.requires.given
