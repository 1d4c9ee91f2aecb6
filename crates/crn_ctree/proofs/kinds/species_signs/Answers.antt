use Rattle.crn_ctree.proofs.Prelude.{List, sym, ap, ◌∙◌, Sign, kinds_b_of, reaction_system, problem_of, Problem}
use Rattle.crn_ctree.proofs.kinds.species_signs.Goals as goal

pub returns-in-Concordance : goal.returns-in-Concordance
returns-in-Concordance c = λ net. ap (λ (q : Problem). (problem_of net q).kinds_b c.args.prefix.now) (sym c.in-Concordance.is)

pub returns-in-Signals : goal.returns-in-Signals
returns-in-Signals c = λ net.
    ap (λ (l : List Sign). kinds_b_of (reaction_system net) l) c.signs.ensures
    ∙ ap (λ (q : Problem). (problem_of net q).kinds_b c.args.prefix.now) (sym c.in-Signals.is)
