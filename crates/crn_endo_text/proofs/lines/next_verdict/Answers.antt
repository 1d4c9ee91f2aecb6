use Rattle.crn_endo_text.proofs.Prelude.{◌+◌, ℕ, List, length, ap, ◌∙◌, arith, sym, false≢true, Rising, small, forms_named, words, verdict_forms}
use Rattle.crn_endo_text.proofs.Nodes.{small_on, large_on, reactants_few}
use Rattle.crn_endo_text.proofs.LinesRead.{AreRuns, others_are, small_are, large_are}
use Rattle.crn_endo_text.proofs.lines.next_verdict.Goals as goal

pub returns-then-is_small_enough-clause-step : goal.returns-then-is_small_enough-clause-step
returns-then-is_small_enough-clause-step g c =
    let net = c.args.net.now in
    let all = c.species-species.result + (c.reactions-reactions.result + c.reactions-reactions.result + c.saturating_sub-further.result) in
    let are : AreRuns net all c.small_run.result c.small_run-2.result c.rising_run.result c.small_run-3.result c.small_run-4.result = record {
      all_is = omega (arith, c.species-species.ensures.count, c.reactions-reactions.ensures.count, c.saturating_sub-further.ensures, ap (λ (l : List ℕ). length l) c.requires.reactants);
      reaction_is = c.small_run.ensures.field ∙ ap (λ (n : ℕ). small 1 1 n) c.reactions-reactions.ensures.count;
      index_is = c.small_run-2.ensures.field;
      basis_is = c.rising_run.ensures.field ∙ ap (λ (n : ℕ). Rising n all) c.species-species.ensures.count;
      another_is = c.small_run-3.ensures.field ∙ ap (λ (n : ℕ). small 1 1 n) c.reactions-reactions.ensures.count;
      budget_is = c.small_run-4.ensures.field;
    } in
    forms_named words _ (verdict_forms net) c.next_of.result c.args.at.now c.next_of.new.at _ _
    (small_are net _ (small_on net (c.is_small_enough.ensures.0 c.if-is_small_enough.true)) (others_are net all _ _ _ _ _ are)) c.next_of.ensures.step

pub returns-clause-step : goal.returns-clause-step
returns-clause-step g c =
    let net = c.args.net.now in
    let all = c.species-species.result + (c.reactions-reactions.result + c.reactions-reactions.result + c.saturating_sub-further.result) in
    let are : AreRuns net all c.small_run.result c.small_run-2.result c.rising_run.result c.small_run-3.result c.small_run-4.result = record {
      all_is = omega (arith, c.species-species.ensures.count, c.reactions-reactions.ensures.count, c.saturating_sub-further.ensures, ap (λ (l : List ℕ). length l) c.requires.reactants);
      reaction_is = c.small_run.ensures.field ∙ ap (λ (n : ℕ). small 1 1 n) c.reactions-reactions.ensures.count;
      index_is = c.small_run-2.ensures.field;
      basis_is = c.rising_run.ensures.field ∙ ap (λ (n : ℕ). Rising n all) c.species-species.ensures.count;
      another_is = c.small_run-3.ensures.field ∙ ap (λ (n : ℕ). small 1 1 n) c.reactions-reactions.ensures.count;
      budget_is = c.small_run-4.ensures.field;
    } in
    forms_named words _ (verdict_forms net) c.next_of-2.result c.args.at.now c.next_of-2.new.at _ _
    (large_are net _ (large_on net (λ s. false≢true (sym c.if-is_small_enough.false ∙ c.is_small_enough.ensures.1 s))) (others_are net all _ _ _ _ _ are)) c.next_of-2.ensures.step

pub overflow_cast-further : goal.overflow_cast-further
overflow_cast-further g c = omega (arith, c.saturating_sub-further.ensures, ap (λ (l : List ℕ). length l) c.requires.reactants, reactants_few c.args.net.now c.meets_definition.ensures)

pub overflow_add-all-2 : goal.overflow_add-all-2
overflow_add-all-2 g c = omega (arith, c.saturating_sub-further.ensures, c.reactions-reactions.ensures.limit, ap (λ (l : List ℕ). length l) c.requires.reactants, reactants_few c.args.net.now c.meets_definition.ensures)

pub overflow_add-all-3 : goal.overflow_add-all-3
overflow_add-all-3 g c =
    omega (arith, c.saturating_sub-further.ensures, c.species-species.ensures.count, c.reactions-reactions.ensures.limit, c.meets_definition.ensures.partial.species_limit, ap (λ (l : List ℕ). length l) c.requires.reactants, reactants_few c.args.net.now c.meets_definition.ensures)
