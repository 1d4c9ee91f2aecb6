use Rattle.crn_indep_text.proofs.Prelude.{ℕ, ap, ◌∙◌, arith, small, up_forms}
use Rattle.crn_indep_text.proofs.LinesRead.{run_is, run_few, nums_as, small_run_small}
use Rattle.crn_indep_text.proofs.lines.next_up.Goals as goal

pub next_nums-requires-clause-few : goal.next_nums-requires-clause-few
next_nums-requires-clause-few g c = run_few c.small_run.result (small c.reactions-reactions.result 0 c.reactions-reactions.result) c.small_run.ensures.field (omega (arith, c.reactions-reactions.ensures.count, c.meets_definition.ensures.partial.reactions_limit))

pub next_nums-requires-clause-small : goal.next_nums-requires-clause-small
next_nums-requires-clause-small g c = small_run_small 6 c.small_run.result c.reactions-reactions.result 0 c.reactions-reactions.result c.small_run.ensures.field (omega (arith, c.reactions-reactions.ensures.count, c.meets_definition.ensures.partial.reactions_limit))

pub returns-clause-step : goal.returns-clause-step
returns-clause-step g c =
    nums_as _ (up_forms c.args.net.now) c.next_nums.result c.args.at.now c.next_nums.new.at _ _
    (run_is 6 c.small_run.result _ (c.small_run.ensures.field ∙ ap (λ (n : ℕ). small n 0 n) c.reactions-reactions.ensures.count)) c.next_nums.ensures.step
