use Rattle.crn_indep_text.proofs.Prelude.{ℕ, ap, ◌∙◌, arith, Rising, base_forms}
use Rattle.crn_indep_text.proofs.LinesRead.{run_is, run_few, nums_as, rising_run_small}
use Rattle.crn_indep_text.proofs.lines.next_base.Goals as goal

pub next_nums-requires-clause-few : goal.next_nums-requires-clause-few
next_nums-requires-clause-few g c = run_few c.rising_run.result (Rising c.args.rank _) c.rising_run.ensures.field (omega (arith, c.reactions.ensures.count, c.requires.rank, c.meets_definition.ensures.partial.reactions_limit))

pub next_nums-requires-clause-small : goal.next_nums-requires-clause-small
next_nums-requires-clause-small g c = rising_run_small 2 c.rising_run.result c.args.rank _ c.rising_run.ensures.field (omega (arith, c.reactions.ensures.count, c.requires.rank, c.meets_definition.ensures.partial.reactions_limit))

pub returns-clause-step : goal.returns-clause-step
returns-clause-step g c =
    nums_as _ (base_forms c.args.net.now c.args.rank) c.next_nums.result c.args.at.now c.next_nums.new.at _ _
    (run_is 2 c.rising_run.result _ (c.rising_run.ensures.field ∙ ap (λ (n : ℕ). Rising c.args.rank n) c.reactions.ensures.count)) c.next_nums.ensures.step
