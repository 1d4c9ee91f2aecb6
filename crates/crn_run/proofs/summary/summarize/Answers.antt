use Rattle.crn_run.proofs.Prelude.{MAX_BUDGET, have_more}
use Rattle.crn_run.proofs.Outputs.{summary_broken, summary_gives}
use Rattle.crn_run.proofs.summary.summarize.Goals as goal

-- no tree has more nodes than the budget, and so none has more than the greatest budget
pub check_answers-requires-clause-few : goal.check_answers-requires-clause-few
check_answers-requires-clause-few g c = have_more c.args.budget MAX_BUDGET c.in-Ok.answers c.requires.most c.in-Ok.ensures.nodes

pub returns-in-Ok-write_summary : goal.returns-in-Ok-write_summary
returns-in-Ok-write_summary g c = λ text.
    summary_gives c.args.number c.args.budget c.status_of-whole.result text c.args.net.now c.in-Ok.answers c.in-Ok-into_verdicts.verdicts _ _ c.in-Ok-into_verdicts.ensures (record {
      says = record { spells = c.requires.spells; formed = c.in-Ok.ensures.formed; answered = c.in-Ok.ensures.answered; spent = c.in-Ok.ensures.spent; first = c.in-Ok.ensures.first };
      valid = c.in-Ok.ensures.valid;
      few = c.in-Ok.ensures.nodes;
      visits = c.in-Ok.ensures.visits;
      good = c.check_answers.ensures;
    }) c.status_of-whole.ensures c.in-Ok-write_summary.ensures.all

pub returns : goal.returns
returns g c = λ text.
    summary_broken c.args.number c.args.budget c.status_of-whole.result text c.args.net.now c.in-Ok.answers c.in-Ok-into_verdicts.verdicts _ _ c.in-Ok-into_verdicts.ensures (record {
      says = record { spells = c.requires.spells; formed = c.in-Ok.ensures.formed; answered = c.in-Ok.ensures.answered; spent = c.in-Ok.ensures.spent; first = c.in-Ok.ensures.first };
      valid = c.in-Ok.ensures.valid;
      few = c.in-Ok.ensures.nodes;
      visits = c.in-Ok.ensures.visits;
      good = c.check_answers.ensures;
    }) c.status_of-whole.ensures c.in-Err-write_summary.ensures.prefix
