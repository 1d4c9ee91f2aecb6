use Rattle.crn_ctext.proofs.Prelude.{map, field_of}
use Rattle.crn_ctext.proofs.PartRuns.{run_fields, runs_misfit, runs_fit, runs_wide}
use Rattle.crn_ctext.proofs.part.judge_runs.Goals as goal

pub returns-then-not-are_runs : goal.returns-then-not-are_runs
returns-then-not-are_runs c = λ zs e. runs_misfit (map field_of c.args.runs.now) zs c.args.numbers.now (run_fields c.args.runs.now c.requires) e (λ t. let h = c.are_runs.ensures.1 t in let f = c.if-not-are_runs.true in cc)

pub returns-then-are_narrow : goal.returns-then-are_narrow
returns-then-are_narrow c = λ zs e. runs_fit (map field_of c.args.runs.now) zs c.args.numbers.now (run_fields c.args.runs.now c.requires) e (c.are_runs.ensures.0 c.if-not-are_runs.false) (c.are_narrow.ensures.0 c.if-are_narrow.true)

pub returns : goal.returns
returns c = λ zs e. runs_wide (map field_of c.args.runs.now) zs c.args.numbers.now (run_fields c.args.runs.now c.requires) e (c.are_runs.ensures.0 c.if-not-are_runs.false) (λ h. let t = c.are_narrow.ensures.1 h in let f = c.if-are_narrow.false in cc)
