use Rattle.crn_ctext.proofs.Prelude.{field_of, map}
use Rattle.crn_ctext.proofs.PartRuns.{other_runs, tried_misfit, tried_wide, tried_fits}
use Rattle.crn_ctext.proofs.part.try_runs.Goals as goal

pub returns-in-None-clause-tried : goal.returns-in-None-clause-tried
returns-in-None-clause-tried c = other_runs c.args.word.now c.args.line.now (map field_of c.args.runs.now) c.args.into.now.list c.in-None.ensures

pub returns-in-Misfit-clause-tried : goal.returns-in-Misfit-clause-tried
returns-in-Misfit-clause-tried c =
    let a = c.in-Some.ensures in
    tried_misfit c.args.word.now c.args.line.now c.in-Some.rest.now (map field_of c.args.runs.now) c.read_runs.new.into.list c.requires.word a.0 a.1 c.in-Misfit.ensures.fit

pub returns-in-TooWide-clause-tried : goal.returns-in-TooWide-clause-tried
returns-in-TooWide-clause-tried c =
    let a = c.in-Some.ensures in
    tried_wide c.args.word.now c.args.line.now c.in-Some.rest.now (map field_of c.args.runs.now) c.read_runs.new.into.list c.requires.word a.0 a.1 c.in-TooWide.ensures.fit

pub returns-in-Fits-clause-tried : goal.returns-in-Fits-clause-tried
returns-in-Fits-clause-tried c =
    let a = c.in-Some.ensures in
    tried_fits c.args.word.now c.args.line.now c.in-Some.rest.now (map field_of c.args.runs.now) c.read_runs.new.into.list c.requires.word a.0 a.1 c.in-Fits.ensures.fit
