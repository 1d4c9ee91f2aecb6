use Rattle.crn_ctext.proofs.Prelude.{fields_of}
use Rattle.crn_ctext.proofs.LineTries.{fit_after, misfit_after}
use Rattle.crn_ctext.proofs.record_try.read_words.Goals as goal

pub returns-in-None-clause-fit : goal.returns-in-None-clause-fit
returns-in-None-clause-fit c = misfit_after (fields_of c.args.form.now.shape) c.args.rest.now c.args.form.now.words.now c.in-None.ensures

pub returns-in-Some-clause-fit : goal.returns-in-Some-clause-fit
returns-in-Some-clause-fit c = let a = c.in-Some.ensures in
    fit_after c.read_fit.result (fields_of c.args.form.now.shape) c.args.form.now.place c.args.rest.now c.args.form.now.words.now c.in-Some.line.now c.read_fit.new.into.list a.0 c.read_fit.ensures.fit
