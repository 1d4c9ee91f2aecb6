use Rattle.crn_ctext.proofs.Prelude.{◌++◌, ap, ◌∙◌}
use Rattle.crn_ctext.proofs.LineTries.{kind_word, other_word, tried_misfit, tried_wide, tried_fits}
use Rattle.crn_ctext.proofs.record_try.try_form.Goals as goal

pub returns-in-None-clause-tried : goal.returns-in-None-clause-tried
returns-in-None-clause-tried c = λ seen is. other_word c.args.form.now seen c.args.line.now c.args.into.now.list is (rw c.text.ensures at c.in-None.ensures)

pub returns-in-Misfit-clause-tried : goal.returns-in-Misfit-clause-tried
returns-in-Misfit-clause-tried c = λ seen is.
    let a = c.in-Some.ensures in
    tried_misfit c.args.form.now seen c.args.line.now c.in-Some.rest.now c.read_words.new.into.list (kind_word c.args.form.now.word) is (a.0 ∙ ap (λ t. t ++ c.in-Some.rest.now) c.text.ensures) a.1 c.in-Misfit.ensures.fit

pub returns-in-TooWide-clause-tried : goal.returns-in-TooWide-clause-tried
returns-in-TooWide-clause-tried c = λ seen is.
    let a = c.in-Some.ensures in
    tried_wide c.args.form.now seen c.args.line.now c.in-Some.rest.now c.read_words.new.into.list (kind_word c.args.form.now.word) is (a.0 ∙ ap (λ t. t ++ c.in-Some.rest.now) c.text.ensures) a.1 c.in-TooWide.ensures.fit

pub returns-in-Fits-clause-tried : goal.returns-in-Fits-clause-tried
returns-in-Fits-clause-tried c = λ seen is.
    let a = c.in-Some.ensures in
    tried_fits c.args.form.now seen c.args.line.now c.in-Some.rest.now c.read_words.new.into.list (kind_word c.args.form.now.word) is (a.0 ∙ ap (λ t. t ++ c.in-Some.rest.now) c.text.ensures) a.1 c.in-Fits.ensures.fit
