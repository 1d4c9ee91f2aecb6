use Rattle.crn_ctext.proofs.Prelude.{◌++◌, ap, subst, ◌∙◌, arith, Takes, AreOf, tag, fields_of, FitFields}
use Rattle.crn_ctext.proofs.LineTries.{are_few, only_numbers}
use Rattle.crn_ctext.proofs.record_try.read_fit.Goals as goal

pub returns-then-not-read_numbers-clause-fit : goal.returns-then-not-read_numbers-clause-fit
returns-then-not-read_numbers-clause-fit c = λ zs s t. c.if-not-read_numbers.ensures.numbers zs s (omega (arith, are_few (fields_of c.args.form.now.shape) zs t, c.requires.few))

pub returns-in-Fits-clause-fit : goal.returns-in-Fits-clause-fit
returns-in-Fits-clause-fit c =
    let read = c.if-not-read_numbers.ensures.numbers in
    let j = c.in-Fits.ensures read.0 read.2 in
    (read.0, read.1, j.0, j.1, read.2 ∙ ap (λ t. tag c.args.form.now.place ++ t) j.2)

pub returns-in-TooWide-clause-fit : goal.returns-in-TooWide-clause-fit
returns-in-TooWide-clause-fit c =
    let read = c.if-not-read_numbers.ensures.numbers in
    let j = c.in-TooWide.ensures read.0 read.2 in
    ((read.0, read.1, j.0), λ zs s f. j.1 (subst (FitFields (fields_of c.args.form.now.shape)) (only_numbers c.args.line.now zs read.0 s read.1) f))

pub returns-in-Misfit-clause-fit : goal.returns-in-Misfit-clause-fit
returns-in-Misfit-clause-fit c = λ zs s t.
    let read = c.if-not-read_numbers.ensures.numbers in
    c.in-Misfit.ensures read.0 read.2 (subst (AreOf Takes (fields_of c.args.form.now.shape)) (only_numbers c.args.line.now zs read.0 s read.1) t)
