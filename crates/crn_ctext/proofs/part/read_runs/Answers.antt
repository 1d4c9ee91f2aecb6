use Rattle.crn_ctext.proofs.Prelude.{◌++◌, List, map, ap, sym, subst, ◌∙◌, arith, ℤ, capped, Takes, AreOf, field_of, FitFields}
use Rattle.crn_ctext.proofs.LineTries.{are_few, only_numbers}
use Rattle.crn_ctext.proofs.part.read_runs.Goals as goal

pub returns-then-not-numbers-clause-fit : goal.returns-then-not-numbers-clause-fit
returns-then-not-numbers-clause-fit c = λ zs s t. c.if-not-numbers.ensures.numbers zs s (omega (arith, are_few (map field_of c.args.runs.now) zs t, c.requires.few))

pub returns-in-Fits-clause-fit : goal.returns-in-Fits-clause-fit
returns-in-Fits-clause-fit c =
    let read = c.if-not-numbers.ensures.numbers in
    let held = c.as_slice.ensures ∙ read.2 ∙ ap (λ (l : List ℤ). l ++ map capped read.0) c.requires.empty in
    let j = c.in-Fits.ensures read.0 held in
    (read.0, read.1, j.0, j.1, sym c.as_slice.ensures ∙ j.2)

pub returns-in-TooWide-clause-fit : goal.returns-in-TooWide-clause-fit
returns-in-TooWide-clause-fit c =
    let read = c.if-not-numbers.ensures.numbers in
    let held = c.as_slice.ensures ∙ read.2 ∙ ap (λ (l : List ℤ). l ++ map capped read.0) c.requires.empty in
    let j = c.in-TooWide.ensures read.0 held in
    ((read.0, read.1, j.0), λ zs s f. j.1 (subst (FitFields (map field_of c.args.runs.now)) (only_numbers c.args.line.now zs read.0 s read.1) f))

pub returns-in-Misfit-clause-fit : goal.returns-in-Misfit-clause-fit
returns-in-Misfit-clause-fit c = λ zs s t.
    let read = c.if-not-numbers.ensures.numbers in
    let held = c.as_slice.ensures ∙ read.2 ∙ ap (λ (l : List ℤ). l ++ map capped read.0) c.requires.empty in
    c.in-Misfit.ensures read.0 held (subst (AreOf Takes (map field_of c.args.runs.now)) (only_numbers c.args.line.now zs read.0 s read.1) t)
