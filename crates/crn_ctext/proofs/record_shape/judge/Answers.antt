use Rattle.crn_ctext.proofs.Prelude.{sym, ◌∙◌}
use Rattle.crn_ctext.proofs.LineCapped.{judged_misfit, judged_solid, judged_fits, judged_wide}
use Rattle.crn_ctext.proofs.record_shape.judge.Goals as goal

pub returns-then-not-takes : goal.returns-then-not-takes
returns-then-not-takes c = λ zs e. judged_misfit c.args.shape.now zs c.args.numbers.now c.requires e (λ t. let h = c.takes.ensures.1 t in let f = c.if-not-takes.true in cc)

pub returns-then-not-is_free : goal.returns-then-not-is_free
returns-then-not-is_free c = λ zs e. judged_solid c.args.shape.now zs c.args.numbers.now c.requires e (sym c.is_free.ensures ∙ c.if-not-is_free.true) (c.takes.ensures.0 c.if-not-takes.false)

pub returns-then-are_narrow : goal.returns-then-are_narrow
returns-then-are_narrow c = λ zs e. judged_fits c.args.shape.now zs c.args.numbers.now e (sym c.is_free.ensures ∙ c.if-not-is_free.false) (c.takes.ensures.0 c.if-not-takes.false) (c.are_narrow.ensures.0 c.if-are_narrow.true)

pub returns : goal.returns
returns c = λ zs e. judged_wide c.args.shape.now zs c.args.numbers.now e (sym c.is_free.ensures ∙ c.if-not-is_free.false) (c.takes.ensures.0 c.if-not-takes.false) (λ h. let t = c.are_narrow.ensures.1 h in let f = c.if-are_narrow.false in cc)
