use Rattle.crn_ctext.proofs.Prelude.{[], ◌∷◌, refused, Rising, small, just}
use Rattle.crn_ctext.proofs.LineShapes.{through}
use Rattle.crn_ctext.proofs.record_shape.is_wide.Goals as goal

pub returns-in-None : goal.returns-in-None
returns-in-None c = refused (c.in-None.ensures (just 0 ∷ small 1 1 c.args.coordinates ∷ Rising c.args.columns c.args.coordinates ∷ []))

pub returns-in-Some : goal.returns-in-Some
returns-in-Some c = through c.is_classless.ensures (c.in-Some.ensures (just 0 ∷ small 1 1 c.args.coordinates ∷ Rising c.args.columns c.args.coordinates ∷ []))
