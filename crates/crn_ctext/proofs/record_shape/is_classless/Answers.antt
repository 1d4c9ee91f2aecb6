use Rattle.crn_ctext.proofs.Prelude.{[], ◌∷◌, refused, Rising, small}
use Rattle.crn_ctext.proofs.LineShapes.{through}
use Rattle.crn_ctext.proofs.record_shape.is_classless.Goals as goal

pub returns-in-None : goal.returns-in-None
returns-in-None c = refused (c.in-None.ensures (small 1 1 c.args.coordinates ∷ Rising c.args.columns c.args.coordinates ∷ []))

pub returns-in-Some : goal.returns-in-Some
returns-in-Some c = through c.is_indexed.ensures (c.in-Some.ensures (small 1 1 c.args.coordinates ∷ Rising c.args.columns c.args.coordinates ∷ []))
