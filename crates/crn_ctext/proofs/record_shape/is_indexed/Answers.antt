use Rattle.crn_ctext.proofs.Prelude.{[], ◌∷◌, refused, Rising}
use Rattle.crn_ctext.proofs.LineShapes.{through, chain, alone}
use Rattle.crn_ctext.proofs.record_shape.is_indexed.Goals as goal

pub returns-in-None : goal.returns-in-None
returns-in-None c = refused (c.in-None.ensures (Rising c.args.columns c.args.coordinates ∷ []))

pub returns-in-Some : goal.returns-in-Some
returns-in-Some c = through c.is_basis.ensures (chain (c.in-Some.ensures (Rising c.args.columns c.args.coordinates ∷ [])) (alone (Rising c.args.columns c.args.coordinates) c.in-Some.basis.now))
