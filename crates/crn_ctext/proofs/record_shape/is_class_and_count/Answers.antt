use Rattle.crn_ctext.proofs.Prelude.{[], ◌∷◌, refused, small}
use Rattle.crn_ctext.proofs.LineShapes.{through, chain, alone}
use Rattle.crn_ctext.proofs.record_shape.is_class_and_count.Goals as goal

pub returns-in-None : goal.returns-in-None
returns-in-None c = refused (c.in-None.ensures (small 1 2 c.args.complexes ∷ []))

pub returns-in-Some : goal.returns-in-Some
returns-in-Some c = through c.are_naturals.ensures (chain (c.in-Some.ensures (small 1 2 c.args.complexes ∷ [])) (alone (small 1 2 c.args.complexes) c.in-Some.count.now))
