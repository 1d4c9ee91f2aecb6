use Rattle.crn_ctext.proofs.Prelude.{[], ◌∷◌, refused, small}
use Rattle.crn_ctext.proofs.LineShapes.{through, chain, alone}
use Rattle.crn_ctext.proofs.record_shape.is_side.Goals as goal

pub returns-in-None : goal.returns-in-None
returns-in-None c = refused (c.in-None.ensures (small c.args.complexes 0 1 ∷ []))

pub returns-in-Some : goal.returns-in-Some
returns-in-Some c = through c.are_naturals.ensures (chain (c.in-Some.ensures (small c.args.complexes 0 1 ∷ [])) (alone (small c.args.complexes 0 1) c.in-Some.marks.now))
