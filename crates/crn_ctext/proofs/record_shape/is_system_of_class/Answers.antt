use Rattle.crn_ctext.proofs.Prelude.{[], ◌∷◌, refused, ClassWide}
use Rattle.crn_ctext.proofs.LineShapes.{through, chain, alone}
use Rattle.crn_ctext.proofs.record_shape.is_system_of_class.Goals as goal

pub returns-in-None : goal.returns-in-None
returns-in-None c = refused (c.in-None.ensures (ClassWide c.args.species c.args.reactions.now ∷ []))

pub returns-in-Some : goal.returns-in-Some
returns-in-Some c = through c.is_class_wide.ensures (chain (c.in-Some.ensures (ClassWide c.args.species c.args.reactions.now ∷ [])) (alone (ClassWide c.args.species c.args.reactions.now) c.in-Some.rest.now))
