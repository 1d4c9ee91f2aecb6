use Rattle.crn_render.proofs.parts.put_reaction.Goals as goal

pub returns : goal.returns
returns g c = rw (c.reactant.ensures.value, c.product.ensures.value) at c.put_arrow.ensures
