use Rattle.crn_render.proofs.details.put_details.Goals as goal

pub returns-in-NoVec : goal.returns-in-NoVec
returns-in-NoVec g c = rw (c.in-NoVec.is, ← c.as_slice-in-NoVec.ensures) c.put_vector_entry-in-NoVec.ensures
