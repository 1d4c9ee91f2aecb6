use Rattle.crn_render.proofs.words.put_words.Goals as goal

pub returns-in-NoNumber : goal.returns-in-NoNumber
returns-in-NoNumber g c = rw c.in-NoNumber.is c.put_number_after.ensures

pub returns-in-NoDependence : goal.returns-in-NoDependence
returns-in-NoDependence g c = rw (c.in-NoDependence.is, ← c.no_words-no.ensures) c.put_parts.ensures

pub returns-in-Plane : goal.returns-in-Plane
returns-in-Plane g c = rw c.in-Plane.is c.put_all-in-Plane.ensures.writes
