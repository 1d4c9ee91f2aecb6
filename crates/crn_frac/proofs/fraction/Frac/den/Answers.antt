use Rattle.crn_frac.proofs.fraction.Frac.den.Goals as goal

pub returns-clause-reduced : goal.returns-clause-reduced
returns-clause-reduced c = rw (← c.self.view_is) c.self.invariant.lowest
