use Rattle.crn_run.proofs.parts.prove.Goals as goal

pub returns-in-Decomposition : goal.returns-in-Decomposition
returns-in-Decomposition g c = rw c.in-Decomposition.is (c.prove_parts.ensures c.args.budget)

pub returns-in-Robust : goal.returns-in-Robust
returns-in-Robust g c = rw c.in-Robust.is (c.prove_robust.ensures c.args.budget)
