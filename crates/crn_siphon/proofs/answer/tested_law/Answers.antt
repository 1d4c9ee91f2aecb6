use Rattle.crn_siphon.proofs.Prelude.{List, length, ℤ, subst, AreFree, IsConservationLaw}
use Rattle.crn_siphon.proofs.answer.tested_law.Goals as goal

pub returns-then-is_positive_law-clause-law : goal.returns-then-is_positive_law-clause-law
returns-then-is_positive_law-clause-law c = subst (λ (x : List ℤ). IsConservationLaw c.args.net.now x) c.as_slice.ensures (c.is_positive_law.ensures.law c.if-is_positive_law.true)

pub returns-then-is_positive_law-clause-free : goal.returns-then-is_positive_law-clause-free
returns-then-is_positive_law-clause-free c = subst (λ (x : List ℤ). AreFree (length c.args.net.now.names) x) c.as_slice.ensures (c.is_positive_law.ensures.free c.if-is_positive_law.true)
