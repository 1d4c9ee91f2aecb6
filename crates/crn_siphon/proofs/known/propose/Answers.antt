use Rattle.crn_siphon.proofs.Prelude.{List, ℤ, subst, IsLawIn, IsCoverIn}
use Rattle.crn_siphon.proofs.Nodes.{more_same}
use Rattle.crn_siphon.proofs.known.propose.Goals as goal

pub keep_law-requires-clause-law : goal.keep_law-requires-clause-law
keep_law-requires-clause-law c = subst (λ (x : List ℤ). IsLawIn c.args.net.now c.args.set x) c.as_slice.ensures (c.is_law_within.ensures c.if-is_law_within.true)

pub keep_cover-requires-clause-cover : goal.keep_cover-requires-clause-cover
keep_cover-requires-clause-cover c = subst (λ (x : List ℤ). IsCoverIn c.args.net.now c.in-Some.species x) c.as_slice-in-Cover.ensures c.in-Some.ensures.more

pub keep_cover-requires-clause-set : goal.keep_cover-requires-clause-set
keep_cover-requires-clause-set c = subst (λ (x : List ℤ). IsCoverIn c.args.net.now c.args.set x) c.as_slice-in-Cover.ensures c.in-Some.ensures.set

pub returns-clause-kept : goal.returns-clause-kept
returns-clause-kept c = more_same c.args.known.now.laws.items
