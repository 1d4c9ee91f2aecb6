use Rattle.crn_siphon.proofs.Prelude.{List, get_or, subst, Fact, IsWithin, IsCoverOf}
use Rattle.crn_siphon.proofs.Nodes.{cover_of_by, more_same}
use Rattle.crn_siphon.proofs.known.find.Goals as goal

pub returns-then-is_within-clause-answer : goal.returns-then-is_within-clause-answer
returns-then-is_within-clause-answer c =
    let known = c.args.known.now in
    let within : IsWithin c.args.set (get_or known.covers.items known.first c.index.result.now).species = subst (λ (x : Fact). IsWithin c.args.set x.species) c.index.ensures (c.is_within.ensures.0 c.if-is_within.true) in
    cover_of_by c.args.net.now c.args.set known.covers.items known.first c.index.result.now c.requires.known.covers c.requires.known.first within

pub returns-then-is_within-clause-kept : goal.returns-then-is_within-clause-kept
returns-then-is_within-clause-kept c = more_same c.args.known.now.laws.items

pub returns-in-Some-clause-kept : goal.returns-in-Some-clause-kept
returns-in-Some-clause-kept c = more_same c.args.known.now.laws.items
