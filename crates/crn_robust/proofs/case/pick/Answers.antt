use Rattle.crn_robust.proofs.Prelude.{inl, refl, subst, Q5, IsTrueOrOpen}
use Rattle.crn_robust.proofs.Known.{rank_in, open_if_other}
use Rattle.crn_robust.proofs.case.pick.Goals as goal

pub case_of-requires-clause-rank : goal.case_of-requires-clause-rank
case_of-requires-clause-rank c =
    let net = c.args.net.now in
    rank_in net c.in-Rank.rank c.in-Rank.base (subst (IsTrueOrOpen net Q5) c.in-Rank.is c.requires.rank)

pub returns-in_default : goal.returns-in_default
returns-in_default c = inl (open_if_other c.args.net.now c.args.rank.now c.in_default.not-Rank c.requires.rank, refl)
