use Rattle.crn_sign.proofs.Prelude.{sym, subst, KeptInts, IsSmallCut, kinds_of}
use Rattle.crn_sign.proofs.past.known_again.Goals as goal

pub returns-then-keeps-clause-known : goal.returns-then-keeps-clause-known
returns-then-keeps-clause-known c =
    let d = rw c.in-Some.is at c.first_again.ensures in
    subst (λ (r : KeptInts). IsSmallCut c.args.matrix.now (kinds_of c.args.matrix.now c.args.weak.now c.args.asked.now) r.list) (sym c.in_ok-kept.ensures) d

pub returns-in-Some-clause-known : goal.returns-in-Some-clause-known
returns-in-Some-clause-known c =
    let d = rw c.in-Some.is at c.first_again.ensures in
    (c.in-Some.u.now.value.list, c.if-keeps.false, d)
