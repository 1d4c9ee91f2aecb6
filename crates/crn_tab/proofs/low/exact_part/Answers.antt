use Rattle.crn_tab.proofs.Prelude.{◌<◌, arith, unsigned_abs, ints, WIDE_ENTRY, smaller}
use Rattle.crn_tab.proofs.Cross.{read}
use Rattle.crn_tab.proofs.low.exact_part.Goals as goal

pub returns-in-Some-clause-small : goal.returns-in-Some-clause-small
returns-in-Some-clause-small c =
    let y = c.in-Some.y in
    let le = smaller c.args.x.now c.args.by.now y (omega (arith, ints, c.requires.some)) c.in-Some.ensures in
    let small : unsigned_abs y < WIDE_ENTRY = omega (arith, le, c.requires.small) in
    rw (read y small) small
