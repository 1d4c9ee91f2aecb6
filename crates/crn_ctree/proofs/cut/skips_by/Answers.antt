use Rattle.crn_ctree.proofs.Prelude.{length, ap, arith, rows_count, matrix_by, System}
use Rattle.crn_ctree.proofs.cut.skips_by.Goals as goal

pub skips_of-requires : goal.skips_of-requires
skips_of-requires c =
    let net = c.args.net.now in
    let long = c.requires.long in
    let same = ap (λ (s : System). length (matrix_by net s).rows) c.in-Reactions.is in
    omega (arith, long, same, rows_count net, c.species-few.ensures.count, c.species-few.ensures.limit)
