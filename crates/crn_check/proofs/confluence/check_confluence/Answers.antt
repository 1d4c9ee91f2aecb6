use Rattle.crn_check.proofs.Prelude.{List, length, subst, ℤ, codes, linkage_count, free_there, Judges, vector_tests}
use Rattle.std.specs.Prelude.{◌+◌, ◌-◌}
use Rattle.crn_check.proofs.confluence.check_confluence.Goals as goal

pub check_vector-requires-clause-ties : goal.check_vector-requires-clause-ties
check_vector-requires-clause-ties c =
    let net = c.args.net.now in
    let formed = rw (c.in-YesVec-Ties.is-0, c.in-YesVec-Ties.is-1) at c.requires.formed in
    free_there (codes "tie") (length net.complexes - 1) (length net.names + linkage_count c.args.facts.now.earlier) c.in-YesVec-Ties.ties formed.0.rows.1

pub check_zero-requires-clause-ties : goal.check_zero-requires-clause-ties
check_zero-requires-clause-ties c =
    let net = c.args.net.now in
    let formed = rw (c.in-OnlyZero-Ties.is-0, c.in-OnlyZero-Ties.is-1) at c.requires.formed in
    free_there (codes "tie") (length net.complexes) (length net.names + linkage_count c.args.facts.now.earlier) c.in-OnlyZero-Ties.ties formed.0.rows

pub returns-in-YesVec-Ties : goal.returns-in-YesVec-Ties
returns-in-YesVec-Ties c =
    let net = c.args.net.now in
    let earlier = c.args.facts.now.earlier in
    rw (c.in-YesVec-Ties.is-0, c.in-YesVec-Ties.is-1) (subst (λ (g : List ℤ). Judges (vector_tests net earlier g c.in-YesVec-Ties.ties) c.check_vector.result) c.as_slice.ensures c.check_vector.ensures)
