use Rattle.crn_check.proofs.Prelude.{arith, classes_formed}
use Rattle.crn_check.proofs.ClassRanks.{proofs_formed}
use Rattle.crn_check.proofs.Forms.{linkage_labelled}
use Rattle.crn_check.proofs.deficiency.check_deficiency.Goals as goal

pub check_classes-requires-clause-proofs : goal.check_classes-requires-clause-proofs
check_classes-requires-clause-proofs c =
    let v = c.in-Deficiency-Ranks in
    let net = c.args.net.now in
    let earlier = c.args.facts.now.earlier in
    let formed = rw (v.is-0, v.is-1) at c.requires.formed in
    (proofs_formed net earlier 1 v.classes-0.list v.list (classes_formed net earlier v.total-0 v.classes-0 v.list formed)).0

pub check_classes-requires-clause-few : goal.check_classes-requires-clause-few
check_classes-requires-clause-few c =
    let v = c.in-Deficiency-Ranks in
    let net = c.args.net.now in
    let earlier = c.args.facts.now.earlier in
    let formed = rw (v.is-0, v.is-1) at c.requires.formed in
    let proofs = proofs_formed net earlier 1 v.classes-0.list v.list (classes_formed net earlier v.total-0 v.classes-0 v.list formed) in
    let few = linkage_labelled net c.args.facts.now c.requires.facts c.requires.held in
    omega (arith, proofs.1, formed.0.head.0.1.long, few.1, c.requires.network.partial.complexes_limit)
