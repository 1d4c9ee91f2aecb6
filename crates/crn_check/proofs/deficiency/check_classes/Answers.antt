use Rattle.crn_check.proofs.Prelude.{◌≡◌, ◌+◌, ◌<◌, ℕ, List, length, sym, subst, arith, err_from_is_err_and, AllHold, FailsFirst, rank_tests, IsRankProof, members_of}
use Rattle.crn_check.proofs.BaseForms.{duals_few, combs_few}
use Rattle.crn_check.proofs.ClassRanks.{ranks_formed, ranks_fail, ranks_next}
use Rattle.crn_check.proofs.deficiency.check_classes.Goals as goal

pub check_members-requires-clause-proof : goal.check_members-requires-clause-proof
check_members-requires-clause-proof c =
    let net = c.args.net.now in
    let p = c.row-proof.result.now in
    subst (λ (ms : List ℕ). IsRankProof net ms (length p.base.list) p) (sym c.of_class.ensures.members) (ranks_formed net c.args.facts.now.earlier c.args.list.now c.loop-k.part c.loop-k.k p c.loop-k.invariant c.row-proof.ensures)

pub returns-in_err-check_members : goal.returns-in_err-check_members
returns-in_err-check_members c =
    let net = c.args.net.now in
    let p = c.row-proof.result.now in
    let e = err_from_is_err_and c.from_residual.result c.from_residual.ensures.1 in
    let g = c.in_err-check_members.field-0.0 in
    let fails = subst (λ (ms : List ℕ). FailsFirst (rank_tests net ms c.loop-k.part p.base.list p.duals p.combs) g.part g.code) c.of_class.ensures.members c.in_err-check_members.ensures in
    ranks_fail net c.args.facts.now.earlier c.args.list.now c.loop-k.part c.loop-k.k p c.from_residual.result e.0 g c.loop-k.invariant c.row-proof.ensures e.1 e.2 fails

pub overflow_cast-part : goal.overflow_cast-part
overflow_cast-part c =
    let net = c.args.net.now in
    let p = c.row-proof.result.now in
    let f : IsRankProof net (members_of net c.of_class.result) (length p.base.list) p =
    subst (λ (ms : List ℕ). IsRankProof net ms (length p.base.list) p) (sym c.of_class.ensures.members) (ranks_formed net c.args.facts.now.earlier c.args.list.now c.loop-k.part c.loop-k.k p c.loop-k.invariant c.row-proof.ensures) in
    let duals = duals_few net c.of_class.result (length p.base.list) p c.requires.network f in
    omega (arith, duals, c.len.ensures)

pub overflow_add-part : goal.overflow_add-part
overflow_add-part c =
    let net = c.args.net.now in
    let p = c.row-proof.result.now in
    let f : IsRankProof net (members_of net c.of_class.result) (length p.base.list) p =
    subst (λ (ms : List ℕ). IsRankProof net ms (length p.base.list) p) (sym c.of_class.ensures.members) (ranks_formed net c.args.facts.now.earlier c.args.list.now c.loop-k.part c.loop-k.k p c.loop-k.invariant c.row-proof.ensures) in
    let duals = duals_few net c.of_class.result (length p.base.list) p c.requires.network f in
    omega (arith, duals, c.len.ensures)

pub overflow_cast-part-in-loop-k : goal.overflow_cast-part-in-loop-k
overflow_cast-part-in-loop-k c =
    let net = c.args.net.now in
    let p = c.row-proof.result.now in
    let f : IsRankProof net (members_of net c.of_class.result) (length p.base.list) p =
    subst (λ (ms : List ℕ). IsRankProof net ms (length p.base.list) p) (sym c.of_class.ensures.members) (ranks_formed net c.args.facts.now.earlier c.args.list.now c.loop-k.part c.loop-k.k p c.loop-k.invariant c.row-proof.ensures) in
    let combs = combs_few net c.of_class.result (length p.base.list) p c.requires.network f in
    omega (arith, combs, c.len-in-loop-k.ensures)

pub overflow_add-part-in-loop-k : goal.overflow_add-part-in-loop-k
overflow_add-part-in-loop-k c =
    let net = c.args.net.now in
    let p = c.row-proof.result.now in
    let f : IsRankProof net (members_of net c.of_class.result) (length p.base.list) p =
    subst (λ (ms : List ℕ). IsRankProof net ms (length p.base.list) p) (sym c.of_class.ensures.members) (ranks_formed net c.args.facts.now.earlier c.args.list.now c.loop-k.part c.loop-k.k p c.loop-k.invariant c.row-proof.ensures) in
    let duals = duals_few net c.of_class.result (length p.base.list) p c.requires.network f in
    let combs = combs_few net c.of_class.result (length p.base.list) p c.requires.network f in
    omega (arith, duals, combs, c.len.ensures, c.len-in-loop-k.ensures)

pub overflow_add-part-in-loop-k-2 : goal.overflow_add-part-in-loop-k-2
overflow_add-part-in-loop-k-2 c =
    let net = c.args.net.now in
    let p = c.row-proof.result.now in
    let f : IsRankProof net (members_of net c.of_class.result) (length p.base.list) p =
    subst (λ (ms : List ℕ). IsRankProof net ms (length p.base.list) p) (sym c.of_class.ensures.members) (ranks_formed net c.args.facts.now.earlier c.args.list.now c.loop-k.part c.loop-k.k p c.loop-k.invariant c.row-proof.ensures) in
    let duals = duals_few net c.of_class.result (length p.base.list) p c.requires.network f in
    let combs = combs_few net c.of_class.result (length p.base.list) p c.requires.network f in
    let inside : c.loop-k.k < length c.args.list.now = omega (arith, c.loop-k-test.true, c.len-k-end.ensures) in
    omega (arith, duals, combs, c.len.ensures, c.len-in-loop-k.ensures, c.loop-k.invariant.few, inside, c.requires.few)

pub loop-k-preserved : goal.loop-k-preserved
loop-k-preserved c =
    let net = c.args.net.now in
    let p = c.row-proof.result.now in
    let f : IsRankProof net (members_of net c.of_class.result) (length p.base.list) p =
    subst (λ (ms : List ℕ). IsRankProof net ms (length p.base.list) p) (sym c.of_class.ensures.members) (ranks_formed net c.args.facts.now.earlier c.args.list.now c.loop-k.part c.loop-k.k p c.loop-k.invariant c.row-proof.ensures) in
    let duals = duals_few net c.of_class.result (length p.base.list) p c.requires.network f in
    let combs = combs_few net c.of_class.result (length p.base.list) p c.requires.network f in
    let next = c.loop-k.part + (1 + c.len.result + c.len-in-loop-k.result) in
    let e : next ≡ c.loop-k.part + 1 + length p.duals + length p.combs = omega (arith, c.len.ensures, c.len-in-loop-k.ensures) in
    let hold = subst (λ (ms : List ℕ). AllHold (rank_tests net ms c.loop-k.part p.base.list p.duals p.combs)) c.of_class.ensures.members c.in_ok-check_members.ensures in
    ranks_next net c.args.facts.now.earlier c.args.list.now c.loop-k.part c.loop-k.k next p c.loop-k.invariant c.row-proof.ensures duals combs e hold
