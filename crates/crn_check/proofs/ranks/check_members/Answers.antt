use Rattle.crn_check.proofs.Prelude.{◌+◌, ℕ, List, length, ap, sym, subst, arith, err_from_is_err_and, dual_tests, comb_tests, outside, vectors_of, IsBase, members_of}
use Rattle.crn_check.proofs.BaseForms.{base_is, base_few, base_outside}
use Rattle.crn_check.proofs.Judging.{judges_stop, judges_go}
use Rattle.crn_check.proofs.ranks.check_members.Goals as goal

pub put_skips-requires : goal.put_skips-requires
put_skips-requires c = subst (IsBase c.args.net.now) (sym c.as_slice-base.ensures) (base_is c.args.net.now c.args.members.now (length c.args.proof.now.base.list) c.args.proof.now c.requires.network c.requires.proof)

pub check_duals-requires-clause-base : goal.check_duals-requires-clause-base
check_duals-requires-clause-base c = subst (IsBase c.args.net.now) (sym c.as_slice-base.ensures) (base_is c.args.net.now c.args.members.now (length c.args.proof.now.base.list) c.args.proof.now c.requires.network c.requires.proof)

pub returns-in_err-check_duals : goal.returns-in_err-check_duals
returns-in_err-check_duals c =
    let net = c.args.net.now in
    let proof = c.args.proof.now in
    let base = proof.base.list in
    let vs = vectors_of net base in
    let p = err_from_is_err_and c.from_residual.result c.from_residual.ensures.1 in
    let h = c.in_err-check_duals.ensures in
    let moved = rw c.as_slice-base.ensures at h in
    judges_stop (dual_tests vs (c.args.part + 1) 0 proof.duals) (comb_tests net vs (c.args.part + 1 + length base) (outside base (members_of net c.args.members.now)) proof.combs) c.from_residual.result p.0 c.in_err-check_duals.field-0.0 p.1 p.2 moved

pub overflow_cast-first : goal.overflow_cast-first
overflow_cast-first c =
    let few = base_few c.args.net.now c.args.members.now (length c.args.proof.now.base.list) c.args.proof.now c.requires.network c.requires.proof in
    let long = ap (λ (l : List ℕ). length l) c.as_slice-base.ensures in
    omega (arith, few, long)

pub overflow_add-first-2 : goal.overflow_add-first-2
overflow_add-first-2 c =
    let few = base_few c.args.net.now c.args.members.now (length c.args.proof.now.base.list) c.args.proof.now c.requires.network c.requires.proof in
    let long = ap (λ (l : List ℕ). length l) c.as_slice-base.ensures in
    omega (arith, few, long, c.requires.part)

pub check_combs-requires-clause-base : goal.check_combs-requires-clause-base
check_combs-requires-clause-base c = subst (IsBase c.args.net.now) (sym c.as_slice-base.ensures) (base_is c.args.net.now c.args.members.now (length c.args.proof.now.base.list) c.args.proof.now c.requires.network c.requires.proof)

pub check_combs-requires-clause-count : goal.check_combs-requires-clause-count
check_combs-requires-clause-count c =
    let net = c.args.net.now in
    let proof = c.args.proof.now in
    let all = base_outside net c.args.members.now (length proof.base.list) proof c.requires.proof in
    let same = ap (λ (l : List ℕ). length (outside l (members_of net c.args.members.now))) c.as_slice-base.ensures in
    omega (arith, all, same, c.requires.proof.combs.long)

pub check_combs-requires-clause-first : goal.check_combs-requires-clause-first
check_combs-requires-clause-first c =
    let few = base_few c.args.net.now c.args.members.now (length c.args.proof.now.base.list) c.args.proof.now c.requires.network c.requires.proof in
    let long = ap (λ (l : List ℕ). length l) c.as_slice-base.ensures in
    omega (arith, few, long, c.requires.part)

pub returns : goal.returns
returns c =
    let net = c.args.net.now in
    let proof = c.args.proof.now in
    let base = proof.base.list in
    let vs = vectors_of net base in
    let duals = rw c.as_slice-base.ensures at c.in_ok-check_duals.ensures in
    let combs = rw c.as_slice-base.ensures at c.check_combs.ensures in
    judges_go (dual_tests vs (c.args.part + 1) 0 proof.duals) (comb_tests net vs (c.args.part + 1 + length base) (outside base (members_of net c.args.members.now)) proof.combs) c.check_combs.result duals combs
