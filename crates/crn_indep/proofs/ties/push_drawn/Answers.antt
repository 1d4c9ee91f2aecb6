use Rattle.crn_indep.proofs.Prelude.{◌≡◌, ◌≤◌, ◌<◌, ℕ, List, length, get_or, refl, sym, ap, subst, arith, IsIn, at_in, DrawsOn, member_bounds}
use Rattle.crn_indep.proofs.TieArcs.{drawn_first, drawn_more, drawn_same, drawn_all}
use Rattle.crn_indep.proofs.ties.push_drawn.Goals as goal
use Rattle.crn_indep.proofs.ties.push_drawn.Goals.{then-draws_at+in_ok-push_pair, else-draws_at}

pub loop-place-init : goal.loop-place-init
loop-place-init c = drawn_first c.args.net.now c.args.proof.now c.args.r c.args.arcs.now.items c.requires.before

pub draws_at-requires-clause-inside : goal.draws_at-requires-clause-inside
draws_at-requires-clause-inside c = subst (λ (l : List ℕ). c.loop-place.place < length l) c.as_slice-base.ensures (omega (arith, c.loop-place-test.true))

pub push_pair-requires : goal.push_pair-requires
push_pair-requires c =
    let place = c.loop-place.place in
    let b = get_or c.as_slice-base.result.now place 0 in
    let i : IsIn b c.args.proof.now.base.list = subst (λ (l : List ℕ). IsIn b l) c.as_slice-base.ensures (at_in c.as_slice-base.result.now place 0 (omega (arith, c.loop-place-test.true))) in
    (c.requires.inside.0, (member_bounds c.args.net.now c.args.proof.now b c.requires.form i).0)

pub loop-place-preserved : goal.loop-place-preserved
loop-place-preserved c =
    let net = c.args.net.now in
    let proof = c.args.proof.now in
    let base = proof.base.list in
    let r = c.args.r in
    let k = c.loop-place.place in
    let b = get_or c.as_slice-base.result.now k 0 in
    let at : get_or base k 0 ≡ b = ap (λ (l : List ℕ). get_or l k 0) (sym c.as_slice-base.ensures) in
    let lt : k < length base = subst (λ (l : List ℕ). k < length l) c.as_slice-base.ensures (omega (arith, c.loop-place-test.true)) in
    let i : IsIn b base = subst (λ (q : ℕ). IsIn q base) at (at_in base k 0 lt) in
    elim c.if-draws_at.branch [
      | then-draws_at+in_ok-push_pair w ↦
          let drawn : DrawsOn net proof r b = subst (λ (q : ℕ). DrawsOn net proof r q) at (c.draws_at.ensures.0 w.if-draws_at.true) in
          rw w.arcs-is (drawn_more net proof r k b c.loop-place.arcs.items _ lt at c.requires.inside.0 (member_bounds net proof b c.requires.form i).0 c.loop-place.invariant drawn w.in_ok-push_pair.ensures)
      | else-draws_at w ↦ rw w.arcs-is (drawn_same net proof r k (get_or base k 0) c.loop-place.arcs.items refl (λ t. cc (c.draws_at.ensures.1 t, w.if-draws_at.false)) c.loop-place.invariant)
    ]

pub returns : goal.returns
returns c =
    drawn_all c.args.net.now c.args.proof.now c.args.r c.loop-place.place c.loop-place.arcs.items (subst (λ (l : List ℕ). length l ≤ c.loop-place.place) c.as_slice-base.ensures (omega (arith, c.loop-place-test.false))) c.loop-place.invariant
