use Rattle.crn_check.proofs.Prelude.{◌≡◌, ◌+◌, ◌<◌, ℕ, suc, [], length, get_or, refl, sym, subst, ◌∙◌, arith, false≢true, all_at, AreFree, IsComb, vector_of, vectors_of}
use Rattle.crn_check.proofs.Outside.{ArePassed, passed_none, passed_other, passed_in, passed_some, passed_out, passed_fails, passed_all}
use Rattle.crn_check.proofs.combs.check_combs.Goals as goal
use Rattle.crn_check.proofs.combs.check_combs.Goals.{then-has+then-not-is_in+else-not-is_comb, else-has, else-has-via-then-has+else-not-is_in, else-has-via-else-has}

pub loop-r-init : goal.loop-r-init
loop-r-init c = passed_none c.args.net.now (vectors_of c.args.net.now c.args.base.now) c.args.first c.args.base.now c.args.members.now c.args.combs.now c.requires.count

pub row-requires : goal.row-requires
row-requires c =
    let net = c.args.net.now in
    let base = c.args.base.now in
    let lt : c.loop-r.r < length net.reactions = omega (arith, c.loop-r-test.true, c.reactions-r-end.ensures.count) in
    passed_some net (vectors_of net base) c.args.first base c.args.members.now c.args.combs.now c.loop-r.r c.loop-r.done c.loop-r.invariant lt (sym c.has.ensures ∙ c.if-has.true) (sym c.is_in.ensures ∙ c.if-not-is_in.true)

pub is_comb-requires-clause-comb : goal.is_comb-requires-clause-comb
is_comb-requires-clause-comb c =
    let net = c.args.net.now in
    let base = c.args.base.now in
    let lt : c.loop-r.r < length net.reactions = omega (arith, c.loop-r-test.true, c.reactions-r-end.ensures.count) in
    let some = passed_some net (vectors_of net base) c.args.first base c.args.members.now c.args.combs.now c.loop-r.r c.loop-r.done c.loop-r.invariant lt (sym c.has.ensures ∙ c.if-has.true) (sym c.is_in.ensures ∙ c.if-not-is_in.true) in
    subst (AreFree (suc (length base))) (sym c.row.ensures) (all_at (AreFree (suc (length base))) c.args.combs.now c.loop-r.done [] c.requires.combs some)

pub returns-then-not-is_comb : goal.returns-then-not-is_comb
returns-then-not-is_comb c =
    let net = c.args.net.now in
    let base = c.args.base.now in
    let vs = vectors_of net base in
    let r = c.loop-r.r in
    let lt : r < length net.reactions = omega (arith, c.loop-r-test.true, c.reactions-r-end.ensures.count) in
    let fails = λ (h : IsComb vs (vector_of net (r + 1)) (get_or c.args.combs.now c.loop-r.done [])). false≢true (sym c.if-not-is_comb.true ∙ c.is_comb.ensures.1 (subst (IsComb vs (vector_of net (r + 1))) (sym c.row.ensures) h)) in
    passed_fails net vs c.args.first base c.args.members.now c.args.combs.now r c.loop-r.done (c.args.first + c.loop-r.done) c.loop-r.invariant lt (sym c.has.ensures ∙ c.if-has.true) (sym c.is_in.ensures ∙ c.if-not-is_in.true) fails refl

pub loop-r-preserved : goal.loop-r-preserved
loop-r-preserved c =
    let net = c.args.net.now in
    let base = c.args.base.now in
    let vs = vectors_of net base in
    let m = c.args.members.now in
    let combs = c.args.combs.now in
    let r = c.loop-r.r in
    let h = c.loop-r.invariant in
    let lt : r < length net.reactions = omega (arith, c.loop-r-test.true, c.reactions-r-end.ensures.count) in
    elim c.if-has.branch [
      | then-has+then-not-is_in+else-not-is_comb w ↦ subst (ArePassed net vs c.args.first base m combs (r + 1)) (sym w.done-is) (passed_out net vs c.args.first base m combs r c.loop-r.done h lt (sym c.has.ensures ∙ w.if-has.true) (sym w.is_in.ensures ∙ w.if-not-is_in.true)
          (subst (IsComb vs (vector_of net (r + 1))) w.row.ensures (w.is_comb.ensures.0 w.if-not-is_comb.false)))
      | else-has w ↦ subst (ArePassed net vs c.args.first base m combs (r + 1)) (sym w.done-is) (elim w.else-has.branch [
        | else-has-via-then-has+else-not-is_in v ↦ passed_in net vs c.args.first base m combs r c.loop-r.done h lt (sym c.has.ensures ∙ v.if-has.true) (sym v.is_in.ensures ∙ v.if-not-is_in.false)
        | else-has-via-else-has v ↦ passed_other net vs c.args.first base m combs r c.loop-r.done h lt (sym c.has.ensures ∙ v.if-has.false)
      ])
    ]

pub returns : goal.returns
returns c =
    let net = c.args.net.now in
    let base = c.args.base.now in
    let vs = vectors_of net base in
    let all : c.loop-r.r ≡ length net.reactions = omega (arith, c.reactions-r-end.ensures.count) in
    passed_all net vs c.args.first base c.args.members.now c.args.combs.now c.loop-r.done (subst (λ (r : ℕ). ArePassed net vs c.args.first base c.args.members.now c.args.combs.now r c.loop-r.done) all c.loop-r.invariant)
