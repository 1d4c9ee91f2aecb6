use Rattle.crn_check.proofs.Prelude.{◌≡◌, ◌+◌, [], length, get_or, refl, sym, subst, ◌∙◌, arith, false≢true, IsDual, vectors_of}
use Rattle.crn_check.proofs.RankParts.{AreDuals, duals_none, duals_next, dual_fails, duals_all}
use Rattle.crn_check.proofs.duals.check_duals.Goals as goal

pub loop-i-init : goal.loop-i-init
loop-i-init c = duals_none (vectors_of c.args.net.now c.args.base.now) c.args.first c.args.duals.now

pub returns-then-not-is_dual : goal.returns-then-not-is_dual
returns-then-not-is_dual c =
    let vs = vectors_of c.args.net.now c.args.base.now in
    let i = c.loop-i.i in
    let fails = λ (h : IsDual vs i (get_or c.args.duals.now i [])). false≢true (sym c.if-not-is_dual.true ∙ c.is_dual.ensures.1 (subst (IsDual vs i) (sym c.row.ensures) h)) in
    dual_fails vs c.args.first c.args.duals.now i (c.args.first + i) c.loop-i.invariant (omega arith) fails refl

pub loop-i-preserved : goal.loop-i-preserved
loop-i-preserved c =
    let vs = vectors_of c.args.net.now c.args.base.now in
    duals_next vs c.args.first c.args.duals.now c.loop-i.i c.loop-i.invariant (omega arith) (subst (IsDual vs c.loop-i.i) c.row.ensures (c.is_dual.ensures.0 c.if-not-is_dual.false))

pub returns : goal.returns
returns c =
    let vs = vectors_of c.args.net.now c.args.base.now in
    let all : c.loop-i.i ≡ length c.args.duals.now = omega arith in
    duals_all vs c.args.first c.args.duals.now (subst (AreDuals vs c.args.first c.args.duals.now) all c.loop-i.invariant)
