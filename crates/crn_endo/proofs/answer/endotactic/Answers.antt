use Rattle.crn_endo.proofs.Prelude.{◌≡◌, ℕ, ◌+◌, ◌-◌, length, ap, sym, subst, arith, AreDone, IsDecidedAt, Refuted}
use Rattle.crn_endo.proofs.Answered.{all_done, ended_is, one_done}
use Rattle.crn_endo.proofs.answer.endotactic.Goals as goal

pub returns-in-Ended : goal.returns-in-Ended
returns-in-Ended c =
    let l = c.loop-r in
    ended_is c.args.net.now c.args.budget l.r l.left l.trees c.in-Ended.answer c.meets_definition.ensures c.requires.low c.requires.high (c.is_small_enough.ensures.0 c.if-not-is_small_enough.false) l.invariant (subst (IsDecidedAt c.args.net.now l.r l.left c.args.budget) c.in-Ended.is c.in_ok-tree.ensures)

pub loop-r-preserved : goal.loop-r-preserved
loop-r-preserved c =
    let l = c.loop-r in
    let t = c.in-Refuted.tree in
    let d : IsDecidedAt c.args.net.now l.r l.left c.args.budget (Refuted t) = subst (IsDecidedAt c.args.net.now l.r l.left c.args.budget) c.in-Refuted.is c.in_ok-tree.ensures in
    subst (AreDone c.args.net.now c.args.budget (l.r + 1) (l.left - c.nodes_of-left.result)) (sym c.in_ok-push-in-Refuted.ensures.ok)
    (one_done c.args.net.now c.args.budget l.r l.left (l.left - c.nodes_of-left.result) l.trees t l.invariant d (ap (λ (k : ℕ). l.left - k) c.nodes_of-left.ensures))

pub returns : goal.returns
returns c =
    let net = c.args.net.now in
    let l = c.loop-r in
    let all : l.r ≡ length net.reactions = omega (arith, c.loop-r-test.false, c.loop-r.auto.r-end, c.reactions-r-end.ensures.count) in
    all_done net c.args.budget l.left l.trees c.meets_definition.ensures (c.is_small_enough.ensures.0 c.if-not-is_small_enough.false) (subst (λ (k : ℕ). AreDone net c.args.budget k l.left l.trees) all l.invariant)
