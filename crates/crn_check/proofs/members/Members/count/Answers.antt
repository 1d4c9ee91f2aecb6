use Rattle.crn_check.proofs.Prelude.{◌≡◌, ◌<◌, ℕ, List, length, ap, sym, ◌∙◌, arith}
use Rattle.crn_check.proofs.Outside.{left, left_all, left_none, left_yes, left_no}
use Rattle.crn_check.proofs.members.Members.count.Goals as goal
use Rattle.crn_check.proofs.members.Members.count.Goals.{then-has, else-has}

pub loop-r-init : goal.loop-r-init
loop-r-init c = record {
  few = omega arith;
  all = let e = ap (λ (l : List ℕ). length l) (left_all c.args.net.now c.args.self.now) in omega (arith, e);
}

pub loop-r-preserved : goal.loop-r-preserved
loop-r-preserved c =
    let net = c.args.net.now in
    let m = c.args.self.now in
    let r = c.loop-r.r in
    let lt : r < length net.reactions = omega (arith, c.loop-r-test.true, c.reactions-r-end.ensures.count) in
    elim c.if-has.branch [
      | then-has w ↦
          let e = ap (λ (l : List ℕ). length l) (left_yes net m r lt (sym c.has.ensures ∙ w.if-has.true)) in
          record {
            few = omega (arith, w.count-is, c.loop-r.invariant.few);
            all = omega (arith, e, w.count-is, c.loop-r.invariant.all);
          }
      | else-has w ↦
          let e = ap (λ (l : List ℕ). length l) (left_no net m r lt (sym c.has.ensures ∙ w.if-has.false)) in
          record {
            few = omega (arith, w.count-is, c.loop-r.invariant.few);
            all = omega (arith, e, w.count-is, c.loop-r.invariant.all);
          }
    ]

pub returns : goal.returns
returns c =
    let net = c.args.net.now in
    let m = c.args.self.now in
    let all : c.loop-r.r ≡ length net.reactions = omega (arith, c.reactions-r-end.ensures.count) in
    let e = ap (λ (r : ℕ). length (left net m r)) all in
    let none = ap (λ (l : List ℕ). length l) (left_none net m) in
    omega (arith, c.loop-r.invariant.all, e, none)
