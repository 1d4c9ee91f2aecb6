use Rattle.crn_siphon.proofs.Prelude.{◌+◌, ◌<◌, List, Vec, Global, length, sym, ap, subst, ◌∙◌, arith, false≢true, Ends, AreHolders}
use Rattle.crn_siphon.proofs.Stops.{holders_more, holders_same}
use Rattle.crn_siphon.proofs.ends.holders_at.Goals as goal
use Rattle.crn_siphon.proofs.ends.holders_at.Goals.{then-holds+in_ok-push, else-holds}

pub loop-r-preserved : goal.loop-r-preserved
loop-r-preserved c =
    let net = c.args.net.now in
    let r = c.loop-r.r in
    let s = c.args.s in
    let lt : r < length net.reactions = omega (arith, c.loop-r-test.true, c.loop-r.auto.r-end, c.reactions-r-end.ensures.count) in
    let one = (let each = c.requires.ends.each in each r _ lt) in
    elim c.if-holds.branch [
      | then-holds+in_ok-push w ↦ subst (λ (all : List Ends). AreHolders net (r + 1) s all) (sym (ap (λ (v : Vec Ends Global). v.items) w.found-is ∙ w.in_ok-push.ensures.items))
          (holders_more net r s c.loop-r.found.items _ lt c.loop-r.invariant one.0 one.1)
      | else-holds w ↦ subst (λ (all : List Ends). AreHolders net (r + 1) s all) (sym (ap (λ (v : Vec Ends Global). v.items) w.found-is))
          (holders_same net r s c.loop-r.found.items _ c.loop-r.invariant one.1 (λ h. false≢true (sym w.if-holds.false ∙ c.holds.ensures.1 h)))
    ]
