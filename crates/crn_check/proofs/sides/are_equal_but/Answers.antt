use Rattle.crn_check.proofs.Prelude.{◌≡◌, ◌<◌, inl, inr, length, sym, ◌∙◌, ap, arith, of_z, w128, false≢true, goes_at, refused}
use Rattle.crn_check.proofs.Counted.{place_between, between_place}
use Rattle.crn_check.proofs.Decided.{granted}
use Rattle.crn_check.proofs.sides.are_equal_but.Goals as goal

pub returns-then-not-is_between : goal.returns-then-not-is_between
returns-then-not-is_between c =
    let net = c.args.net.now in
    let a = c.reactant-a.result in
    let b = c.product-b.result in
    let lt : c.loop-r.r < length net.reactions = omega (arith, c.loop-r-test.true, c.reactions-r-end.ensures.count) in
    let goes = goes_at net c.loop-r.r a b lt c.reactant-a.ensures.value c.product-b.ensures.value in
    refused (λ equal. elim (equal a b (between_place net c.loop-r.r a b goes)) [
      | inl between ↦ false≢true (sym c.if-not-is_between.true ∙ c.is_between.ensures.1 between)
      | inr same ↦ c.if-marks-a.true (ap (of_z w128) same)
    ])

pub returns : goal.returns
returns c =
    let net = c.args.net.now in
    let all : c.loop-r.r ≡ length net.reactions = omega (arith, c.reactions-r-end.ensures.count) in
    granted (λ a b h. let f = place_between net a b h in c.loop-r.invariant f.0 a b (omega (arith, f.1.0, all)) f.1)
