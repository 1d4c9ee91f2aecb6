use Rattle.crn_check.proofs.Prelude.{◌≡◌, ◌<◌, length, get_or, refl, sym, ◌∙◌, arith, false≢true, goes_at, refused}
use Rattle.crn_check.proofs.Decided.{granted}
use Rattle.crn_check.proofs.Counted.{place_between, between_place}
use Rattle.crn_check.proofs.levels.do_levels_fall.Goals as goal

pub returns-then-not-does_fall : goal.returns-then-not-does_fall
returns-then-not-does_fall c =
    let net = c.args.net.now in
    let e = get_or net.reactions c.loop-r.r (0, 0) in
    let lt : c.loop-r.r < length net.reactions = omega (arith, c.loop-r-test.true, c.reactions-r-end.ensures.count) in
    let goes = goes_at net c.loop-r.r e.0 e.1 lt refl refl in
    refused (λ fall. false≢true (sym c.if-not-does_fall.true ∙ c.does_fall.ensures.1 (fall e.0 e.1 (between_place net c.loop-r.r e.0 e.1 goes))))

pub returns : goal.returns
returns c =
    let all : c.loop-r.r ≡ length c.args.net.now.reactions = omega (arith, c.reactions-r-end.ensures.count) in
    granted (λ y z h. let f = place_between c.args.net.now y z h in c.loop-r.invariant f.0 y z (omega (arith, f.1.0, all)) f.1)
