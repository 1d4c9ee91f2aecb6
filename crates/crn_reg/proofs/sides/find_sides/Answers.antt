use Rattle.crn_reg.proofs.Prelude.{◌≡◌, ◌++◌, ◌∷◌, [], ℕ, List, take, get_or, sym, subst, ℤ, AllZip, take_more, at_in, HasSide, GivesCutPair}
use Rattle.crn_reg.proofs.SidesMore.{sides_push}
use Rattle.crn_reg.proofs.sides.find_sides.Goals as goal

pub returns-in-Walk : goal.returns-in-Walk
returns-in-Walk c =
    let ps = c.args.pairs.now in
    let i = c.loop-r.r-index in (
      at_in ps i 0 c.loop-r-test.true,
      subst (GivesCutPair c.args.net.now (get_or ps i 0)) c.in-Walk.is c.in_ok-marks.ensures,
    )

pub loop-r-preserved : goal.loop-r-preserved
loop-r-preserved c =
    let net = c.args.net.now in
    let ps = c.args.pairs.now in
    let i = c.loop-r.r-index in
    let side : HasSide net (get_or ps i 0) c.in-Side.marks.list = subst (GivesCutPair net (get_or ps i 0)) c.in-Side.is c.in_ok-marks.ensures in
    let more = take_more ps i 0 c.loop-r-test.true in
    let added : c.push.new.self ≡ c.loop-r.sides ++ c.in-Side.marks.list ∷ [] = c.in_ok-push-in-Side.ensures.ok in
    let both : AllZip (HasSide net) (take i ps ++ get_or ps i 0 ∷ []) (c.loop-r.sides ++ c.in-Side.marks.list ∷ []) = sides_push net (take i ps) c.loop-r.sides (get_or ps i 0) c.in-Side.marks.list c.loop-r.invariant side in
    subst (λ (rs : List ℕ). AllZip (HasSide net) rs c.push.new.self) (sym more) (subst (λ (ms : List (List ℤ)). AllZip (HasSide net) (take i ps ++ get_or ps i 0 ∷ []) ms) (sym added) both)
