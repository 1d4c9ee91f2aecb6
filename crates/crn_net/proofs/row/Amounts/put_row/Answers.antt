use Rattle.crn_net.proofs.Prelude.{◌≡◌, ◌<◌, ◌++◌, ◌∷◌, [], ◌∙◌, List, get_or, take, length, sym, ap, arith, ℤ, pos, w128, ints, to_z-of_z, fits_signed_from_abs, length-set, length-map, take_more, take_more_set}
use Rattle.crn_net.proofs.Narrow.{at_seen}
use Rattle.crn_net.proofs.row.Amounts.put_row.Goals as goal

pub loop-s-preserved : goal.loop-s-preserved
loop-s-preserved c =
    let s = c.loop-s.s in
    let x = c.self.inside.row in
    let h = c.loop-s.invariant in
    let is = c.from.ensures in
    let seen : get_or c.args.self.now s (pos 0) ≡ pos (get_or x s 0) = ap (λ (t : List ℤ). get_or t s (pos 0)) (sym c.self.view_is) ∙ at_seen x s in
    let long : length c.args.self.now ≡ length x = ap length (sym c.self.view_is) ∙ length-map x pos in
    let lt : s < length c.args.self.now = let t = c.self.told in omega (arith, long, c.requires) in
    let fits = fits_signed_from_abs w128 c.from.result (let b = rw is at c.from.type_inv in omega (arith, ints, is, b)) in
    rw (to_z-of_z w128 c.from.result fits) (record {
      long = length-set c.loop-s.row s c.from.result ∙ h.long;
      are = take_more_set c.loop-s.row s c.from.result (omega (arith, h.long)) ∙ ap (λ (t : List ℤ). t ++ c.from.result ∷ []) h.are ∙ ap (λ (v : ℤ). take s c.args.self.now ++ v ∷ []) (is ∙ sym seen) ∙ sym (take_more c.args.self.now s (pos 0) lt);
    })
