use Rattle.crn_shape.proofs.Prelude.{[], sym, subst, arith, ◌++◌, ◌∷◌, take, List, get_or, ℤ, AllZip, AllByRecursion, take_more, IsPairIn, IsPairFor, zip_push, all_push}
use Rattle.crn_shape.proofs.pairs.linked_pairs.Goals as goal

pub loop-i-preserved : goal.loop-i-preserved
loop-i-preserved c =
    let net = c.args.net.now in
    let for = IsPairFor net c.args.g.now c.args.tops.now.of.items in
    let sides = c.args.sides.now in
    let i = c.loop-i.i in
    record {
      pairs = subst (λ (l : List (List ℤ)). AllZip for l c.push.new.self.items) (sym (take_more sides i [] (omega (arith, c.loop-i-test.true, c.len-i-end.ensures))))
          (subst (λ ps. AllZip for (take i sides ++ get_or sides i [] ∷ []) ps) (sym c.in_ok-push.ensures.items)
          (zip_push for (take i sides) c.loop-i.pairs.items (get_or sides i []) c.linked_pair.result c.loop-i.invariant.pairs
          (subst (λ (m : List ℤ). for m c.linked_pair.result) c.row.ensures c.linked_pair.ensures.pair)));
      small = subst (AllByRecursion (IsPairIn net)) (sym c.in_ok-push.ensures.items) (all_push (IsPairIn net) c.loop-i.pairs.items c.linked_pair.result c.loop-i.invariant.small c.linked_pair.ensures.small);
    }
