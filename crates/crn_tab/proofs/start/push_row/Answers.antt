use Rattle.crn_tab.proofs.Prelude.{◌++◌, ◌∷◌, [], List, take, map, ap, sym, ◌∙◌, append_assoc, arith, ℤ, neg_ℤ, w64, to_z-of_z, MAX_AMOUNT, entry, within_at}
use Rattle.crn_tab.proofs.FirstRows.{negatives_step}
use Rattle.crn_tab.proofs.start.push_row.Goals as goal

pub negative_of-requires : goal.negative_of-requires
negative_of-requires c = within_at MAX_AMOUNT c.loop-x.x-index c.args.row.now c.requires.small

pub loop-x-preserved : goal.loop-x-preserved
loop-x-preserved c =
    let k = c.loop-x.x-index in
    let r = c.args.row.now in
    let x : ℤ = neg_ℤ (entry r k) in
    let pushed = to_z-of_z w64 c.negative_of.result (record { sfits = c.negative_of.type_inv }) ∙ c.negative_of.ensures in
    record {
      items = c.push_reserved.ensures.items ∙ ap (λ (y : ℤ). c.loop-x.rows.items ++ (y ∷ [])) pushed
          ∙ ap (λ (v : List ℤ). v ++ (x ∷ [])) c.loop-x.invariant.items
          ∙ append_assoc c.args.rows.now.items (map neg_ℤ (take k r)) (x ∷ [])
          ∙ ap (λ (v : List ℤ). c.args.rows.now.items ++ v) (sym (negatives_step r k c.loop-x-test.true));
      count = omega (arith, c.push_reserved.ensures.len, c.loop-x.invariant.count);
      room = c.push_reserved.ensures.capacity ∙ c.loop-x.invariant.room;
    }
