use Rattle.crn_tab.proofs.Prelude.{◌≡◌, ◌<◌, inl, inr, length, ap, sym, ◌∙◌, arith, to_z, of_z, slice_index, w128, to_z-of_z, slot_entry, spread}
use Rattle.crn_tab.proofs.NewRows.{look}
use Rattle.crn_tab.proofs.Places.{length-spread, entry-spread}
use Rattle.crn_tab.proofs.SameRows.{same_rows}
use Rattle.crn_tab.proofs.row.put_spread.Goals as goal

pub loop-k-preserved : goal.loop-k-preserved
loop-k-preserved c = λ s lt.
    let k = c.loop-k.k in
    let f = slot_entry c.args.n c.args.i c.args.row.now in
    let x = to_z w128 (of_z w128 c.slot_of.result) in
    let is = to_z-of_z w128 c.slot_of.result (record { sfits = c.slot_of.type_inv }) ∙ c.slot_of.ensures in
    let inside : k < length c.loop-k.into = omega (arith, c.loop-k-test.true, c.loop-k.auto.into) in
    elim (look c.loop-k.into k s x inside) [
      | inl r ↦ r.1 ∙ is ∙ ap (λ j. f (slice_index c.args.at.now j)) (sym r.0)
      | inr r ↦ r.1 ∙ c.loop-k.invariant s (omega (arith, r.0, lt))
    ]

pub returns : goal.returns
returns c =
    let z = spread c.args.n c.args.i c.args.row.now c.args.at.now in
    let long : length z ≡ length c.args.at.now = length-spread c.args.n c.args.i c.args.row.now c.args.at.now in
    same_rows c.loop-k.into z (omega (arith, long, c.loop-k.auto.into, c.requires.room))
    (λ s lt. c.loop-k.invariant s (omega (arith, lt, c.loop-k.auto.into)) ∙ sym (entry-spread c.args.n c.args.i c.args.row.now c.args.at.now s (omega (arith, lt, c.loop-k.auto.into, c.requires.room))))
