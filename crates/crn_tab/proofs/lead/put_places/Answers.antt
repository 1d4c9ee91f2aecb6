use Rattle.crn_tab.proofs.Prelude.{◌≡◌, ◌+◌, ◌<◌, ℕ, arith, sym, ap, subst, ◌∙◌, length, vec_len, vec_capacity, Vec, Global, to_z, w64, pos, entry}
use Rattle.crn_tab.proofs.Support.{PlacesUpTo, places_none, place_pushed, place_passed}
use Rattle.crn_tab.proofs.Cross.{read}
use Rattle.crn_tab.proofs.lead.put_places.Goals as goal
use Rattle.crn_tab.proofs.lead.put_places.Goals.{then-row-k-ne0, else-row-k-ne0}

pub loop-k-init : goal.loop-k-init
loop-k-init c = record {
  so_far = places_none c.args.row.now c.clear.new.self.items c.clear.ensures.items;
  count = omega (arith, c.clear.ensures.len);
  room = c.clear.ensures.capacity;
}

pub loop-k-preserved : goal.loop-k-preserved
loop-k-preserved c =
    let row = c.args.row.now in
    let k = c.loop-k.k in
    let lt : k < length row = c.loop-k-test.true in
    elim c.if-row-k-ne0.branch [
      | then-row-k-ne0 w ↦ record {
        so_far = place_pushed row c.loop-k.places.items c.if-row-k-ne0.places.items k c.loop-k.invariant.so_far lt (ap (λ (v : Vec ℕ Global). v.items) w.places-is ∙ w.push_reserved.ensures.items);
        count = omega (arith, ap vec_len w.places-is, w.push_reserved.ensures.len, c.loop-k.invariant.count);
        room = ap vec_capacity w.places-is ∙ w.push_reserved.ensures.capacity ∙ c.loop-k.invariant.room;
      }
      | else-row-k-ne0 w ↦
          let none : entry row k ≡ pos 0 = sym (read (entry row k) (c.requires.small k)) ∙ ap (to_z w64) w.if-row-k-ne0.false in
          record {
            so_far = subst (λ (v : Vec ℕ Global). PlacesUpTo row v.items (k + 1)) (sym w.places-is) (place_passed row c.loop-k.places.items k c.loop-k.invariant.so_far none);
            count = omega (arith, ap vec_len w.places-is, c.loop-k.invariant.count);
            room = ap vec_capacity w.places-is ∙ c.loop-k.invariant.room;
          }
    ]
