use Rattle.crn_net.proofs.Prelude.{List, ℕ, subst}
use Rattle.crn_net.proofs.Places.{IsPlaced, name_noted, name_over}
use Rattle.crn_net.proofs.tables.add_name.Goals as goal

pub returns-then-place-ge-MAX_SPECIES-clause-notes : goal.returns-then-place-ge-MAX_SPECIES-clause-notes
returns-then-place-ge-MAX_SPECIES-clause-notes c =
    let h = c.in_ok-place.ensures in
    let at : IsPlaced c.args.names.now.keys c.new.result c.in_ok-place.place c.insert_full.new.self.keys = record { keys = h.keys; index = h.index; within = h.within; stored = h.stored } in
    let at' : IsPlaced c.args.names.now.keys c.args.name.now c.in_ok-place.place c.insert_full.new.self.keys = subst (λ (t : List ℕ). IsPlaced c.args.names.now.keys t c.in_ok-place.place c.insert_full.new.self.keys) c.new.ensures at in
    name_over c.args.names.now.keys c.args.name.now c.in_ok-place.place c.insert_full.new.self.keys at' c.requires.few c.if-place-ge-MAX_SPECIES.true

pub returns-clause-notes : goal.returns-clause-notes
returns-clause-notes c =
    let h = c.in_ok-place.ensures in
    let at : IsPlaced c.args.names.now.keys c.new.result c.in_ok-place.place c.insert_full.new.self.keys = record { keys = h.keys; index = h.index; within = h.within; stored = h.stored } in
    let at' : IsPlaced c.args.names.now.keys c.args.name.now c.in_ok-place.place c.insert_full.new.self.keys = subst (λ (t : List ℕ). IsPlaced c.args.names.now.keys t c.in_ok-place.place c.insert_full.new.self.keys) c.new.ensures at in
    name_noted c.args.names.now.keys c.args.name.now c.in_ok-place.place c.insert_full.new.self.keys at' c.requires.few c.if-place-ge-MAX_SPECIES.false
