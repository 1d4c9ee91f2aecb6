use Rattle.crn_net.proofs.Prelude.{refl, ℕ, List, subst, Ok, Err, err_from_is_err_and, Term, NotesName}
use Rattle.crn_net.proofs.Counting.{noting_none, noting_more, noting_sum, noting_stops, noting_ends}
use Rattle.crn_net.proofs.tables.note_side.Goals as goal

abbrev none : Term
none = record { at = 0; length = 0; count = 0 }

pub loop-term-init : goal.loop-term-init
loop-term-init c = rw c.requires.zeros (noting_none c.args.names.now.keys c.args.text.now c.args.side.now c.requires.distinct c.requires.few)

pub returns-in_err-place-clause-notes : goal.returns-in_err-place-clause-notes
returns-in_err-place-clause-notes c =
    let p = err_from_is_err_and c.from_residual.result c.from_residual.ensures.1 in
    let notes = subst (λ (t : List ℕ). NotesName c.loop-term.names.keys t (Err c.in_err-place.field-0.0) c.note_next.new.names.keys) c.name_of.ensures c.in_err-place.ensures.notes in
    rw (p.1, p.2) (noting_stops c.args.names.now.keys c.args.text.now c.args.side.now c.loop-term.term-index none c.loop-term.names.keys c.note_next.new.names.keys c.loop-term.row c.in_err-place.field-0.0 c.loop-term.invariant c.loop-term-test.true notes)

pub add-requires-clause-place : goal.add-requires-clause-place
add-requires-clause-place c =
    let notes = subst (λ (t : List ℕ). NotesName c.loop-term.names.keys t (Ok c.in_ok-place.place) c.note_next.new.names.keys) c.name_of.ensures c.in_ok-place.ensures.notes in
    (noting_sum c.args.names.now.keys c.args.text.now c.args.side.now c.loop-term.term-index c.in_ok-place.place none c.loop-term.names.keys c.note_next.new.names.keys c.loop-term.row c.loop-term.invariant c.loop-term-test.true notes c.requires.side.amounts).0

pub add-requires-clause-small : goal.add-requires-clause-small
add-requires-clause-small c =
    let notes = subst (λ (t : List ℕ). NotesName c.loop-term.names.keys t (Ok c.in_ok-place.place) c.note_next.new.names.keys) c.name_of.ensures c.in_ok-place.ensures.notes in
    (noting_sum c.args.names.now.keys c.args.text.now c.args.side.now c.loop-term.term-index c.in_ok-place.place none c.loop-term.names.keys c.note_next.new.names.keys c.loop-term.row c.loop-term.invariant c.loop-term-test.true notes c.requires.side.amounts).1

pub loop-term-preserved : goal.loop-term-preserved
loop-term-preserved c =
    let notes = subst (λ (t : List ℕ). NotesName c.loop-term.names.keys t (Ok c.in_ok-place.place) c.note_next.new.names.keys) c.name_of.ensures c.in_ok-place.ensures.notes in
    rw c.add.ensures
    (noting_more c.args.names.now.keys c.args.text.now c.args.side.now c.loop-term.term-index c.in_ok-place.place none c.loop-term.names.keys c.note_next.new.names.keys c.loop-term.row _ c.loop-term.invariant c.loop-term-test.true notes refl)

pub returns-clause-notes : goal.returns-clause-notes
returns-clause-notes c = noting_ends c.args.names.now.keys c.args.text.now c.args.side.now c.loop-term.term-index c.loop-term.names.keys c.loop-term.row c.loop-term.invariant c.loop-term-test.false
