use Rattle.crn_text.proofs.Prelude.{refl, sym, ◌∙◌}
use Rattle.crn_text.proofs.PlaceTests.{occurs_itself}
use Rattle.crn_text.proofs.Flaws.{place_of_term}
use Rattle.crn_text.proofs.first_fault.flaw_of_place.Goals as goal

pub returns-in-None-2 : goal.returns-in-None-2
returns-in-None-2 c =
    let full = sym c.is_vacant.ensures ∙ c.if-is_vacant.false in
    let none = c.in-None-2.ensures c.args.place.now (occurs_itself c.args.place.now) in
    rw (full, none) refl

pub returns-in-Some : goal.returns-in-Some
returns-in-Some c = c.flaw_of_term.ensures ∙ sym (place_of_term c.args.place.now c.args.place.now c.in-Some.term (c.in-Some.ensures c.args.place.now (occurs_itself c.args.place.now)))
