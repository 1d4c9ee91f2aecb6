use Rattle.crn_text.proofs.Prelude.{sym, ◌∙◌, arith}
use Rattle.crn_text.proofs.PlaceTests.{occurs_itself}
use Rattle.crn_text.proofs.Flaws.{place_of_term}
use Rattle.crn_text.proofs.Splits.{split_size}
use Rattle.crn_text.proofs.first_fault.next_flaw.Goals as goal

pub returns-in-Some : goal.returns-in-Some
returns-in-Some c =
    let text = c.args.text.now in
    let found = c.in-Some.ensures text (occurs_itself text) in
    record { place = found.place; split = found.split; is = c.flaw_of_term.ensures ∙ sym (place_of_term text found.place c.in-Some.term found.reads) }

pub flaw_of_place-requires : goal.flaw_of_place-requires
flaw_of_place-requires c = omega (arith, c.requires, split_size 43 c.args.text.now c.split_at_byte.result.0.now c.split_at_byte.result.1 c.split_at_byte.ensures)

pub returns : goal.returns
returns c = record { place = c.split_at_byte.result.0.now; split = c.split_at_byte.ensures; is = c.flaw_of_place.ensures }
