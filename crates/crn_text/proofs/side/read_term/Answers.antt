use Rattle.crn_text.proofs.Prelude.{rules}
use Rattle.crn_text.proofs.Terms.{occurs_rest, reads_name, reads_number}
use Rattle.crn_text.proofs.side.read_term.Goals as goal

pub returns-then-not-is_number : goal.returns-then-not-is_number
returns-then-not-is_number c =
    let first = c.in_ok-first in
    let begins = first.ensures in
    λ body h. reads_name body c.args.place.now first.first first.rest.now c.term_of_name.result begins (search rules) (c.term_of_name.ensures body c.args.place.now h begins)

pub returns : goal.returns
returns c =
    let first = c.in_ok-first in
    let begins = first.ensures in
    let name = c.in_ok-name in
    λ body h.
    reads_number body c.args.place.now first.first name.name first.rest.now name.after.now c.number.result c.term_of_name-2.result begins name.ensures (search rules) c.number.ensures (c.term_of_name-2.ensures body first.rest.now (occurs_rest body c.args.place.now c.args.end first.first first.rest.now h begins) name.ensures)
