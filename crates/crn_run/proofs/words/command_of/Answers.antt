use Rattle.crn_run.proofs.Prelude.{◌≡◌, true, false, sym, ◌∙◌}
use Rattle.crn_run.proofs.WordsSaid.{meant_is_said, said_is_read}
use Rattle.crn_run.proofs.words.command_of.Goals as goal

pub returns-in-Some : goal.returns-in-Some
returns-in-Some c =
    let read = rw c.in-Some.is at c.in_ok-said.ensures in
    meant_is_said c.command_meant.result _ _ _ _ (sym c.has_two_dashes.ensures ∙ c.if-has_two_dashes.false) read.0 read.1 c.command_meant.ensures

pub returns-in-None : goal.returns-in-None
returns-in-None c =
    let unread = rw c.in-None.is at c.in_ok-said.ensures in
    λ command is. unread (said_is_read _ command is).1

pub returns-then-has_two_dashes : goal.returns-then-has_two_dashes
returns-then-has_two_dashes c = λ command is.
    let e : true ≡ false = sym c.if-has_two_dashes.true ∙ c.has_two_dashes.ensures ∙ (said_is_read _ command is).0 in
    absurd cc
