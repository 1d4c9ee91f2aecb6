use Rattle.crn_text.proofs.Prelude.{◌≡◌, ◌∙◌, false, sym, tokens, is_zero}
use Rattle.crn_text.proofs.Flaws.{flaw_more, flaw_all}
use Rattle.crn_text.proofs.first_fault.flaw_of_side.Goals as goal

pub places-preserved : goal.places-preserved
places-preserved c = flaw_more c.args.side.now c.places.invariant c.in-Some.is c.next_flaw-found.ensures.split c.next_flaw-found.ensures.is c.min-flaw.ensures

pub returns : goal.returns
returns c =
    let not_zero : is_zero (tokens c.args.side.now) ≡ false = sym c.is_single_zero.ensures ∙ c.if-is_single_zero.false in
    flaw_all c.args.side.now c.places.invariant c.in_default.is not_zero
