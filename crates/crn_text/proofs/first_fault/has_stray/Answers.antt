use Rattle.crn_text.proofs.Prelude.{◌≡◌, ◌∙◌, ℕ, List, sym, ap, arith, list_any, common_steps, tokens, is_stray}
use Rattle.crn_text.proofs.Unmarked.{any_from_mark}
use Rattle.crn_text.proofs.first_fault.has_stray.Goals as goal

pub tokens-init : goal.tokens-init
tokens-init c = sym (any_from_mark c.args.text.now) ∙ ap (λ (t : List ℕ). list_any is_stray (tokens t)) (sym c.from_first_mark-left.ensures)

pub tokens-preserved : goal.tokens-preserved
tokens-preserved c =
    let e : list_any is_stray (tokens c.in-Some.rest.now) ≡ list_any is_stray (tokens c.from_first_mark-left-in-Some.result.now) =
    sym (any_from_mark c.in-Some.rest.now) ∙ ap (λ (t : List ℕ). list_any is_stray (tokens t)) (sym c.from_first_mark-left-in-Some.ensures) in
    grind (arith, common_steps, e)
