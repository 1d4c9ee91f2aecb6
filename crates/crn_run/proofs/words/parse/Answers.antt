use Rattle.crn_run.proofs.Prelude.{◌≡◌, true, ap, ◌∙◌, app_of, is_simple_and_free}
use Rattle.crn_run.proofs.WordsSaid.{crnt_is_free, given, read_of, unread_of}
use Rattle.crn_run.proofs.words.parse.Goals as goal

pub returns-in-Ok : goal.returns-in-Ok
returns-in-Ok c =
    let is = c.in_ok-parser.ensures.app in
    let free : is_simple_and_free (app_of c.in_ok-parser.parser) ≡ true = ap is_simple_and_free is ∙ crnt_is_free in (
      read_of _ _ is (c.in-Ok.ensures.kinds free),
      given _ _ c.in-Ok.matches _ _ _ is c.in-Ok.ensures.matches c.get_str.ensures c.get_str-in-Ok.ensures c.get_str-in-Ok-2.ensures,
    )

pub returns : goal.returns
returns c =
    let is = c.in_ok-parser.ensures.app in
    let free : is_simple_and_free (app_of c.in_ok-parser.parser) ≡ true = ap is_simple_and_free is ∙ crnt_is_free in
    unread_of _ _ c.in-Err.error is (c.in-Err.ensures.kinds free) (λ memory. c.in_default.not-OutOfMemory (c.kind.ensures ∙ memory))
