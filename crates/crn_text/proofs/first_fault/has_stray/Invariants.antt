use Rattle.crn_text.proofs.Prelude.{◌≡◌, length, list_any, tokens, is_stray}
use Rattle.crn_text.proofs.first_fault.has_stray.Given as goal

abbrev pub invariant-tokens : goal.invariant-tokens
invariant-tokens l = list_any is_stray (tokens l.text) ≡ list_any is_stray (tokens l.left)

abbrev pub decreases-tokens : goal.decreases-tokens
decreases-tokens l = length l.left
