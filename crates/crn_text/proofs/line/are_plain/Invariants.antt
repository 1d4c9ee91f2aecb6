use Rattle.crn_text.proofs.Prelude.{◌≡◌, take, list_all, is_plain}
use Rattle.crn_text.proofs.line.are_plain.Given as goal

abbrev pub invariant-loop-byte : goal.invariant-loop-byte
invariant-loop-byte l = l.plain ≡ list_all is_plain (take l.byte-index l.body)
