use Rattle.crn_text.proofs.Prelude.{◌≡◌, take, list_all, is_unmarked}
use Rattle.crn_text.proofs.bytes.are_unmarked.Given as goal

abbrev pub invariant-loop-byte : goal.invariant-loop-byte
invariant-loop-byte l = l.all ≡ list_all is_unmarked (take l.byte-index l.bytes)
