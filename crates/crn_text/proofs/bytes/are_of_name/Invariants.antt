use Rattle.crn_text.proofs.Prelude.{◌≡◌, take, list_all, is_name_byte}
use Rattle.crn_text.proofs.bytes.are_of_name.Given as goal

abbrev pub invariant-loop-byte : goal.invariant-loop-byte
invariant-loop-byte l = l.all ≡ list_all is_name_byte (take l.byte-index l.bytes)
