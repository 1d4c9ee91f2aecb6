use Rattle.crn_text.proofs.Prelude.{◌≡◌, ◌+◌, ◌++◌, take}
use Rattle.crn_text.proofs.side_text.put.Given as goal

abbrev pub invariant-loop-byte : goal.invariant-loop-byte
invariant-loop-byte l = record {
  text : take l.end l.bytes ≡ take l.at l.fn.bytes ++ take l.byte-index l.piece;
  end : l.end ≡ l.at + l.byte-index;
}
