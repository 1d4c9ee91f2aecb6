use Rattle.crn_text.proofs.Prelude.{◌≡◌, ◌≤◌, ◌-◌, ◌*◌, take, length, joined, terms, TERM}
use Rattle.std.proofs.Common.{codes}
use Rattle.crn_text.proofs.side_text.put_complex.Given as goal

abbrev pub invariant-loop-s : goal.invariant-loop-s
invariant-loop-s l =
    let written = terms (take l.s l.net.names) (take l.s l.vector) in
    record {
      inside : l.s ≤ length l.net.names;
      text : take l.end l.bytes ≡ joined (codes " + ") written;
      shown : l.shown ≡ length written;
      few : l.shown ≤ l.s;
      short : l.end ≤ l.s * TERM;
    }

abbrev pub decreases-loop-s : goal.decreases-loop-s
decreases-loop-s l = length l.net.names - l.s
