use Rattle.crn_text.proofs.Prelude.{refl, arith}
use Rattle.crn_text.proofs.FoundPieces.{lines_go_on, lines_break, lines_end}
use Rattle.crn_text.proofs.canonical.is_canonical.Goals as goal

pub loop-r-init : goal.loop-r-init
loop-r-init c = record { begins = refl; found = c.new-found.ensures c.args.net.now }

pub loop-r-preserved : goal.loop-r-preserved
loop-r-preserved c =
    let h = c.loop-r.invariant in
    record {
      begins = lines_go_on c.args.net.now c.args.text.now c.loop-r.left.now c.in-Some.rest.now c.loop-r.r (omega arith) h.begins (rw c.in-Some.is at c.after_line.ensures.follows);
      found = c.after_line.ensures.found;
    }

pub returns-in-None : goal.returns-in-None
returns-in-None c =
    let h = c.loop-r.invariant in
    (λ t. absurd cc, λ is. absurd (lines_break c.args.net.now c.args.text.now c.loop-r.left.now c.loop-r.r (omega arith) h.begins (rw c.in-None.is at c.after_line.ensures.follows) is))

pub returns : goal.returns
returns c = lines_end c.args.net.now c.args.text.now c.loop-r.left.now c.loop-r.r c.is_empty.result (omega arith) c.loop-r.invariant.begins c.is_empty.ensures
