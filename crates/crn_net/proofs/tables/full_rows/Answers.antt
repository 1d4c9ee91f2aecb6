use Rattle.crn_net.proofs.Prelude.{◌≡◌, ◌++◌, ◌∷◌, [], ◌∙◌, List, ℤ, set, length, ap, arith, length_push}
use Rattle.crn_net.proofs.Differences.{set_last, one_row}
use Rattle.crn_net.proofs.tables.full_rows.Goals as goal

pub loop-c-preserved : goal.loop-c-preserved
loop-c-preserved c =
    let i = c.loop-c.c in
    let made = c.loop-c.made.items in
    let row = c.put_row.new.row in
    let new : set c.push.new.self.items i row ≡ made ++ row ∷ [] = ap (λ (t : List (List ℤ)). set t i row) c.in_ok-push.ensures.items ∙ set_last made _ row i c.loop-c.invariant.count in
    let long = ap length new in
    let count = length_push made row in
    record {
      count = omega (arith, long, count, c.loop-c.invariant.count);
      are = one_row c.args.species c.args.rows.now made (set c.push.new.self.items i row) i row c.index-rows-c.result (omega arith) c.loop-c.invariant.are c.index-rows-c.is c.put_row.ensures new;
    }
