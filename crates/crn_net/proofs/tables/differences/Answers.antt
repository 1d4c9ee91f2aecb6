use Rattle.crn_net.proofs.Prelude.{◌≡◌, ◌++◌, ◌∷◌, [], ◌∙◌, List, ℤ, set, length, ap, arith, get_or, length_push, JoinsTwo, all_at}
use Rattle.crn_net.proofs.Differences.{one_difference, row_holds, set_last}
use Rattle.crn_net.proofs.tables.differences.Goals as goal

pub put_difference-requires-clause-product : goal.put_difference-requires-clause-product
put_difference-requires-clause-product c =
    let j = all_at (JoinsTwo (length c.args.rows.now)) c.args.reactions.now c.loop-r.r (0, 0) c.requires.places (omega arith) in
    row_holds c.args.species c.args.rows.now (get_or c.args.reactions.now c.loop-r.r (0, 0)).1 c.requires.amounts j.2

pub put_difference-requires-clause-reactant : goal.put_difference-requires-clause-reactant
put_difference-requires-clause-reactant c =
    let j = all_at (JoinsTwo (length c.args.rows.now)) c.args.reactions.now c.loop-r.r (0, 0) c.requires.places (omega arith) in
    row_holds c.args.species c.args.rows.now (get_or c.args.reactions.now c.loop-r.r (0, 0)).0 c.requires.amounts j.1

pub loop-r-preserved : goal.loop-r-preserved
loop-r-preserved c =
    let i = c.loop-r.r in
    let made = c.loop-r.made.items in
    let row = c.put_difference.new.row in
    let new : set c.push.new.self.items i row ≡ made ++ row ∷ [] = ap (λ (t : List (List ℤ)). set t i row) c.in_ok-push.ensures.items ∙ set_last made _ row i c.loop-r.invariant.count in
    let long = ap length new in
    let count = length_push made row in
    record {
      count = omega (arith, long, count, c.loop-r.invariant.count);
      are = one_difference c.args.species c.args.rows.now c.args.reactions.now i made (set c.push.new.self.items i row) row (omega arith) c.requires.places c.loop-r.invariant.are c.put_difference.ensures new;
    }
