use Rattle.crn_shelf.proofs.Prelude.{arith, ◌∙◌, w128, to_z-of_z, Zero, map_more, shelf_number}
use Rattle.crn_shelf.proofs.answer.shelf_numbers.Goals as goal

pub loop-k-preserved : goal.loop-k-preserved
loop-k-preserved c =
    map_more shelf_number c.args.shelves.now c.loop-k.k Zero c.loop-k.numbers.list c.push.new.self.list _ (omega (arith, c.loop-k-test.true)) c.loop-k.invariant c.in_ok-push.ensures.ok (to_z-of_z w128 c.shelf_number.result (record { sfits = c.shelf_number.type_inv }) ∙ c.shelf_number.ensures)
