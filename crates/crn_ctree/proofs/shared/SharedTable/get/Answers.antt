use Rattle.crn_ctree.proofs.Prelude.{◌<◌, ◌-◌, [], length, map, arith, ap, subst, sym, ◌∙◌, get_or-map, length-map, KeptInts, all_at, IsShared}
use Rattle.crn_ctree.proofs.shared.SharedTable.get.Goals as goal

pub returns-clause-shared : goal.returns-clause-shared
returns-clause-shared c =
    let items = c.self.inside.vectors.items in
    let list = λ (v : KeptInts). v.list in
    let i = c.args.place - 1 in
    let inside : i < length items = omega (arith, c.requires.low, c.requires.high, ap length c.self.view_is, length-map items list) in
    let shared = all_at IsShared (map list items) i [] c.self.invariant (omega (arith, inside, length-map items list)) in
    subst IsShared (get_or-map list items i c.index.result.now [] inside ∙ sym (ap list c.index.ensures) ∙ sym c.as_slice.ensures) shared
