use Rattle.crn_net.proofs.Prelude.{◌≡◌, ◌∙◌, ◌+◌, ℕ, List, get_or, set, sym, ap, arith, ℤ, pos, ◌+ℤ◌, ints, map-set}
use Rattle.crn_net.proofs.Narrow.{at_seen}
use Rattle.crn_net.proofs.row.Amounts.add.Goals as goal

pub overflow_add-sum : goal.overflow_add-sum
overflow_add-sum c =
    let place = c.args.place in
    let small = c.requires.small in
    let seen : get_or c.args.self.now place (pos 0) ≡ pos (get_or c.self.inside.row place 0) = ap (λ (t : List ℤ). get_or t place (pos 0)) (sym c.self.view_is) ∙ at_seen c.self.inside.row place in
    let is = c.from.ensures in
    omega (arith, ints, seen, small, is)

pub overflow_cast-self : goal.overflow_cast-self
overflow_cast-self c =
    let place = c.args.place in
    let small = c.requires.small in
    let seen : get_or c.args.self.now place (pos 0) ≡ pos (get_or c.self.inside.row place 0) = ap (λ (t : List ℤ). get_or t place (pos 0)) (sym c.self.view_is) ∙ at_seen c.self.inside.row place in
    let is = c.from.ensures in
    omega (arith, ints, seen, small, is)

pub returns : goal.returns
returns c =
    let place = c.args.place in
    let x = c.self.inside.row in
    let seen : get_or c.args.self.now place (pos 0) ≡ pos (get_or x place 0) = ap (λ (t : List ℤ). get_or t place (pos 0)) (sym c.self.view_is) ∙ at_seen x place in
    let v = c.from.result + c.args.count in
    let value : pos v ≡ get_or c.args.self.now place (pos 0) +ℤ pos c.args.count = ap (λ (n : ℕ). pos (n + c.args.count)) c.from.ensures ∙ ap (λ (z : ℤ). z +ℤ pos c.args.count) (sym seen) in
    map-set pos x place v ∙ ap (λ (t : List ℤ). set t place (pos v)) c.self.view_is ∙ ap (λ (z : ℤ). set c.args.self.now place z) value
