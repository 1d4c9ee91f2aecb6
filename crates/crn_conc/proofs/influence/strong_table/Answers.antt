use Rattle.crn_conc.proofs.Prelude.{◌≡◌, ℕ, List, [], map, get_or, ap, ap₂, ◌∙◌, arith, ℤ, take_all, length-map, minus, sides_of, sign, strong_table, map_more}
use Rattle.crn_conc.proofs.influence.strong_table.Goals as goal

pub loop-r-preserved : goal.loop-r-preserved
loop-r-preserved c =
    let net = c.args.net.now in
    let at = get_or net.reactions c.loop-r.r (0, 0) in
    let left : c.vector-reactant.result.now ≡ (sides_of net at).0 = c.vector-reactant.ensures.value ∙ ap (λ (k : ℕ). get_or net.complexes k []) c.reactant.ensures.value in
    let right : c.vector-product.result.now ≡ (sides_of net at).1 = c.vector-product.ensures.value ∙ ap (λ (k : ℕ). get_or net.complexes k []) c.product.ensures.value in
    map_more (λ r. map sign (minus (sides_of net r).0 (sides_of net r).1)) net.reactions c.loop-r.r (0, 0) c.loop-r.rows.items c.push.new.self.items c.in_ok-signs_of_differences.field-0
    (omega (arith, c.loop-r-test.true, c.reactions-r-end.ensures.count)) c.loop-r.invariant c.in_ok-push.ensures.items
    (c.in_ok-signs_of_differences.ensures ∙ ap₂ (λ (v w : List ℤ). map sign (minus v w)) left right)

pub returns : goal.returns
returns c =
    let net = c.args.net.now in
    c.loop-r.invariant ∙ take_all c.loop-r.r (strong_table net) (omega (arith, c.loop-r-test.false, c.reactions-r-end.ensures.count, length-map net.reactions (λ r. map sign (minus (sides_of net r).0 (sides_of net r).1))))
