use Rattle.crn_conc.proofs.Prelude.{ℕ, List, [], map, get_or, ap, ◌∙◌, arith, ℤ, take_all, length-map, sides_of, sign, plain_table, map_more}
use Rattle.crn_conc.proofs.influence.concordance_table.Goals as goal

pub loop-r-preserved : goal.loop-r-preserved
loop-r-preserved c =
    let net = c.args.net.now in
    map_more (λ r. map sign (sides_of net r).0) net.reactions c.loop-r.r (0, 0) c.loop-r.rows.items c.push.new.self.items c.in_ok-signs_of.field-0
    (omega (arith, c.loop-r-test.true, c.reactions-r-end.ensures.count)) c.loop-r.invariant c.in_ok-push.ensures.items
    (c.in_ok-signs_of.ensures ∙ ap (λ (v : List ℤ). map sign v) (c.vector.ensures.value ∙ ap (λ (k : ℕ). get_or net.complexes k []) c.reactant.ensures.value))

pub returns : goal.returns
returns c =
    let net = c.args.net.now in
    c.loop-r.invariant ∙ take_all c.loop-r.r (plain_table net) (omega (arith, c.loop-r-test.false, c.reactions-r-end.ensures.count, length-map net.reactions (λ r. map sign (sides_of net r).0)))
