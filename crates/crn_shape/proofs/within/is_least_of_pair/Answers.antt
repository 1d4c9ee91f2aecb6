use Rattle.crn_shape.proofs.Prelude.{ℕ, ◌+◌, get_or, sym, ap, ap₂, ◌∙◌, is_same_pair, HasSum}
use Rattle.crn_shape.proofs.Least.{ends_are, least_by_sums, least_hit, least_more}
use Rattle.crn_shape.proofs.within.is_least_of_pair.Goals as goal

pub returns-then-follows_its_pair : goal.returns-then-follows_its_pair
returns-then-follows_its_pair c = sym (c.follows_its_pair.ensures c.if-follows_its_pair.true)

pub returns-then-not-has_sum_before : goal.returns-then-not-has_sum_before
returns-then-not-has_sum_before c =
    let sum : HasSum c.args.net.now (c.reactant-y.result + c.product-z.result) c.args.r = ap₂ (λ (a b : ℕ). a + b) (sym c.reactant-y.ensures.value) (sym c.product-z.ensures.value) in
    sym (least_by_sums c.args.net.now c.args.r (c.reactant-y.result + c.product-z.result) sum (c.has_sum_before.ensures c.if-not-has_sum_before.true))

pub returns-then-joins : goal.returns-then-joins
returns-then-joins c =
    let e = ends_are c.args.net.now c.args.r c.reactant-y.result c.product-z.result c.reactant-y.ensures.value c.product-z.ensures.value in
    sym (least_hit c.args.net.now c.args.r c.loop-q.q c.loop-q-test.true
    (ap (is_same_pair (get_or c.args.net.now.reactions c.loop-q.q (0, 0))) (sym e) ∙ sym c.joins.ensures ∙ c.if-joins.true))

pub loop-q-preserved : goal.loop-q-preserved
loop-q-preserved c =
    let e = ends_are c.args.net.now c.args.r c.reactant-y.result c.product-z.result c.reactant-y.ensures.value c.product-z.ensures.value in
    least_more c.args.net.now c.args.r c.loop-q.q c.loop-q.invariant
    (ap (is_same_pair (get_or c.args.net.now.reactions c.loop-q.q (0, 0))) (sym e) ∙ sym c.joins.ensures ∙ c.if-joins.false)
