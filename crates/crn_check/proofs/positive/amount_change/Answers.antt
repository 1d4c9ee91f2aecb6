use Rattle.crn_check.proofs.Prelude.{◌≡◌, ◌≤◌, ◌<◌, ◌*◌, ◌+◌, ◌∙◌, List, length, take, ap, sym, arith, to_z, take_all, ℤ, ◌+ℤ◌, ◌*ℤ◌, unsigned_abs, w128, dot, column, entry, vectors, MAX_AMOUNT, WIDE_SOLUTION, held, sum_within, dot_step, next_sum, within_at, entry-column, length-column, vectors_count, vector_at}
use Rattle.crn_check.proofs.positive.amount_change.Goals as goal

pub times-sum-requires-clause-y : goal.times-sum-requires-clause-y
times-sum-requires-clause-y c = within_at MAX_AMOUNT c.args.s c.reaction_vector.result.now c.reaction_vector.ensures.small

pub loop-r-preserved : goal.loop-r-preserved
loop-r-preserved c =
    let s = to_z w128 c.loop-r.sum-bits in
    let p = c.times-sum.result in
    let net = c.args.net.now in
    let col = column (vectors net) c.args.s in
    let w = c.args.numbers.now in
    let r = c.loop-r.r in
    let inside : r < length net.reactions = omega arith in
    let in_col : r < length col = omega (arith, length-column (vectors net) c.args.s, vectors_count net) in
    let in_w : r < length w = omega (arith, c.requires.numbers.long) in
    let bound : unsigned_abs (s +ℤ p) ≤ r * (MAX_AMOUNT * WIDE_SOLUTION) + MAX_AMOUNT * WIDE_SOLUTION =
    sum_within s p (r * (MAX_AMOUNT * WIDE_SOLUTION)) (MAX_AMOUNT * WIDE_SOLUTION) c.loop-r.invariant.1 c.times-sum.ensures.small in
    let at : entry c.reaction_vector.result.now c.args.s ≡ entry col r =
    ap (λ (v : List ℤ). entry v c.args.s) (c.reaction_vector.ensures.value ∙ sym (vector_at net r inside)) ∙ sym (entry-column (vectors net) c.args.s r) in
    let product : p ≡ entry w r *ℤ entry col r = c.times-sum.ensures.value ∙ ap (λ (x : ℤ). entry w r *ℤ x) at in
    let next : dot (take (r + 1) w) (take (r + 1) col) ≡ s +ℤ p = dot_step w col r in_w in_col ∙ next_sum c.loop-r.invariant.0 product in
    rw (held p (omega (arith, c.times-sum.ensures.small)), held (s +ℤ p) (omega (arith, c.reactions-r-end.ensures.limit))) (sym next, omega (arith, bound))

pub returns : goal.returns
returns c =
    let net = c.args.net.now in
    let col = column (vectors net) c.args.s in
    rw (take_all c.loop-r.r col (omega (arith, length-column (vectors net) c.args.s, vectors_count net)), take_all c.loop-r.r c.args.numbers.now (omega (arith, c.requires.numbers.long))) at c.loop-r.invariant.0
