use Rattle.crn_ctree.proofs.Prelude.{◌≡◌, ◌≤◌, ◌<◌, ◌*◌, ◌+◌, ◌∙◌, length, take, get_or, ap, sym, arith, to_z, take_all, ℤ, pos, ◌+ℤ◌, ◌*ℤ◌, unsigned_abs, w128, *ℤ_comm, dot, column, entry, vectors, MAX_AMOUNT, WIDE_SOLUTION, held, sum_within, dot_step, next_sum, within_at, all_at, column_long, vector_entry, IsNarrow}
use Rattle.crn_ctree.proofs.PairLaws.{image_entry}
use Rattle.crn_ctree.proofs.pair.sum_at.Goals as goal

pub times-sum-requires-clause-x : goal.times-sum-requires-clause-x
times-sum-requires-clause-x c =
    let w = c.args.weights.now in
    let lt : c.loop-r.r < length w = omega (arith, c.requires.weights.long) in
    let narrow : IsNarrow (get_or w c.loop-r.r (pos 0)) = all_at IsNarrow w c.loop-r.r (pos 0) c.requires.weights.each lt in
    omega (arith, narrow)

pub times-sum-requires-clause-y : goal.times-sum-requires-clause-y
times-sum-requires-clause-y c = within_at MAX_AMOUNT c.args.s c.reaction_vector.result.now c.reaction_vector.ensures.small

pub loop-r-preserved : goal.loop-r-preserved
loop-r-preserved c =
    let s = to_z w128 c.loop-r.sum-bits in
    let p = c.times-sum.result in
    let net = c.args.net.now in
    let col = column (vectors net) c.args.s in
    let w = c.args.weights.now in
    let r = c.loop-r.r in
    let in_reactions : r < length net.reactions = omega arith in
    let in_col : r < length col = omega (arith, column_long net c.args.s) in
    let in_w : r < length w = omega (arith, c.requires.weights.long) in
    let bound : unsigned_abs (s +ℤ p) ≤ r * (MAX_AMOUNT * WIDE_SOLUTION) + MAX_AMOUNT * WIDE_SOLUTION =
    sum_within s p (r * (MAX_AMOUNT * WIDE_SOLUTION)) (MAX_AMOUNT * WIDE_SOLUTION) c.loop-r.invariant.1 c.times-sum.ensures.small in
    let at : entry c.reaction_vector.result.now c.args.s ≡ entry col r = ap (λ (v : _). entry v c.args.s) c.reaction_vector.ensures.value ∙ sym (vector_entry net c.args.s r in_reactions) in
    let product : p ≡ entry col r *ℤ entry w r = c.times-sum.ensures.value ∙ *ℤ_comm (entry w r) (entry c.reaction_vector.result.now c.args.s) ∙ ap (λ (x : ℤ). x *ℤ entry w r) at in
    let next : dot (take (r + 1) col) (take (r + 1) w) ≡ s +ℤ p = dot_step col w r in_col in_w ∙ next_sum c.loop-r.invariant.0 product in
    rw (held p (omega (arith, c.times-sum.ensures.small)), held (s +ℤ p) (omega (arith, c.reactions-r-end.ensures.limit))) (sym next, omega (arith, bound))

pub returns-clause-small : goal.returns-clause-small
returns-clause-small c = omega (arith, c.loop-r.invariant.1, c.reactions-r-end.ensures.limit)

pub returns-clause-value : goal.returns-clause-value
returns-clause-value c =
    let net = c.args.net.now in
    let col = column (vectors net) c.args.s in
    (rw (take_all c.loop-r.r col (omega (arith, column_long net c.args.s)), take_all c.loop-r.r c.args.weights.now (omega (arith, c.requires.weights.long))) at c.loop-r.invariant.0) ∙ image_entry net c.args.weights.now c.args.s c.requires.species
