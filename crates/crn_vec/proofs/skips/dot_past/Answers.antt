use Rattle.crn_vec.proofs.Prelude.{◌≡◌, ◌≤◌, ◌<◌, ◌*◌, ◌+◌, ◌∙◌, length, get_or, take, sym, arith, to_z, ◌+ℤ◌, unsigned_abs, w128, dot, MAX_AMOUNT, WIDE_SOLUTION}
use Rattle.crn_vec.proofs.Held.{held, sum_within}
use Rattle.crn_vec.proofs.Entries.{dot_step, next_sum}
use Rattle.crn_vec.proofs.RowLists.{within_at}
use Rattle.crn_vec.proofs.ZeroPlaces.{skipped}
use Rattle.crn_vec.proofs.skips.dot_past.Goals as goal

pub places-init : goal.places-init
places-init c =
    let s = skipped c.args.a.now c.args.b.now c.args.skips.now c.requires.same c.requires.skips 0 (omega arith) in
    record { inside = s.inside; is = sym s.same; small = omega arith }

pub times-sum-requires-clause-x : goal.times-sum-requires-clause-x
times-sum-requires-clause-x c = within_at WIDE_SOLUTION c.places.k c.args.a.now c.requires.a

pub times-sum-requires-clause-y : goal.times-sum-requires-clause-y
times-sum-requires-clause-y c = within_at MAX_AMOUNT c.places.k c.args.b.now c.requires.b

pub places-preserved : goal.places-preserved
places-preserved c =
    let s = to_z w128 c.places.sum-bits in
    let p = c.times-sum.result in
    let a = c.args.a.now in
    let b = c.args.b.now in
    let k = c.places.k in
    let same : length b ≡ length a = c.requires.same in
    let lt : k < length a = c.places-test.true in
    let skip = skipped a b c.args.skips.now same c.requires.skips (k + 1) (omega (arith, lt)) in
    let n = get_or c.args.skips.now (k + 1) 0 in
    let bound : unsigned_abs (s +ℤ p) ≤ k * (MAX_AMOUNT * WIDE_SOLUTION) + MAX_AMOUNT * WIDE_SOLUTION =
    sum_within s p (k * (MAX_AMOUNT * WIDE_SOLUTION)) (MAX_AMOUNT * WIDE_SOLUTION) c.places.invariant.small c.times-sum.ensures.small in
    let next : dot (take n a) (take n b) ≡ s +ℤ p =
    skip.same ∙ dot_step a b k lt (omega (arith, same, lt)) ∙ next_sum c.places.invariant.is c.times-sum.ensures.value in
    rw (held p (omega (arith, c.times-sum.ensures.small)), held (s +ℤ p) (omega (arith, c.requires.few, same, lt, bound))) (record {
      inside = skip.inside;
      is = sym next;
      small = omega (arith, bound, skip.after);
    })
