use Rattle.crn_check.proofs.Prelude.{◌≡◌, ◌≤◌, ◌*◌, ◌+◌, ◌<◌, ◌∙◌, length, take, ap, sym, arith, to_z, take_all, ℤ, ◌+ℤ◌, ◌*ℤ◌, unsigned_abs, w128, dot, entry, label_marks, WIDE_SOLUTION, held, sum_within, dot_step, next_sum, length-label_marks, label_mark}
use Rattle.crn_check.proofs.space.class_sum.Goals as goal

pub loop-c-preserved : goal.loop-c-preserved
loop-c-preserved c =
    let s = to_z w128 c.loop-c.sum-bits in
    let p = c.class_term-sum.result in
    let labels = c.args.labels.now in
    let class = c.args.class in
    let v = c.args.numbers.now in
    let marks = label_marks labels class in
    let k = c.loop-c.c in
    let lt : k < length labels = omega (arith, c.loop-c-test.true, c.complexes-c-end.ensures.count, c.requires.labelled) in
    let mark = label_mark labels class k lt in
    let small = c.class_term-sum.ensures.small in
    let is : p ≡ entry marks k *ℤ entry v k = c.class_term-sum.ensures.value ∙ ap (λ (x : ℤ). x *ℤ entry v k) (sym mark) in
    let bound : unsigned_abs (s +ℤ p) ≤ k * WIDE_SOLUTION + WIDE_SOLUTION = sum_within s p (k * WIDE_SOLUTION) WIDE_SOLUTION c.loop-c.invariant.small small in
    let next : dot (take (k + 1) marks) (take (k + 1) v) ≡ s +ℤ p = dot_step marks v k (omega (arith, lt, length-label_marks labels class)) (omega (arith, lt, c.requires.labelled, c.requires.numbers.long)) ∙ next_sum c.loop-c.invariant.value is in
    rw (held p (omega (arith, small)), held (s +ℤ p) (omega (arith, bound, c.loop-c-test.true, c.complexes-c-end.ensures.limit))) (record { value = sym next; small = omega (arith, bound) })

pub returns : goal.returns
returns c =
    let labels = c.args.labels.now in
    let marks = label_marks labels c.args.class in
    rw (take_all c.loop-c.c marks (omega (arith, length-label_marks labels c.args.class, c.requires.labelled, c.complexes-c-end.ensures.count)), take_all c.loop-c.c c.args.numbers.now (omega (arith, c.requires.numbers.long, c.complexes-c-end.ensures.count))) at c.loop-c.invariant.value
