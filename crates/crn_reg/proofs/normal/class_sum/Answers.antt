use Rattle.crn_reg.proofs.Prelude.{◌≡◌, ◌≤◌, ◌*◌, ◌+◌, ◌<◌, ◌==◌, ◌∙◌, length, take, ap, sym, arith, to_z, ℤ, pos, ◌+ℤ◌, ◌*ℤ◌, unsigned_abs, if◌then◌else◌, w128, get_or-map, length-map, dot, entry, label_marks, WIDE_ENTRY, held, sum_within, dot_step, next_sum}
use Rattle.crn_reg.proofs.normal.class_sum.Goals as goal

pub loop-c-preserved : goal.loop-c-preserved
loop-c-preserved c =
    let s = to_z w128 c.loop-c.sum-bits in
    let p = c.class_term-sum.result in
    let labels = c.args.labels.now in
    let class = c.args.class in
    let v = c.args.vector.now in
    let marks = label_marks labels class in
    let k = c.loop-c.c in
    let lt : k < length labels = c.loop-c-test.true in
    let many : length marks ≡ length labels = length-map labels (λ l. if l == class then pos 1 else pos 0) in
    let mark : entry marks k ≡ _ = get_or-map (λ l. if l == class then pos 1 else pos 0) labels k 0 (pos 0) lt in
    let small = c.class_term-sum.ensures.small in
    let is : p ≡ entry marks k *ℤ entry v k = c.class_term-sum.ensures.value ∙ ap (λ (x : ℤ). x *ℤ entry v k) (sym mark) in
    let bound : unsigned_abs (s +ℤ p) ≤ k * WIDE_ENTRY + WIDE_ENTRY = sum_within s p (k * WIDE_ENTRY) WIDE_ENTRY c.loop-c.invariant.small small in
    let next : dot (take (k + 1) marks) (take (k + 1) v) ≡ s +ℤ p = dot_step marks v k (omega (arith, lt, many)) (omega (arith, lt, c.requires.long)) ∙ next_sum c.loop-c.invariant.value is in
    rw (held p (omega (arith, small)), held (s +ℤ p) (omega (arith, bound, lt, c.requires.few))) (record { value = sym next; small = omega (arith, bound) })
