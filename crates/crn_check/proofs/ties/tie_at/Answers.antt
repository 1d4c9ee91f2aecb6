use Rattle.crn_check.proofs.Prelude.{◌≡◌, ◌<◌, ◌-◌, ◌^◌, ◌∙◌, ℕ, List, [], length, get_or, take, drop, sym, subst, ap, ap₂, arith, ℤ, ◌+ℤ◌, unsigned_abs, w128, fits_signed_from_abs, AreWithin, dot, entry, MAX_AMOUNT, WIDE_SOLUTION, held, sum_within, within_at, within_take, within_drop, amounts_within, narrow_within, dot_within}
use Rattle.crn_check.proofs.Counted.{label_from}
use Rattle.crn_check.proofs.TieRows.{tie_parts}
use Rattle.crn_check.proofs.ties.tie_at.Goals as goal

-- the first multipliers are within the bound
first_within : (n : ℕ) (tie a : List ℤ) → a ≡ take n tie → AreWithin WIDE_SOLUTION tie → AreWithin WIDE_SOLUTION a
first_within n tie a is h = subst (AreWithin WIDE_SOLUTION) (sym is) (within_take WIDE_SOLUTION n tie h)

pub dot-requires-clause-a : goal.dot-requires-clause-a
dot-requires-clause-a c = first_within c.species.result c.args.tie.now c.split_at.result.0.now c.split_at.ensures.front (narrow_within c.args.tie.now c.requires.tie.each)

pub dot-requires-clause-b : goal.dot-requires-clause-b
dot-requires-clause-b c = amounts_within c.vector.result.now c.vector.ensures.amounts

pub overflow_add-result : goal.overflow_add-result
overflow_add-result c =
    let tie = c.args.tie.now in
    let a = c.split_at.result.0.now in
    let v = c.vector.result.now in
    let d = c.dot.result in
    let e = entry c.split_at.result.1.now (get_or c.args.labels.now c.args.c 0 - 1) in
    let whole : AreWithin WIDE_SOLUTION tie = narrow_within tie c.requires.tie.each in
    let small = dot_within WIDE_SOLUTION MAX_AMOUNT a v (first_within c.species.result tie a c.split_at.ensures.front whole) (amounts_within v c.vector.ensures.amounts) in
    let back : AreWithin WIDE_SOLUTION c.split_at.result.1.now = subst (AreWithin WIDE_SOLUTION) (sym c.split_at.ensures.back) (within_drop WIDE_SOLUTION c.species.result tie whole) in
    let last = within_at WIDE_SOLUTION (get_or c.args.labels.now c.args.c 0 - 1) c.split_at.result.1.now back in
    let same : unsigned_abs d ≡ unsigned_abs (dot a v) = ap unsigned_abs c.dot.ensures in
    let one : unsigned_abs d < 2 ^ 100 = omega (arith, small, same, c.split_at.ensures.front_len, c.species.ensures.limit) in
    let two : unsigned_abs e < 2 ^ 100 = omega (arith, last) in
    let sum = sum_within d e (2 ^ 100) (2 ^ 100) (omega (arith, one)) (omega (arith, two)) in
    rw (held d (omega (arith, one)), held e (omega (arith, two))) (fits_signed_from_abs w128 (d +ℤ e) (omega (arith, sum)))

pub returns : goal.returns
returns c =
    let net = c.args.net.now in
    let tie = c.args.tie.now in
    let labels = c.args.labels.now in
    let at = c.args.c in
    let a = c.split_at.result.0.now in
    let v = c.vector.result.now in
    let d = c.dot.result in
    let n = length net.names in
    let e = entry c.split_at.result.1.now (get_or labels at 0 - 1) in
    let whole : AreWithin WIDE_SOLUTION tie = narrow_within tie c.requires.tie.each in
    let small = dot_within WIDE_SOLUTION MAX_AMOUNT a v (first_within c.species.result tie a c.split_at.ensures.front whole) (amounts_within v c.vector.ensures.amounts) in
    let back : AreWithin WIDE_SOLUTION c.split_at.result.1.now = subst (AreWithin WIDE_SOLUTION) (sym c.split_at.ensures.back) (within_drop WIDE_SOLUTION c.species.result tie whole) in
    let last = within_at WIDE_SOLUTION (get_or labels at 0 - 1) c.split_at.result.1.now back in
    let same : unsigned_abs d ≡ unsigned_abs (dot a v) = ap unsigned_abs c.dot.ensures in
    let one : unsigned_abs d < 2 ^ 100 = omega (arith, small, same, c.split_at.ensures.front_len, c.species.ensures.limit) in
    let two : unsigned_abs e < 2 ^ 100 = omega (arith, last) in
    let sum = sum_within d e (2 ^ 100) (2 ^ 100) (omega (arith, one)) (omega (arith, two)) in
    let label = label_from _ _ labels at c.requires.labels c.requires.inside in
    let wide : length (get_or net.complexes at []) ≡ n = ap (λ (l : List ℤ). length l) (sym c.vector.ensures.value) ∙ c.vector.ensures.width in
    let prefix : a ≡ take n tie = c.split_at.ensures.front ∙ ap (λ (k : ℕ). take k tie) c.species.ensures.count in
    let rest : c.split_at.result.1.now ≡ drop n tie = c.split_at.ensures.back ∙ ap (λ (k : ℕ). drop k tie) c.species.ensures.count in
    let parts = tie_parts net labels c.args.count tie at wide (omega (arith, c.requires.inside, c.requires.labels.long)) c.requires.tie.long label.0 label.1 in
    let is : d +ℤ e ≡ dot (take n tie) (get_or net.complexes at []) +ℤ entry (drop n tie) (get_or labels at 0 - 1) =
    ap₂ (λ (x y : ℤ). x +ℤ y) (c.dot.ensures ∙ ap₂ (λ (x y : List ℤ). dot x y) prefix c.vector.ensures.value) (ap (λ (l : List ℤ). entry l (get_or labels at 0 - 1)) rest) in
    rw (held d (omega (arith, one)), held e (omega (arith, two)), held (d +ℤ e) (omega (arith, sum))) (is ∙ sym parts)
