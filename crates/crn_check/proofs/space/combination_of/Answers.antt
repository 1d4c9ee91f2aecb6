use Rattle.crn_check.proofs.Prelude.{◌≡◌, ◌<◌, ◌*◌, ◌+◌, ◌∙◌, ℕ, List, suc, length, take, ap, ap₂, sym, subst, arith, take_all, ℤ, ◌+ℤ◌, ◌*ℤ◌, AreWithin, dot, column, entry, MAX_AMOUNT, WIDE_SOLUTION, dot_step, entry-column, length-column, entry_of_zeros, nought_adds, within_more, zeros_within, amounts_within}
use Rattle.crn_check.proofs.space.combination_of.Goals.{then-not-is_nought, else-not-is_nought}
use Rattle.crn_check.proofs.space.combination_of.Goals as goal

pub loop-c-init : goal.loop-c-init
loop-c-init c = record { each = λ s lt. entry_of_zeros 60 s; within = zeros_within 0 60 }

pub add_multiple-requires-clause-vector : goal.add_multiple-requires-clause-vector
add_multiple-requires-clause-vector c = amounts_within c.vector-vector.result.now c.vector-vector.ensures.amounts

pub loop-c-preserved : goal.loop-c-preserved
loop-c-preserved c =
    let net = c.args.net.now in
    let vs = net.complexes in
    let w = c.args.numbers.now in
    let k = c.loop-c.c in
    let new = c.if-not-is_nought.sums in
    let h = c.loop-c.invariant in
    let bound = MAX_AMOUNT * WIDE_SOLUTION in
    let inside : k < length vs = omega (arith, c.loop-c-test.true, c.complexes-c-end.ensures.count) in
    let in_w : k < length w = omega (arith, inside, c.requires.long) in
    let step : (s : ℕ) → dot (take (k + 1) w) (take (k + 1) (column vs s)) ≡ dot (take k w) (take k (column vs s)) +ℤ (entry w k *ℤ entry (column vs s) k) =
    λ s. dot_step w (column vs s) k in_w (omega (arith, inside, length-column vs s)) in
    elim c.if-not-is_nought.branch [
      | then-not-is_nought b ↦ record {
        each = λ s lt.
            let at : entry b.vector-vector.result.now s ≡ entry (column vs s) k =
            ap (λ (v : List ℤ). entry v s) b.vector-vector.ensures.value ∙ sym (entry-column vs s k) in
            ap (λ (l : List ℤ). entry l s) b.sums-is ∙ b.add_multiple.ensures.each s (omega (arith, lt, b.vector-vector.ensures.width))
            ∙ ap₂ (λ (x y : ℤ). x +ℤ y) (h.each s lt) (ap (λ (y : ℤ). entry w k *ℤ y) at) ∙ sym (step s);
        within = within_more (suc k * bound) ((k + 1) * bound) new (omega arith) (subst (AreWithin (suc k * bound)) (sym b.sums-is) b.add_multiple.ensures.within);
      }
      | else-not-is_nought b ↦ record {
        each = λ s lt.
            ap (λ (l : List ℤ). entry l s) b.sums-is ∙ h.each s lt
            ∙ nought_adds (dot (take k w) (take k (column vs s))) (entry w k) (entry (column vs s) k) (c.is_nought.ensures.0 b.if-not-is_nought.false)
            ∙ sym (step s);
        within = within_more (k * bound) ((k + 1) * bound) new (omega arith) (subst (AreWithin (k * bound)) (sym b.sums-is) h.within);
      }
    ]

pub returns : goal.returns
returns c s lt =
    let vs = c.args.net.now.complexes in
    let col = column vs s in
    rw (take_all c.loop-c.c col (omega (arith, c.loop-c-test.false, length-column vs s, c.complexes-c-end.ensures.count)), take_all c.loop-c.c c.args.numbers.now (omega (arith, c.loop-c-test.false, c.requires.long, c.complexes-c-end.ensures.count))) at (c.loop-c.invariant.each s lt)
