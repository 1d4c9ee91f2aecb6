use Rattle.crn_check.proofs.Prelude.{◌≡◌, ◌<◌, ◌*◌, ◌+◌, ◌∙◌, ℕ, List, suc, length, get_or, take, drop, ap, ap₂, sym, subst, arith, take_all, ℤ, pos, ◌+ℤ◌, ◌*ℤ◌, get_or-drop, length-drop, AreWithin, dot, column, entry, MAX_AMOUNT, WIDE_SOLUTION, dot_step, entry-column, length-column, entry_of_zeros, nought_adds, within_more, zeros_within, vector_of, vectors_of}
use Rattle.crn_check.proofs.RankParts.{vector_at, length_vectors}
use Rattle.crn_check.proofs.combs.put_combination.Goals.{then-not-is_nought, else-not-is_nought}
use Rattle.crn_check.proofs.combs.put_combination.Goals as goal

pub loop-j-init : goal.loop-j-init
loop-j-init c = record { each = λ s lt. entry_of_zeros 60 s; within = zeros_within 0 60 }

pub loop-j-preserved : goal.loop-j-preserved
loop-j-preserved c =
    let net = c.args.net.now in
    let base = c.args.base.now in
    let comb = c.args.comb.now in
    let vs = vectors_of net base in
    let w = drop 1 comb in
    let j = c.loop-j.j in
    let old = c.loop-j.sums in
    let new = c.if-not-is_nought.sums in
    let h = c.loop-j.invariant in
    let bound = MAX_AMOUNT * WIDE_SOLUTION in
    let inside : j < length base = c.loop-j-test.true in
    let in_w : j < length w = omega (arith, inside, length-drop 1 comb, c.requires.comb.long) in
    let number : entry comb (j + 1) ≡ entry w j = ap (entry comb) (omega arith) ∙ sym (get_or-drop 1 comb j (pos 0)) in
    let step : (s : ℕ) → dot (take (j + 1) w) (take (j + 1) (column vs s)) ≡ dot (take j w) (take j (column vs s)) +ℤ (entry w j *ℤ entry (column vs s) j) =
    λ s. dot_step w (column vs s) j in_w (omega (arith, inside, length-column vs s, length_vectors net base)) in
    elim c.if-not-is_nought.branch [
      | then-not-is_nought b ↦ record {
        each = λ s lt.
            let at : entry (vector_of net (get_or base j 0)) s ≡ entry (column vs s) j =
            ap (λ (v : List ℤ). entry v s) (sym (vector_at net base j inside)) ∙ sym (entry-column vs s j) in
            ap (λ (l : List ℤ). entry l s) b.sums-is ∙ b.add_member.ensures.each s lt
            ∙ ap₂ (λ (x y : ℤ). x +ℤ y) (h.each s lt) (ap₂ (λ (x y : ℤ). x *ℤ y) number at) ∙ sym (step s);
        within = within_more (suc j * bound) ((j + 1) * bound) new (omega arith) (subst (AreWithin (suc j * bound)) (sym b.sums-is) b.add_member.ensures.within);
      }
      | else-not-is_nought b ↦ record {
        each = λ s lt.
            ap (λ (l : List ℤ). entry l s) b.sums-is ∙ h.each s lt
            ∙ nought_adds (dot (take j w) (take j (column vs s))) (entry w j) (entry (column vs s) j) (sym number ∙ c.is_nought.ensures.0 b.if-not-is_nought.false)
            ∙ sym (step s);
        within = within_more (j * bound) ((j + 1) * bound) new (omega arith) (subst (AreWithin (j * bound)) (sym b.sums-is) h.within);
      }
    ]

pub returns : goal.returns
returns c s lt =
    let vs = vectors_of c.args.net.now c.args.base.now in
    let col = column vs s in
    rw (take_all c.loop-j.j col (omega (arith, c.loop-j-test.false, length-column vs s, length_vectors c.args.net.now c.args.base.now)), take_all c.loop-j.j (drop 1 c.args.comb.now) (omega (arith, c.loop-j-test.false, length-drop 1 c.args.comb.now, c.requires.comb.long))) at (c.loop-j.invariant.each s lt)
