use Rattle.crn_farkas.proofs.Prelude.{◌≡◌, ℕ, ◌+◌, inl, inr, List, [], take, refl, ap, subst, sym, ◌∙◌, arith, ℤ, slice_index_or, w128, to_z-of_z, dot-comm, eq_or, held, within_from, within_take, WIDE_SOLUTION, AreWithin, dot, entry}
use Rattle.crn_farkas.proofs.tested.is_row_vector.Goals as goal

pub dot-requires-clause-a : goal.dot-requires-clause-a
dot-requires-clause-a c =
    let v = c.args.v.now in
    subst (AreWithin WIDE_SOLUTION) (sym c.split_at.ensures.front) (within_take WIDE_SOLUTION c.cols-n.result v (within_from WIDE_SOLUTION v (λ k lt. omega (arith, c.requires.small k))))

pub loop-i-preserved : goal.loop-i-preserved
loop-i-preserved c =
    let a = c.args.matrix.now in
    let v = c.args.v.now in
    let i = c.loop-i.i in
    let n = c.cols-n.result in
    let row = slice_index_or a.rows i [] in
    let P : ℕ → Type 0 = λ j. entry v (a.cols + j) ≡ dot (slice_index_or a.rows j []) (take a.cols v) in
    let equal : c.dot.result ≡ entry v (n + i) =
    sym (to_z-of_z w128 c.dot.result (record { sfits = c.dot.type_inv })) ∙ c.if-not-are_same.ensures refl ∙ held (entry v (n + i)) (omega (arith, c.requires.small (n + i))) in
    let product : c.dot.result ≡ dot (take n v) row = c.dot.ensures ∙ ap (λ (t : List ℤ). dot t c.row.result.now) c.split_at.ensures.front ∙ ap (λ (t : List ℤ). dot (take n v) t) c.row.ensures.value in
    let here : entry v (n + i) ≡ dot row (take n v) = sym equal ∙ product ∙ dot-comm (take n v) row in
    let at : P i = subst (λ (m : ℕ). entry v (m + i) ≡ dot row (take m v)) c.cols-n.ensures.count here in
    λ j lt. elim (eq_or j i) as (λ _. P j) [
      | inl e ↦ subst P (sym e) at
      | inr ne ↦ c.loop-i.invariant j (omega (arith, lt, ne))
    ]

pub returns : goal.returns
returns c = λ _. record {
  long = c.requires.long;
  is = λ i lt. c.loop-i.invariant i (omega arith);
}
