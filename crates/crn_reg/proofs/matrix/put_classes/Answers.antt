use Rattle.crn_reg.proofs.Prelude.{◌≡◌, ◌+◌, ◌++◌, ◌<◌, ℕ, List, take, append_assoc, ap, sym, ◌∙◌, arith, ℤ, slice_index_or, flat_map, range_with_len, take_more, take_all, length-range_with_len, get_or-range_with_len, label_marks, flat_map_push}
use Rattle.crn_reg.proofs.matrix.put_classes.Goals as goal

pub loop-k-preserved : goal.loop-k-preserved
loop-k-preserved c =
    let n = c.args.count in
    let f = label_marks c.args.labels.now in
    let k = c.loop-k.k in
    let range = range_with_len 1 n in
    let old = c.args.entries.now.items in
    let lt : k < n = c.loop-k-test.true in
    let at : slice_index_or range k 0 ≡ k + 1 = omega (arith, get_or-range_with_len 1 n k 0 lt) in
    record {
      value = c.in_ok-put_marks.ensures.value ∙ ap (λ (l : List ℤ). l ++ f (k + 1)) c.loop-k.invariant.value
          ∙ append_assoc old (flat_map f (take k range)) (f (k + 1))
          ∙ ap (λ (j : ℕ). old ++ (flat_map f (take k range) ++ f j)) (sym at)
          ∙ ap (λ (l : List ℤ). old ++ l) (sym (flat_map_push f (take k range) (slice_index_or range k 0)))
          ∙ ap (λ (ks : List ℕ). old ++ flat_map f ks) (sym (take_more range k 0 (omega (arith, lt, length-range_with_len 1 n))));
      small = c.in_ok-put_marks.ensures.small;
    }

pub returns-clause-value : goal.returns-clause-value
returns-clause-value c =
    let n = c.args.count in
    let f = label_marks c.args.labels.now in
    let range = range_with_len 1 n in
    c.loop-k.invariant.value ∙ ap (λ (ks : List ℕ). c.args.entries.now.items ++ flat_map f ks) (take_all c.loop-k.k range (omega (arith, c.loop-k-test.false, length-range_with_len 1 n)))
