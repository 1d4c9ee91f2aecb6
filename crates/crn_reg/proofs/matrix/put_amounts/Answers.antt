use Rattle.crn_reg.proofs.Prelude.{◌≡◌, ◌++◌, ◌<◌, ℕ, List, length, take, append_assoc, ap, sym, ◌∙◌, arith, ℤ, slice_index_or, flat_map, range_with_len, take_more, take_all, length-range_with_len, get_or-range_with_len, column, flat_map_push}
use Rattle.crn_reg.proofs.matrix.put_amounts.Goals as goal

pub loop-s-preserved : goal.loop-s-preserved
loop-s-preserved c =
    let n = length c.args.net.now.names in
    let f = column c.args.net.now.complexes in
    let s = c.loop-s.s in
    let range = range_with_len 0 n in
    let old = c.args.entries.now.items in
    let lt : s < n = omega (arith, c.species-s-end.ensures.count) in
    let at : slice_index_or range s 0 ≡ s = omega (arith, get_or-range_with_len 0 n s 0 lt) in
    record {
      value = c.in_ok-put_species.ensures.value ∙ ap (λ (l : List ℤ). l ++ f s) c.loop-s.invariant.value
          ∙ append_assoc old (flat_map f (take s range)) (f s)
          ∙ ap (λ (k : ℕ). old ++ (flat_map f (take s range) ++ f k)) (sym at)
          ∙ ap (λ (l : List ℤ). old ++ l) (sym (flat_map_push f (take s range) (slice_index_or range s 0)))
          ∙ ap (λ (ks : List ℕ). old ++ flat_map f ks) (sym (take_more range s 0 (omega (arith, lt, length-range_with_len 0 n))));
      small = c.in_ok-put_species.ensures.small;
    }

pub returns-clause-value : goal.returns-clause-value
returns-clause-value c =
    let n = length c.args.net.now.names in
    let f = column c.args.net.now.complexes in
    let range = range_with_len 0 n in
    c.loop-s.invariant.value ∙ ap (λ (ks : List ℕ). c.args.entries.now.items ++ flat_map f ks) (take_all c.loop-s.s range (omega (arith, c.loop-s-test.false, c.species-s-end.ensures.count, length-range_with_len 0 n)))
