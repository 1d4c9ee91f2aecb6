use Rattle.crn_conc.proofs.Prelude.{◌≡◌, ◌++◌, ◌<◌, ℕ, List, length, take, ap, sym, ◌∙◌, arith, ℤ, slice_index_or, flat_map, range_with_len, take_more, take_all, length-range_with_len, get_or-range_with_len, column, vectors, flat_map_push}
use Rattle.crn_conc.proofs.system.entries_by_species.Goals as goal

pub loop-s-preserved : goal.loop-s-preserved
loop-s-preserved c =
    let n = length c.args.net.now.names in
    let f = column (vectors c.args.net.now) in
    let s = c.loop-s.s in
    let range = range_with_len 0 n in
    let lt : s < n = omega (arith, c.species-s-end.ensures.count) in
    let at : slice_index_or range s 0 ≡ s = omega (arith, get_or-range_with_len 0 n s 0 lt) in
    record {
      value = c.in_ok-put_species.ensures.value ∙ ap (λ (l : List ℤ). l ++ f s) c.loop-s.invariant.value
          ∙ ap (λ (k : ℕ). flat_map f (take s range) ++ f k) (sym at)
          ∙ sym (flat_map_push f (take s range) (slice_index_or range s 0))
          ∙ ap (flat_map f) (sym (take_more range s 0 (omega (arith, lt, length-range_with_len 0 n))));
      small = c.in_ok-put_species.ensures.small;
    }

pub returns-clause-value : goal.returns-clause-value
returns-clause-value c =
    let n = length c.args.net.now.names in
    let f = column (vectors c.args.net.now) in
    let range = range_with_len 0 n in
    c.loop-s.invariant.value ∙ ap (flat_map f) (take_all c.loop-s.s range (omega (arith, c.loop-s-test.false, c.species-s-end.ensures.count, length-range_with_len 0 n)))
