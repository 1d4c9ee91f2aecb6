use Rattle.crn_check.proofs.Prelude.{◌≡◌, inl, inr, ◌∙◌, List, length, drop, ap, sym, arith, ℤ, ◌*ℤ◌, ints, *ℤ-zero, entry, MAX_AMOUNT, within_at, lt_or, past_end, vector_of, vectors_of}
use Rattle.crn_check.proofs.Decided.{granted}
use Rattle.crn_check.proofs.Widths.{combination_past}
use Rattle.crn_check.proofs.RankParts.{widths_of_base}
use Rattle.crn_check.proofs.combs.is_comb.Goals as goal

pub times-requires-clause-y : goal.times-requires-clause-y
times-requires-clause-y c = within_at MAX_AMOUNT c.loop-s.s c.vector_of-vector.result.now c.vector_of-vector.ensures.small

pub returns : goal.returns
returns c =
    let net = c.args.net.now in
    let base = c.args.base.now in
    let comb = c.args.comb.now in
    let v = vector_of net c.args.reaction in
    let wide : length v ≡ length net.names = ap (λ (x : List ℤ). length x) (sym c.vector_of-vector.ensures.value) ∙ c.vector_of-vector.ensures.width in
    granted (record {
      positive = omega (arith, ints, c.if-comb-lt1.false);
      is = λ s. elim (lt_or s (length net.names)) [
        | inl lt ↦ c.loop-s.invariant s (omega (arith, lt, c.vector_of-vector.ensures.width))
        | inr past ↦
            ap (λ (x : ℤ). entry comb 0 *ℤ x) (past_end v s (omega (arith, past, wide))) ∙ *ℤ-zero (entry comb 0)
            ∙ sym (combination_past (drop 1 comb) (vectors_of net base) (length net.names) s (widths_of_base net base c.requires.base) past)
      ];
    })
