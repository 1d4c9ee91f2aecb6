use Rattle.crn_sign.proofs.Prelude.{◌≡◌, ◌≢◌, ◌+◌, ◌*◌, ℕ, inl, inr, refl, sym, ap, ap₂, ◌∙◌, w64, arith, bit_at, trailing_zeros, bit_at-zero, bit_at-trailing_zeros, Kind, kind_at, eq_or, weakened, Mark, mark_in, kind_of_mark}
use Rattle.crn_sign.proofs.kinds.put_kinds.Goals as goal

pub bits-init : goal.bits-init
bits-init c = record {
  fits = c.changed_places-rest.type_inv;
  count = refl;
  others = λ k ne. refl;
  done = λ i lt z inside. c.requires.kept i lt inside ∙ ap₂ (λ (m : Mark) (e : ℕ). weakened (kind_of_mark m) e) (c.changed_places-rest.ensures.marks i z) (c.changed_places-rest.ensures.weak i z);
}

pub mark_in-requires : goal.mark_in-requires
mark_in-requires c = (bit_at-trailing_zeros w64 c.bits.rest (omega (arith, c.bits-test.true)) c.bits.invariant.fits).0

pub bit_in-requires : goal.bit_in-requires
bit_in-requires c = (bit_at-trailing_zeros w64 c.bits.rest (omega (arith, c.bits-test.true)) c.bits.invariant.fits).0

pub without_bit-rest-requires : goal.without_bit-rest-requires
without_bit-rest-requires c = (bit_at-trailing_zeros w64 c.bits.rest (omega (arith, c.bits-test.true)) c.bits.invariant.fits).0

pub bits-preserved : goal.bits-preserved
bits-preserved c =
    let w = c.args.w in
    let i = trailing_zeros w64 c.bits.rest in
    let lowest = bit_at-trailing_zeros w64 c.bits.rest (omega (arith, c.bits-test.true)) c.bits.invariant.fits in
    let put = c.put_kind.ensures in
    let new = c.put_kind.new.kinds.items in
    record {
      fits = c.without_bit-rest.type_inv;
      count = put.count ∙ c.bits.invariant.count;
      others = λ k ne. put.others k (λ e. ne (omega (arith, e, lowest.0))) ∙ c.bits.invariant.others k ne;
      done = λ j lt z inside. elim (eq_or j i) as (λ _. kind_at new (64 * w + j) ≡ weakened (kind_of_mark (mark_in c.args.bits j)) (bit_at c.args.weak j)) [
        | inl e ↦ ap (λ (x : ℕ). kind_at new (64 * w + x)) e ∙ put.here (omega (arith, inside, c.bits.invariant.count, e))
            ∙ c.weakened-kind.ensures ∙ ap₂ (λ (t : Kind) (b : ℕ). weakened t b) (c.kind_of_mark.ensures ∙ ap kind_of_mark c.mark_in.ensures) c.bit_in.ensures
            ∙ ap (λ (x : ℕ). weakened (kind_of_mark (mark_in c.args.bits x)) (bit_at c.args.weak x)) (sym e)
        | inr ne ↦ put.others (64 * w + j) (λ e. ne (omega (arith, e))) ∙ c.bits.invariant.done j lt (sym (c.without_bit-rest.ensures.others j lt ne) ∙ z) inside
      ];
    }

-- numbers with different bits are two
other : (m n i : ℕ) → bit_at m i ≡ 0 → bit_at n i ≡ 1 → m ≢ n
other m n i clear set = λ e. let bits : 0 ≡ 1 = sym clear ∙ ap (λ (x : ℕ). bit_at x i) e ∙ set in absurd (omega (arith, bits))

pub bits-smaller : goal.bits-smaller
bits-smaller c =
    let i = trailing_zeros w64 c.bits.rest in
    let lowest = bit_at-trailing_zeros w64 c.bits.rest (omega (arith, c.bits-test.true)) c.bits.invariant.fits in
    omega (arith, c.without_bit-rest.ensures.less, other c.without_bit-rest.result c.bits.rest i c.without_bit-rest.ensures.clear lowest.1)

pub returns : goal.returns
returns c = record {
  count = c.bits.invariant.count;
  here = λ i lt inside. c.bits.invariant.done i lt (ap (λ (n : ℕ). bit_at n i) c.bits-test.false ∙ bit_at-zero i) inside;
  others = c.bits.invariant.others;
}
