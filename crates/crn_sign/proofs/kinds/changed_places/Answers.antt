use Rattle.crn_sign.proofs.Prelude.{◌≡◌, ℕ, ◌+◌, ◌%◌, max, ap₂, bit_at, bit_at-lt, bit_at_or, bit_at_xor, mark_of}
use Rattle.crn_sign.proofs.BitLaws.{same_bits, neither}
use Rattle.crn_sign.proofs.kinds.changed_places.Goals as goal

-- where none of three pairs of words differ
same_there : (p q m n v w i : ℕ) → max (max ((bit_at p i + bit_at q i) % 2) ((bit_at m i + bit_at n i) % 2)) ((bit_at v i + bit_at w i) % 2) ≡ 0
    → (bit_at p i ≡ bit_at q i) × (bit_at m i ≡ bit_at n i) × (bit_at v i ≡ bit_at w i)
same_there p q m n v w i e =
    let last = neither (max ((bit_at p i + bit_at q i) % 2) ((bit_at m i + bit_at n i) % 2)) ((bit_at v i + bit_at w i) % 2) e in
    let two = neither ((bit_at p i + bit_at q i) % 2) ((bit_at m i + bit_at n i) % 2) last.0 in (
      same_bits (bit_at p i) (bit_at q i) (bit_at-lt p i) (bit_at-lt q i) two.0,
      same_bits (bit_at m i) (bit_at n i) (bit_at-lt m i) (bit_at-lt n i) two.1,
      same_bits (bit_at v i) (bit_at w i) (bit_at-lt v i) (bit_at-lt w i) last.1,
    )

pub returns : goal.returns
returns c =
    let was = c.args.was in
    let bits = c.args.bits in
    record {
      marks = λ i e. (let h = same_there was.plus bits.plus was.minus bits.minus c.args.weak_was c.args.weak i (simp (bit_at_or, bit_at_xor) at e) in ap₂ mark_of h.0 h.1);
      weak = λ i e. (same_there was.plus bits.plus was.minus bits.minus c.args.weak_was c.args.weak i (simp (bit_at_or, bit_at_xor) at e)).2;
    }
