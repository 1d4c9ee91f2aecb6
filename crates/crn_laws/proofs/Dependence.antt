-- The reactions of a weakly reversible network lie on closed walks, whose reactions add up to zero.
use Rattle.crn_laws.proofs.Prelude.{◌≡◌, ℕ, zero, suc, ◌<◌, ◌≤◌, inl, inr, List, [], ◌∷◌, length, get_or, refl, sym, subst, ◌∙◌, arith, ℤ, pos, ◌+ℤ◌, ◌-ℤ◌, ◌≤ℤ◌, ints, entry, column, IsWeaklyReversible, ReactsTo, Reaches, all_given, below_or, at_in, class_link, distrib-right, entry-plus, entry-zeros, gain, gain_made, leads_keeps, length-plus, length-zeros, place_of, plus, zeros, WeaklyReversibleAreDependent}
use lib.IntN.{zero-*ℤ}

-- multiples of the reactions, none negative, that take a weight from y to z
pub record Carries (rs : List (ℕ × ℕ)) (y z : ℕ) : Type 0 where
  pub times : List ℤ
  pub long : length times ≡ length rs
  pub up : (k : ℕ) → pos 0 ≤ℤ entry times k
  pub is : (m : ℕ → ℤ) → gain rs times m ≡ m z -ℤ m y

gain_zeros : (rs : List (ℕ × ℕ)) (m : ℕ → ℤ) → gain rs (zeros (length rs)) m ≡ pos 0
gain_zeros [] m = refl
gain_zeros (r ∷ rs) m = omega (arith, ints, zero-*ℤ (m r.1 -ℤ m r.0), gain_zeros rs m)

gain_plus : (rs : List (ℕ × ℕ)) (a b : List ℤ) (m : ℕ → ℤ) → length a ≡ length rs → length b ≡ length rs → gain rs (plus a b) m ≡ gain rs a m +ℤ gain rs b m
gain_plus [] [] b m h g = refl
gain_plus [] (x ∷ a) b m h g = absurd (omega (arith, h))
gain_plus (r ∷ rs) [] b m h g = absurd (omega (arith, h))
gain_plus (r ∷ rs) (x ∷ a) [] m h g = absurd (omega (arith, g))
gain_plus (r ∷ rs) (x ∷ a) (y ∷ b) m h g =
    omega (arith, ints, distrib-right x y (m r.1 -ℤ m r.0), gain_plus rs a b m (omega (arith, h)) (omega (arith, g)))

zeros_up : (n k : ℕ) → pos 0 ≤ℤ entry (zeros n) k
zeros_up n k = omega (arith, ints, entry-zeros n k)

carries_none : (rs : List (ℕ × ℕ)) (y : ℕ) → Carries rs y y
carries_none rs y = record {
  times = zeros (length rs);
  long = length-zeros (length rs);
  up = zeros_up (length rs);
  is = λ m. omega (arith, ints, gain_zeros rs m);
}

carries_both : (rs : List (ℕ × ℕ)) (x y z : ℕ) → Carries rs x y → Carries rs y z → Carries rs x z
carries_both rs x y z p q =
    let same : length p.times ≡ length q.times = p.long ∙ sym q.long in
    record {
      times = plus p.times q.times;
      long = length-plus p.times q.times same ∙ p.long;
      up = λ k. omega (arith, ints, entry-plus p.times q.times k same, p.up k, q.up k);
      is = λ m. omega (arith, ints, gain_plus rs p.times q.times m p.long q.long, p.is m, q.is m);
    }

-- the reaction at a place, once
pub record Once (rs : List (ℕ × ℕ)) (n : ℕ) : Type 0 where
  pub carries : Carries rs (get_or rs n (0, 0)).0 (get_or rs n (0, 0)).1
  pub some : pos 1 ≤ℤ entry carries.times n

once : (rs : List (ℕ × ℕ)) (n : ℕ) → n < length rs → Once rs n
once [] n lt = absurd (omega (arith, lt))
once (r ∷ rs) zero lt = record {
  carries = record {
    times = pos 1 ∷ zeros (length rs);
    long = omega (arith, length-zeros (length rs));
    up = λ k. first_up (pos 1) (zeros (length rs)) (omega (arith, ints)) (zeros_up (length rs)) k;
    is = λ m. omega (arith, ints, gain_zeros rs m);
  };
  some = omega (arith, ints);
}
  where
    first_up : (x : ℤ) (xs : List ℤ) → pos 0 ≤ℤ x → ((k : ℕ) → pos 0 ≤ℤ entry xs k) → (k : ℕ) → pos 0 ≤ℤ entry (x ∷ xs) k
    first_up x xs h g zero = h
    first_up x xs h g (suc k) = g k
once (r ∷ rs) (suc n) lt =
    let o = once rs n (omega (arith, lt)) in
    record {
      carries = record {
        times = pos 0 ∷ o.carries.times;
        long = omega (arith, o.carries.long);
        up = λ k. next_up o.carries.times o.carries.up k;
        is = λ m. omega (arith, ints, zero-*ℤ (m r.1 -ℤ m r.0), o.carries.is m);
      };
      some = o.some;
    }
  where
    next_up : (xs : List ℤ) → ((k : ℕ) → pos 0 ≤ℤ entry xs k) → (k : ℕ) → pos 0 ≤ℤ entry (pos 0 ∷ xs) k
    next_up xs g zero = omega (arith, ints)
    next_up xs g (suc k) = g k

carries_step : (rs : List (ℕ × ℕ)) (y z : ℕ) → ReactsTo rs y z → Carries rs y z
carries_step rs y z i =
    let p = place_of (y, z) rs i in
    subst (λ (r : ℕ × ℕ). Carries rs r.0 r.1) p.2 (once rs p.0 p.1).carries

carries_along : (rs : List (ℕ × ℕ)) (y z : ℕ) → Reaches rs y z → Carries rs y z
carries_along rs y z walk = leads_keeps (ReactsTo rs) (Carries rs y) (λ v w i p. carries_both rs y v w p (carries_step rs v w i)) y z walk (carries_none rs y)

-- multiples that add up to nothing, positive at the first n reactions
pub record Circles (rs : List (ℕ × ℕ)) (n : ℕ) : Type 0 where
  pub carries : Carries rs 0 0
  pub some : (k : ℕ) → k < n → pos 1 ≤ℤ entry carries.times k

circles : (rs : List (ℕ × ℕ)) → IsWeaklyReversible rs → (n : ℕ) → n ≤ length rs → Circles rs n
circles rs weak zero le = record { carries = carries_none rs 0; some = λ k lt. absurd (omega (arith, lt)) }
circles rs weak (suc n) le =
    let before = circles rs weak n (omega (arith, le)) in
    let lt : n < length rs = omega (arith, le) in
    let r = get_or rs n (0, 0) in
    let o = once rs n lt in
    let back : Carries rs r.1 r.0 = carries_along rs r.1 r.0 (weak r.0 r.1 (class_link rs r.0 r.1 (inl (at_in rs n (0, 0) lt)))).1 in
    let a = before.carries.times in
    let b = plus o.carries.times back.times in
    let same : length o.carries.times ≡ length back.times = o.carries.long ∙ sym back.long in
    let b_long : length b ≡ length rs = length-plus o.carries.times back.times same ∙ o.carries.long in
    let both : length a ≡ length b = before.carries.long ∙ sym b_long in
    let at : (k : ℕ) → entry (plus a b) k ≡ entry a k +ℤ (entry o.carries.times k +ℤ entry back.times k) = λ k.
    omega (arith, ints, entry-plus a b k both, entry-plus o.carries.times back.times k same) in
    record {
      carries = record {
        times = plus a b;
        long = length-plus a b both ∙ before.carries.long;
        up = λ k. omega (arith, ints, at k, before.carries.up k, o.carries.up k, back.up k);
        is = λ m. omega (arith, ints, gain_plus rs a b m before.carries.long b_long, gain_plus rs o.carries.times back.times m o.carries.long back.long, before.carries.is m, o.carries.is m, back.is m);
      };
      some = λ k lt. elim (below_or k n lt) as (λ _. pos 1 ≤ℤ entry (plus a b) k) [
        | inl less ↦ omega (arith, ints, at k, before.some k less, o.carries.up k, back.up k)
        | inr e ↦
            let here : pos 1 ≤ℤ entry o.carries.times k = subst (λ (j : ℕ). pos 1 ≤ℤ entry o.carries.times j) (sym e) o.some in
            omega (arith, ints, at k, before.carries.up k, here, back.up k)
      ];
    }

pub weakly_reversible_are_dependent : WeaklyReversibleAreDependent
weakly_reversible_are_dependent net n weak =
    let rs = net.reactions in
    let all = circles rs weak (length rs) (omega arith) in
    let a = all.carries.times in (
      a,
      record {
        long = all.carries.long;
        positive = all_given (λ x. pos 1 ≤ℤ x) a (pos 0) (λ k lt. all.some k (omega (arith, lt, all.carries.long)));
        zero_sum = λ s. omega (arith, ints, gain_made net (length net.names) rs a s n.partial.vectors n.partial.apart, all.carries.is (entry (column net.complexes s)));
      },
    )
