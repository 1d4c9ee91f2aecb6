-- What holds of marks by words of 64 bits, coordinate by coordinate.
use Rattle.crn_sign.proofs.Prelude.{◌≡◌, ◌≢◌, ℕ, zero, suc, ◌+◌, ◌*◌, ◌/◌, ◌%◌, ◌<◌, ◌≤◌, min, max, inl, inr, List, length, set, refl, sym, ap, subst, ◌∙◌, arith, pos, negsuc, ◌≤ℤ◌, bit_at, ints, bit_at-zero, length-set, get_or-set_same, get_or-set_other, MayWeigh, one_if, eq_or, below_two, weigh_zero, positive_some, Bits, Asked, Mark, Zero, Plus, Minus, Any, IsPut, bit_of, weakened, word_of, IsMarked, mark_at, mark_in, mark_of, none, word_at, Suits, united, kind_of_mark, laid, negative, Counts, Weighs}
use Rattle.std.specs.Prelude.{ℤ}

-- ---- four bits

-- what holds of a bit of 0 and of one of 1
two_bits : (P : ℕ → ℕ → Type 0) → P 0 0 → P 0 1 → P 1 0 → P 1 1 → (a b : ℕ) → a < 2 → b < 2 → P a b
two_bits P p q r s a b la lb = below_two (λ (n : ℕ). P n b) (below_two (P 0) p q b lb) (below_two (P 1) r s b lb) a la

-- the bit of `one | ((other | some) ^ some)`, where some is where one has a bit of either sign
abbrev pub over : ℕ → ℕ → ℕ → ℕ
over here some other = max here ((max other some + some) % 2)

abbrev LaysOver : ℕ → ℕ → ℕ → ℕ → Type 0
LaysOver a b c d = mark_of (over a (max a b) c) (over b (max a b) d) ≡ laid (mark_of a b) (mark_of c d)

pub lays_over : (a b c d : ℕ) → a < 2 → b < 2 → c < 2 → d < 2 → LaysOver a b c d
lays_over a b c d la lb lc ld = two_bits (λ (x y : ℕ). LaysOver x y c d)
    (two_bits (LaysOver 0 0) refl refl refl refl c d lc ld) (two_bits (LaysOver 0 1) refl refl refl refl c d lc ld)
    (two_bits (LaysOver 1 0) refl refl refl refl c d lc ld) (two_bits (LaysOver 1 1) refl refl refl refl c d lc ld) a b la lb

abbrev Joins : ℕ → ℕ → ℕ → ℕ → Type 0
Joins a b c d = mark_of (max a c) (max b d) ≡ united (mark_of a b) (mark_of c d)

pub joins : (a b c d : ℕ) → a < 2 → b < 2 → c < 2 → d < 2 → Joins a b c d
joins a b c d la lb lc ld = two_bits (λ (x y : ℕ). Joins x y c d)
    (two_bits (Joins 0 0) refl refl refl refl c d lc ld) (two_bits (Joins 0 1) refl refl refl refl c d lc ld)
    (two_bits (Joins 1 0) refl refl refl refl c d lc ld) (two_bits (Joins 1 1) refl refl refl refl c d lc ld) a b la lb

-- the bit that says that a mark of bits c and d is not what those of a and b require, weakly if e is set
abbrev pub misfit : ℕ → ℕ → ℕ → ℕ → ℕ → ℕ
misfit a b e c d =
    let eased = (max e (max b d) + max b d) % 2 in
    (max (min (max (((max a b + b) % 2 + c) % 2) (((max a b + a) % 2 + d) % 2)) (max a b)) eased + eased) % 2

abbrev Fits : ℕ → ℕ → ℕ → ℕ → ℕ → Type 0
Fits a b e c d = misfit a b e c d ≡ 0 → Suits (weakened (kind_of_mark (mark_of a b)) e) (mark_of c d)

-- one bit is not the other
bad : (X : Type 0) → suc zero ≡ zero → X
bad X e = absurd (omega (arith, e))

zero_least : (x : ℤ) → x ≡ pos 0 → pos 0 ≤ℤ x
zero_least x h = omega (arith, ints, h)

above_zero : (x : ℤ) → pos 1 ≤ℤ x → pos 0 ≤ℤ x
above_zero x h = omega (arith, ints, h)

below_zero : (x : ℤ) → x ≤ℤ negsuc 0 → x ≤ℤ pos 0
below_zero x h = omega (arith, ints, h)

neg_fits : (e c d : ℕ) → e < 2 → c < 2 → d < 2 → Fits 0 1 e c d
neg_fits e c d le lc ld = below_two (λ (n : ℕ). Fits 0 1 n c d)
    (two_bits (Fits 0 1 0) (bad _) (λ z x h. h) (bad _) (bad _) c d lc ld)
    (two_bits (Fits 0 1 1) (bad _) (λ z x h. h) (bad _) (bad _) c d lc ld) e le

pos_fits : (e c d : ℕ) → e < 2 → c < 2 → d < 2 → Fits 1 0 e c d
pos_fits e c d le lc ld = below_two (λ (n : ℕ). Fits 1 0 n c d)
    (two_bits (Fits 1 0 0) (bad _) (bad _) (λ z x h. h) (bad _) c d lc ld)
    (two_bits (Fits 1 0 1) (λ z. zero_least) (bad _) (λ z. above_zero) (bad _) c d lc ld) e le

zero_fits : (e c d : ℕ) → e < 2 → c < 2 → d < 2 → Fits 1 1 e c d
zero_fits e c d le lc ld = below_two (λ (n : ℕ). Fits 1 1 n c d)
    (two_bits (Fits 1 1 0) (λ z x h. h) (bad _) (bad _) (bad _) c d lc ld)
    (two_bits (Fits 1 1 1) (λ z x h. h) (bad _) (bad _) (bad _) c d lc ld) e le

pub fits : (a b e c d : ℕ) → a < 2 → b < 2 → e < 2 → c < 2 → d < 2 → Fits a b e c d
fits a b e c d la lb le lc ld = two_bits (λ (x y : ℕ). Fits x y e c d) (λ z x h. tt) (neg_fits e c d le lc ld) (pos_fits e c d le lc ld) (zero_fits e c d le lc ld) a b la lb

-- bits that do not differ
pub same_bits : (a b : ℕ) → a < 2 → b < 2 → (a + b) % 2 ≡ 0 → a ≡ b
same_bits = two_bits (λ (x y : ℕ). (x + y) % 2 ≡ 0 → x ≡ y) (λ e. refl) (bad _) (bad _) (λ e. refl)

-- neither bit is set
pub neither : (x y : ℕ) → max x y ≡ 0 → (x ≡ 0) × (y ≡ 0)
neither zero zero e = (refl, refl)
neither zero (suc y) e = absurd (omega (arith, e))
neither (suc x) zero e = absurd (omega (arith, e))
neither (suc x) (suc y) e = absurd (omega (arith, e))

-- ---- words, one after another

-- the marks of the words before w are made by f, and the rest are still the old ones
pub record IsMade (f : Mark → Mark → Mark) (one old marks : List Bits) (w : ℕ) : Type 0 where
  pub count : length marks ≡ length old
  pub done : (k : ℕ) → k < w * 64 → mark_at marks k ≡ f (mark_at one k) (mark_at old k)
  pub rest : (v : ℕ) → w ≤ v → word_at marks v ≡ word_at old v

pub made_none : (f : Mark → Mark → Mark) (one old : List Bits) → IsMade f one old old 0
made_none f one old = record { count = refl; done = λ k lt. absurd (omega (arith, lt)); rest = λ v le. refl }

pub made_step : (f : Mark → Mark → Mark) (one old marks : List Bits) (w : ℕ) (x : Bits) → w < length old → ((i : ℕ) → mark_in x i ≡ f (mark_in (word_at one w) i) (mark_in (word_at marks w) i)) → IsMade f one old marks w → IsMade f one old (set marks w x) (w + 1)
made_step f one old marks w x lt is h = record {
  count = length-set marks w x ∙ h.count;
  done = λ k k_lt. elim (eq_or (k / 64) w) as (λ _. mark_at (set marks w x) k ≡ f (mark_at one k) (mark_at old k)) [
    | inl e ↦
        let i = k % 64 in
        ap (λ (v : ℕ). mark_in (word_at (set marks w x) v) i) e
        ∙ ap (λ (b : Bits). mark_in b i) (get_or-set_same marks w x none (omega (arith, lt, h.count)))
        ∙ is i
        ∙ ap (λ (b : Bits). f (mark_in (word_at one w) i) (mark_in b i)) (h.rest w (omega arith))
        ∙ ap (λ (v : ℕ). f (mark_in (word_at one v) i) (mark_in (word_at old v) i)) (sym e)
    | inr ne ↦ ap (λ (b : Bits). mark_in b (k % 64)) (get_or-set_other marks w (k / 64) x none ne) ∙ h.done k (omega (arith, k_lt, ne))
  ];
  rest = λ v le. get_or-set_other marks w v x none (λ e. omega (arith, le, e)) ∙ h.rest v (omega (arith, le));
}

-- the mark of coordinate k put
pub marked : (old : List Bits) (k : ℕ) (x : Bits) (m : Mark) → k < length old * 64 → mark_in x (k % 64) ≡ m
    → ((j : ℕ) → j < 64 → j ≢ k % 64 → mark_in x j ≡ mark_in (word_at old (k / 64)) j) → IsMarked old k m (set old (k / 64) x)
marked old k x m lt here others =
    let w = k / 64 in
    let inside : w < length old = omega (arith, lt) in
    let same : word_at (set old w x) w ≡ x = get_or-set_same old w x none inside in
    record {
      count = length-set old w x;
      here = ap (λ (b : Bits). mark_in b (k % 64)) same ∙ here;
      others = λ j ne. elim (eq_or (j / 64) w) as (λ _. mark_at (set old w x) j ≡ mark_at old j) [
        | inl e ↦
            let i = j % 64 in
            ap (λ (v : ℕ). mark_in (word_at (set old w x) v) i) e ∙ ap (λ (b : Bits). mark_in b i) same
            ∙ others i (omega arith) (λ d. ne (omega (arith, e, d)))
            ∙ ap (λ (v : ℕ). mark_in (word_at old v) i) (sym e)
        | inr apart ↦ ap (λ (b : Bits). mark_in b (j % 64)) (get_or-set_other old w (j / 64) x none apart)
      ];
    }

-- one bit put leaves the others
put_others : (f : Bits → ℕ) (old : List Bits) (k j : ℕ) (x : Bits) → k < length old * 64 → ((i : ℕ) → i < 64 → i ≢ k % 64 → bit_at (f x) i ≡ bit_at (f (word_at old (k / 64))) i)
    → j ≢ k → bit_at (f (word_at (set old (k / 64) x) (j / 64))) (j % 64) ≡ bit_at (f (word_at old (j / 64))) (j % 64)
put_others f old k j x lt others ne =
    let w = k / 64 in
    let inside : w < length old = omega (arith, lt) in
    elim (eq_or (j / 64) w) as (λ _. bit_at (f (word_at (set old w x) (j / 64))) (j % 64) ≡ bit_at (f (word_at old (j / 64))) (j % 64)) [
      | inl e ↦
          let i = j % 64 in
          ap (λ (v : ℕ). bit_at (f (word_at (set old w x) v)) i) e ∙ ap (λ (b : Bits). bit_at (f b) i) (get_or-set_same old w x none inside)
          ∙ others i (omega arith) (λ d. ne (omega (arith, e, d)))
          ∙ ap (λ (v : ℕ). bit_at (f (word_at old v)) i) (sym e)
      | inr apart ↦ ap (λ (b : Bits). bit_at (f b) (j % 64)) (get_or-set_other old w (j / 64) x none apart)
    ]

-- the bits of coordinate k put
pub bits_put : (old : List Bits) (k : ℕ) (x : Bits) (asked : Asked) → k < length old * 64 → bit_at x.plus (k % 64) ≡ one_if asked.plus → bit_at x.minus (k % 64) ≡ one_if asked.minus
    → ((j : ℕ) → j < 64 → j ≢ k % 64 → (bit_at x.plus j ≡ bit_at (word_at old (k / 64)).plus j) × (bit_at x.minus j ≡ bit_at (word_at old (k / 64)).minus j)) → IsPut old k asked (set old (k / 64) x)
bits_put old k x asked lt plus minus others =
    let same = get_or-set_same old (k / 64) x none (omega (arith, lt)) in
    record {
      count = length-set old (k / 64) x;
      plus = ap (λ (b : Bits). bit_at b.plus (k % 64)) same ∙ plus;
      minus = ap (λ (b : Bits). bit_at b.minus (k % 64)) same ∙ minus;
      other_plus = λ j ne. put_others (λ b. b.plus) old k j x lt (λ i i_lt apart. (others i i_lt apart).0) ne;
      other_minus = λ j ne. put_others (λ b. b.minus) old k j x lt (λ i i_lt apart. (others i i_lt apart).1) ne;
    }

-- a word of bits put
pub word_put : (old : List ℕ) (k x : ℕ) → k < length old * 64 → bit_at x (k % 64) ≡ 1 → bit_of (set old (k / 64) x) k ≡ 1
word_put old k x lt here = ap (λ (b : ℕ). bit_at b (k % 64)) (get_or-set_same old (k / 64) x 0 (omega (arith, lt))) ∙ here

pub other_bits : (old : List ℕ) (k x : ℕ) → k < length old * 64 → ((i : ℕ) → i < 64 → i ≢ k % 64 → bit_at x i ≡ bit_at (word_of old (k / 64)) i) → (j : ℕ) → j ≢ k → bit_of (set old (k / 64) x) j ≡ bit_of old j
other_bits old k x lt others j ne =
    let w = k / 64 in
    let inside : w < length old = omega (arith, lt) in
    elim (eq_or (j / 64) w) as (λ _. bit_of (set old w x) j ≡ bit_of old j) [
      | inl e ↦
          let i = j % 64 in
          ap (λ (v : ℕ). bit_at (word_of (set old w x) v) i) e ∙ ap (λ (b : ℕ). bit_at b i) (get_or-set_same old w x 0 inside)
          ∙ others i (omega arith) (λ d. ne (omega (arith, e, d)))
          ∙ ap (λ (v : ℕ). bit_at (word_of old v) i) (sym e)
      | inr apart ↦ ap (λ (b : ℕ). bit_at b (j % 64)) (get_or-set_other old w (j / 64) x 0 apart)
    ]

pub none_in : (i : ℕ) → mark_in none i ≡ Zero
none_in i = simp bit_at-zero

abbrev Swaps : ℕ → ℕ → Type 0
Swaps a b = mark_of b a ≡ negative (mark_of a b)

pub swaps : (a b : ℕ) → a < 2 → b < 2 → Swaps a b
swaps = two_bits Swaps refl refl refl refl

-- ---- what may be weighed

-- the bit that says that a number of a mark of bits c and d may not be weighed where a and b ask
abbrev pub refusal : ℕ → ℕ → ℕ → ℕ → ℕ
refusal a b c d = max ((max c a + a) % 2) ((max d b + b) % 2)

abbrev Weighed : ℕ → ℕ → ℕ → ℕ → Type 0
Weighed a b c d = refusal a b c d ≡ 0 → Weighs (mark_of a b) (mark_of c d)

zero_weighs : (m : Mark) (x : ℤ) → x ≡ pos 0 → MayWeigh (kind_of_mark m) x
zero_weighs m x e = subst (MayWeigh (kind_of_mark m)) (sym e) (weigh_zero (kind_of_mark m))

pub weighed : (a b c d : ℕ) → a < 2 → b < 2 → c < 2 → d < 2 → Weighed a b c d
weighed a b c d la lb lc ld = two_bits (λ (x y : ℕ). Weighed x y c d)
    (two_bits (Weighed 0 0) (λ e. zero_weighs Zero) (bad _) (bad _) (bad _) c d lc ld) (two_bits (Weighed 0 1) (λ e. zero_weighs Minus) (λ e. below_zero) (bad _) (bad _) c d lc ld)
    (two_bits (Weighed 1 0) (λ e. zero_weighs Plus) (bad _) (λ e. above_zero) (bad _) c d lc ld) (two_bits (Weighed 1 1) (λ e. zero_weighs Any) (λ e x h. tt) (λ e x h. tt) (λ e x h. tt) c d lc ld) a b la lb

-- the bit that says that a sign is asked by a and b, not weakly by e, and that c and d are the mark of a sign
abbrev pub count_bit : ℕ → ℕ → ℕ → ℕ → ℕ → ℕ
count_bit a b e c d = (max (min ((c + d) % 2) ((a + b) % 2)) e + e) % 2

abbrev Counted : ℕ → ℕ → ℕ → ℕ → ℕ → Type 0
Counted a b e c d = count_bit a b e c d ≡ 1 → Counts (mark_of a b) e (mark_of c d)

minus_some : (x : ℤ) → x ≤ℤ negsuc 0 → x ≢ pos 0
minus_some x h e = omega (arith, ints, h, e)

low : (X : Type 0) → zero ≡ suc zero → X
low X e = absurd (omega (arith, e))

-- nothing counts where it is weak
weak_counted : (a b c d : ℕ) → a < 2 → b < 2 → c < 2 → d < 2 → Counted a b 1 c d
weak_counted a b c d la lb lc ld = two_bits (λ (x y : ℕ). Counted x y 1 c d)
    (two_bits (Counted 0 0 1) (low _) (low _) (low _) (low _) c d lc ld) (two_bits (Counted 0 1 1) (low _) (low _) (low _) (low _) c d lc ld)
    (two_bits (Counted 1 0 1) (low _) (low _) (low _) (low _) c d lc ld) (two_bits (Counted 1 1 1) (low _) (low _) (low _) (low _) c d lc ld) a b la lb

firm_counted : (a b c d : ℕ) → a < 2 → b < 2 → c < 2 → d < 2 → Counted a b 0 c d
firm_counted a b c d la lb lc ld = two_bits (λ (x y : ℕ). Counted x y 0 c d)
    (two_bits (Counted 0 0 0) (low _) (low _) (low _) (low _) c d lc ld)
    (two_bits (Counted 0 1 0) (low _) (λ e. record { signed = refl; some = minus_some }) (λ e. record { signed = refl; some = positive_some }) (low _) c d lc ld)
    (two_bits (Counted 1 0 0) (low _) (λ e. record { signed = refl; some = minus_some }) (λ e. record { signed = refl; some = positive_some }) (low _) c d lc ld)
    (two_bits (Counted 1 1 0) (low _) (low _) (low _) (low _) c d lc ld) a b la lb

pub counted : (a b e c d : ℕ) → a < 2 → b < 2 → e < 2 → c < 2 → d < 2 → Counted a b e c d
counted a b e c d la lb le lc ld = below_two (λ (n : ℕ). Counted a b n c d) (firm_counted a b c d la lb lc ld) (weak_counted a b c d la lb lc ld) e le
