-- Digits and numbers at the start of a line's bytes: what is read there is what the bytes before the first space spell.
use Rattle.crn_ctext.proofs.Prelude.{◌≡◌, ◌⊎◌, ◌≤◌, ◌<◌, ◌+◌, ◌-◌, ◌*◌, ◌++◌, ℕ, zero, suc, true, false, List, [], ◌∷◌, length, take, drop, get_or, min, refl, sym, ap, subst, ◌∙◌, inl, inr, add-one, arith, to_z, of_z, ℤ, pos, negsuc, neg_ℤ, ◌≤ℤ◌, ◌<ℤ◌, ◌-ℤ◌, nat_lt, w128, digit_value, AllDigits, digits_value, le-ltb, lt-ltb, nat_tests, ints, digits_more, digits_value_more, append-nil, drop_all, WIDE_SOLUTION, value_grows, IsNatural, IsSpelled, IsWord, BeginsWith, HasDigits, EndsAt, capped, HasNatural, HasNoNatural, HasNumber, HasNoNumber, IsTail}
use Rattle.std.proofs.Common.{◌≢◌}
use Rattle.std.specs.Prelude.{◌^◌}

-- ---- digits

-- the value of a decimal digit
digit_is : (d : ℕ) → 48 ≤ d → d ≤ 57 → digit_value d ≡ d - 48
digit_is d low high =
    let a : nat_lt d 48 ≡ false = le-ltb d 48 low in
    let b : nat_lt d 58 ≡ true = lt-ltb d 58 (omega (arith, high)) in
    rw (a, b) refl

digit_low : (c : ℕ) → digit_value c < 10 → 48 ≤ c
digit_low c lt = grind (arith, nat_tests)

digit_high : (c : ℕ) → digit_value c < 10 → c ≤ 57
digit_high c lt = grind (arith, nat_tests)

pub all_digits_more : (bs : List ℕ) (i : ℕ) → i < length bs → AllDigits 10 (take i bs) → 48 ≤ get_or bs i 0 → get_or bs i 0 ≤ 57 → AllDigits 10 (take (i + 1) bs)
all_digits_more bs i lt h low high =
    let x = digit_is (get_or bs i 0) low high in
    digits_more 10 bs i lt h (omega (arith, x))

pub value_more : (bs : List ℕ) (i v d w : ℕ) → i < length bs → v ≡ min (digits_value 10 (take i bs)) WIDE_SOLUTION → 48 ≤ get_or bs i 0 → get_or bs i 0 ≤ 57
    → d ≡ get_or bs i 0 - 48 → w ≡ min (v * 10 + d) WIDE_SOLUTION → w ≡ min (digits_value 10 (take (i + 1) bs)) WIDE_SOLUTION
value_more bs i v d w lt e low high is h =
    let v2 = digits_value_more 10 bs i lt in
    let x = digit_is (get_or bs i 0) low high in
    omega arith

pub digits_value_next : (bs : List ℕ) (i v d : ℕ) → i < length bs → v ≡ digits_value 10 (take i bs) → 48 ≤ get_or bs i 0 → get_or bs i 0 ≤ 57 → d ≡ get_or bs i 0 - 48
    → v * 10 + d ≡ digits_value 10 (take (i + 1) bs)
digits_value_next bs i v d lt e low high is =
    let v2 = digits_value_more 10 bs i lt in
    let x = digit_is (get_or bs i 0) low high in
    omega arith

pub no_digit : (c : ℕ) → (c < 48) ⊎ (57 < c) → digit_value c < 10 → ⊥
no_digit c (inl lt) h = let ge = digit_low c h in omega (arith, lt, ge)
no_digit c (inr gt) h = let le = digit_high c h in omega (arith, gt, le)

-- ---- words before a space

pub tail_at : (bytes : List ℕ) (n : ℕ) → EndsAt bytes n → IsTail (drop n bytes)
tail_at [] n e = inl (drop_all n [] (omega arith))
tail_at (b ∷ bs) zero e = inr (bs, ap (λ x. x ∷ bs) (e (omega arith)))
tail_at (b ∷ bs) (suc n) e = tail_at bs n (λ lt. e (omega (arith, lt)))

pub begins_tail : (bytes word : List ℕ) → BeginsWith bytes word → (left : List ℕ) × (bytes ≡ word ++ left) × IsTail left
begins_tail bytes word (w, inl all) = ([], all ∙ sym (append-nil word), inl refl)
begins_tail bytes word (w, inr rest) = (32 ∷ rest.0, rest.1, inr (rest.0, refl))

pub tail_begins : (bytes word left : List ℕ) → IsWord word → bytes ≡ word ++ left → IsTail left → BeginsWith bytes word
tail_begins bytes word left w e (inl none) = (w, inl (e ∙ ap (λ t. word ++ t) none ∙ append-nil word))
tail_begins bytes word left w e (inr more) = (w, inr (more.0, e ∙ ap (λ t. word ++ t) more.1))

-- two words before a space are one
pub words_one : (v w s t : List ℕ) → IsWord v → IsWord w → IsTail s → IsTail t → v ++ s ≡ w ++ t → (v ≡ w) × (s ≡ t)
words_one [] [] s t a b p q e = (refl, e)
words_one [] (x ∷ w) s t a b (inl none) q e = absurd (let h : [] ≡ x ∷ (w ++ t) = sym none ∙ e in cc)
words_one [] (x ∷ w) s t a b (inr more) q e = absurd (let h : 32 ∷ more.0 ≡ x ∷ (w ++ t) = sym more.1 ∙ e in let same : x ≡ 32 = cc in b.0 same)
words_one (x ∷ v) [] s t a b p (inl none) e = absurd (let h : x ∷ (v ++ s) ≡ [] = e ∙ none in cc)
words_one (x ∷ v) [] s t a b p (inr more) e = absurd (let h : x ∷ (v ++ s) ≡ 32 ∷ more.0 = e ∙ more.1 in let same : x ≡ 32 = cc in a.0 same)
words_one (x ∷ v) (y ∷ w) s t a b p q e =
    let same : x ≡ y = cc in
    let more = words_one v w s t a.1 b.1 p q cc in
    (ap (λ k. k ∷ v) same ∙ ap (λ l. y ∷ l) more.0, more.1)

digits_word : (ds : List ℕ) → AllDigits 10 ds → IsWord ds
digits_word [] h = tt
digits_word (c ∷ cs) h = ((λ e. let lt : digit_value 32 < 10 = subst (λ x. digit_value x < 10) e h.0 in omega (arith, lt)), digits_word cs h.1)

-- no space is in a number
pub spelled_is_word : (text : List ℕ) (z : ℤ) → IsSpelled text z → IsWord text
spelled_is_word text (pos zero) p = subst IsWord (sym p) ((λ e. let h : 48 ≡ 32 = e in omega (arith, h)), tt)
spelled_is_word text (pos (suc n)) p = let d = p.digits in digits_word text d.1
spelled_is_word text (negsuc n) p = let d = p.2.digits in subst IsWord (sym p.1) ((λ e. let h : 45 ≡ 32 = e in omega (arith, h)), digits_word p.0 d.1)

-- ---- natural numbers

-- the first byte of a number is the first byte of the bytes
first_byte : (bytes word left : List ℕ) → 0 < length word → bytes ≡ word ++ left → get_or word 0 0 ≡ get_or bytes 0 0
first_byte bytes [] left lt e = absurd (omega (arith, lt))
first_byte bytes (x ∷ word) left lt e = ap (λ (t : List ℕ). get_or t 0 0) (sym e)

-- digits before a space are all of the digits at the start
run_is : (word left : List ℕ) (n : ℕ) → AllDigits 10 word → IsTail left → n ≤ length (word ++ left) → AllDigits 10 (take n (word ++ left))
    → (n < length (word ++ left) → digit_value (get_or (word ++ left) n 0) < 10 → ⊥) → (word ≡ take n (word ++ left)) × EndsAt (word ++ left) n
run_is [] left zero d t le h stops = (refl, λ lt. elim t [ inl none ↦ absurd (let z : length left ≡ 0 = ap length none in omega (arith, lt, z)) | inr more ↦ ap (λ (l : List ℕ). get_or l 0 0) more.1 ])
run_is [] [] (suc n) d t le h stops = absurd (omega (arith, le))
run_is [] (b ∷ left) (suc n) d t le h stops = absurd (elim t [
  | inl none ↦ cc
  | inr more ↦ let same : b ≡ 32 = let e = more.1 in cc in let lt : digit_value 32 < 10 = subst (λ x. digit_value x < 10) same h.0 in omega (arith, lt)
])
run_is (c ∷ word) left zero d t le h stops = absurd (stops (omega arith) d.0)
run_is (c ∷ word) left (suc n) d t le h stops =
    let more = run_is word left n d.1 t (omega (arith, le)) h.1 (λ lt. stops (omega (arith, lt))) in
    (ap (λ l. c ∷ l) more.0, λ lt. more.1 (omega (arith, lt)))

natural_run : (bytes word : List ℕ) (value count n : ℕ) → HasDigits bytes value count → BeginsWith bytes word → IsNatural word n → (word ≡ take count bytes) × EndsAt bytes count
natural_run bytes word value count n h b p =
    let cut = begins_tail bytes word b in
    let d = p.digits in
    subst (λ t. (word ≡ take count t) × EndsAt t count) (sym cut.1) (run_is word cut.0 count d.1 cut.2
    (subst (λ (t : List ℕ). count ≤ length t) cut.1 h.within) (subst (λ t. AllDigits 10 (take count t)) cut.1 h.digits)
    (subst (λ t. count < length t → digit_value (get_or t count 0) < 10 → ⊥) cut.1 h.stops))

digits_positive : (ds : List ℕ) → 0 < length ds → AllDigits 10 ds → get_or ds 0 0 ≢ 48 → 0 < digits_value 10 ds
digits_positive [] lt d ne = absurd (omega (arith, lt))
digits_positive (c ∷ cs) lt d ne =
    let low = digit_low c d.0 in
    let is = digit_is c low (digit_high c d.0) in
    let above : 48 < c = omega (arith, low, ne) in
    let h = value_grows (0 * 10 + digit_value c) cs in
    omega (arith, h, is, above)

above_zero : (n : ℕ) → 0 < n → (m : ℕ) × (n ≡ suc m)
above_zero zero lt = absurd (omega (arith, lt))
above_zero (suc m) lt = (m, refl)

take_first : (bytes : List ℕ) (n : ℕ) → 0 < n → n ≤ length bytes → (0 < length (take n bytes)) × (get_or (take n bytes) 0 0 ≡ get_or bytes 0 0)
take_first [] zero lt le = absurd (omega (arith, lt))
take_first [] (suc n) lt le = absurd (omega (arith, le))
take_first (b ∷ bytes) zero lt le = absurd (omega (arith, lt))
take_first (b ∷ bytes) (suc n) lt le = (omega arith, refl)

pub natural_is : (bytes : List ℕ) (value count : ℕ) → HasDigits bytes value count → 0 < count → get_or bytes 0 0 ≢ 48 → EndsAt bytes count → HasNatural bytes value count
natural_is bytes value count h lt ne ends =
    let first = take_first bytes count lt h.within in
    let canon : get_or (take count bytes) 0 0 ≢ 48 = λ e. ne (sym first.1 ∙ e) in
    let m = above_zero (digits_value 10 (take count bytes)) (digits_positive (take count bytes) first.0 h.digits canon) in
    record {
      within = h.within;
      ends = ends;
      above = m.0;
      natural = record { digits = (first.0, h.digits); canonical = canon; value = m.1 };
      is = h.is ∙ ap (λ (n : ℕ). min n WIDE_SOLUTION) m.1;
    }

pub none_by_end : (bytes : List ℕ) (value count : ℕ) → HasDigits bytes value count → (EndsAt bytes count → ⊥) → HasNoNatural bytes
none_by_end bytes value count h none = λ word n b p. none (natural_run bytes word value count n h b p).1

-- ---- numbers

-- a number that begins with a zero is zero
pub zero_number : (bytes : List ℕ) → 0 < length bytes → get_or bytes 0 0 ≡ 48 → EndsAt bytes 1 → HasNumber bytes (pos 0) 1
zero_number [] lt e ends = absurd (omega (arith, lt))
zero_number (b ∷ bytes) lt e ends = record { within = omega arith; ends = ends; number = pos 0; spelled = ap (λ x. x ∷ []) e; is = refl }

-- a text of a number begins with a zero, a minus or a digit
begins_none : (bytes : List ℕ) → HasNoNatural bytes → (get_or bytes 0 0 ≡ 45 → (rest : List ℕ) → bytes ≡ 45 ∷ rest → HasNoNatural rest) → (get_or bytes 0 0 ≡ 48 → EndsAt bytes 1 → ⊥) → HasNoNumber bytes
begins_none bytes none minus nil word (pos zero) b p =
    let cut = begins_tail bytes word b in
    let all : bytes ≡ 48 ∷ cut.0 = cut.1 ∙ ap (λ t. t ++ cut.0) p in
    nil (ap (λ (t : List ℕ). get_or t 0 0) all) (subst (λ t. EndsAt t 1) (sym all) (λ lt. elim cut.2 [
      | inl nothing ↦ absurd (let z : length cut.0 ≡ 0 = ap length nothing in omega (arith, lt, z))
      | inr more ↦ ap (λ (t : List ℕ). get_or t 0 0) more.1
    ]))
begins_none bytes none minus nil word (pos (suc n)) b p = none word (suc n) b p
begins_none bytes none minus nil word (negsuc n) b p =
    let cut = begins_tail bytes word b in
    let all : bytes ≡ 45 ∷ (p.0 ++ cut.0) = cut.1 ∙ ap (λ t. t ++ cut.0) p.1 in
    let digits = (let d = p.2.digits in d.1) in
    minus (ap (λ (t : List ℕ). get_or t 0 0) all) (p.0 ++ cut.0) all p.0 (suc n) (tail_begins (p.0 ++ cut.0) p.0 cut.0 (digits_word p.0 digits) refl cut.2) p.2

-- a minus begins no natural number
minus_no_natural : (bytes : List ℕ) → get_or bytes 0 0 ≡ 45 → HasNoNatural bytes
minus_no_natural bytes e = λ word n b p.
    let cut = begins_tail bytes word b in
    let d = p.digits in
    let first = first_byte bytes word cut.0 d.0 cut.1 ∙ e in
    no_first word d.0 d.1 first
  where
    no_first : (word : List ℕ) → 0 < length word → AllDigits 10 word → get_or word 0 0 ≡ 45 → ⊥
    no_first [] lt d first = omega (arith, lt)
    no_first (c ∷ cs) lt d first = no_digit c (inl (omega (arith, first))) d.0

pub minus_none : (bytes : List ℕ) → get_or bytes 0 0 ≡ 45 → HasNoNatural (drop 1 bytes) → HasNoNumber bytes
minus_none bytes e none =
    begins_none bytes (minus_no_natural bytes e) (λ m rest is. subst HasNoNatural (ap (λ (t : List ℕ). drop 1 t) is) none) (λ z. absurd (omega (arith, e, z)))

-- a size that is held, as a signed number
held_is : (n : ℕ) → n ≤ WIDE_SOLUTION → to_z w128 n ≡ pos n
held_is n le = omega (arith, ints)

minus_is : (k : ℕ) → k < WIDE_SOLUTION → to_z w128 (of_z w128 (pos 0 -ℤ to_z w128 (suc k))) ≡ negsuc k
minus_is k lt = omega (arith, ints)

pub plain_number : (bytes : List ℕ) (size count : ℕ) → HasNatural bytes size count → HasNumber bytes (to_z w128 size) count
plain_number bytes size count h = record {
  within = h.within;
  ends = h.ends;
  number = pos (suc h.above);
  spelled = h.natural;
  is = held_is size (let e = h.is in omega (arith, e)) ∙ ap pos h.is;
}

pub minus_number : (bytes : List ℕ) (size count : ℕ) → 0 < length bytes → get_or bytes 0 0 ≡ 45 → HasNatural (drop 1 bytes) size count
    → HasNumber bytes (to_z w128 (of_z w128 (pos 0 -ℤ to_z w128 size))) (count + 1)
minus_number [] size count lt e h = absurd (omega (arith, lt))
minus_number (b ∷ bytes) size count lt e h =
    let k = min h.above (WIDE_SOLUTION - 1) in
    let is : size ≡ suc k = let e = h.is in omega (arith, e) in record {
      within = let w = h.within in omega (arith, w);
      ends = rw add-one (λ l. let ends = h.ends in ends (omega (arith, l)));
      number = negsuc h.above;
      spelled = rw add-one (take count bytes, ap (λ x. x ∷ take count bytes) e, h.natural);
      is = rw is (minus_is k (omega arith));
    }

fits : (z : ℤ) → neg_ℤ (pos (2 ^ 127)) ≤ℤ z → z <ℤ pos (2 ^ 127) → to_z w128 (of_z w128 z) ≡ z
fits z low high = omega (arith, ints)

-- a number that is held has 128 bits
pub held : (z v : ℤ) → v ≡ capped z → to_z w128 (of_z w128 v) ≡ v
held (pos n) v e = rw e (fits (pos (min n WIDE_SOLUTION)) (omega (arith, ints)) (omega (arith, ints)))
held (negsuc n) v e = rw e (fits (negsuc (min n (WIDE_SOLUTION - 1))) (omega (arith, ints)) (omega (arith, ints)))
