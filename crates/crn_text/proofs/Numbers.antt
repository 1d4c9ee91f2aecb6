-- The number that digits write, as far as it doesn't exceed a limit.
use Rattle.crn_text.proofs.Prelude.{◌≡◌, ℕ, zero, suc, ◌+◌, ◌-◌, ◌*◌, ◌<◌, ◌≤◌, ◌==◌, true, false, List, [], ◌∷◌, ◌++◌, length, get_or, take, drop, refl, sym, ap, ◌∙◌, inl, inr, arith, min, nat_le, nat_lt, digit_value, list_all, digits_value, digits_value_after, and_parts, leb-true, le-ltb, lt-ltb, eqb-true, eqb-false, cases_Bool, cases_lt, take-append-drop, length-drop, list_all-append, is_digit, LARGE}

-- the value of a decimal digit
pub digit_is_value : (d : ℕ) → is_digit d ≡ true → digit_value d ≡ d - 48
digit_is_value d h =
    let p = and_parts (nat_le 48 d) (nat_le d 57) h in
    let low : nat_lt d 48 ≡ false = le-ltb d 48 (leb-true 48 d p.0) in
    let high : nat_lt d 58 ≡ true = lt-ltb d 58 (let l = leb-true d 57 p.1 in omega (arith, l)) in
    rw (low, high) refl

digit_at : (ds : List ℕ) (i : ℕ) → list_all is_digit ds ≡ true → i < length ds → is_digit (get_or ds i 0) ≡ true
digit_at [] i h lt = absurd (omega arith)
digit_at (d ∷ ds) zero h lt = (and_parts (is_digit d) (list_all is_digit ds) h).0
digit_at (d ∷ ds) (suc i) h lt = digit_at ds i (and_parts (is_digit d) (list_all is_digit ds) h).1 (omega arith)

-- the value of one of these digits
pub value_at : (ds : List ℕ) (i : ℕ) → list_all is_digit ds ≡ true → i < length ds → digit_value (get_or ds i 0) ≡ get_or ds i 0 - 48
value_at ds i h lt = digit_is_value (get_or ds i 0) (digit_at ds i h lt)

-- one more digit at the end
pub value_push : (n : ℕ) (ds : List ℕ) (d : ℕ) → digits_value_after 10 n (ds ++ d ∷ []) ≡ digits_value_after 10 n ds * 10 + digit_value d
value_push n [] d = refl
value_push n (x ∷ ds) d = value_push (n * 10 + digit_value x) ds d

pub capped_more : (m n e : ℕ) → m ≡ min n LARGE → min (m * 10 + e) LARGE ≡ min (n * 10 + e) LARGE
capped_more m n e h = omega arith

-- ---- digits before others

-- zeros before other digits do not change the value
pub zeros_value : (prefix last : List ℕ) → list_all (λ d. d == 48) prefix ≡ true → digits_value_after 10 0 (prefix ++ last) ≡ digits_value_after 10 0 last
zeros_value [] last h = refl
zeros_value (d ∷ prefix) last h =
    let p = and_parts (d == 48) (list_all (λ e. e == 48) prefix) h in
    let is : d ≡ 48 = eqb-true d 48 p.0 in
    rw is (zeros_value prefix last p.1)

value_append : (n : ℕ) (xs ys : List ℕ) → digits_value_after 10 n (xs ++ ys) ≡ digits_value_after 10 (digits_value_after 10 n xs) ys
value_append n [] ys = refl
value_append n (x ∷ xs) ys = value_append (n * 10 + digit_value x) xs ys

pub value_grows : (n : ℕ) (ds : List ℕ) → n ≤ digits_value_after 10 n ds
value_grows n [] = omega arith
value_grows n (d ∷ ds) = let more = value_grows (n * 10 + digit_value d) ds in omega (arith, more)

some_digit : (n : ℕ) (ds : List ℕ) → list_all is_digit ds ≡ true → list_all (λ d. d == 48) ds ≡ false → 1 ≤ digits_value_after 10 n ds
some_digit n [] digits h = absurd cc
some_digit n (d ∷ ds) digits h =
    let p = and_parts (is_digit d) (list_all is_digit ds) digits in
    elim (cases_Bool (d == 48)) [
      | inl yes' ↦ some_digit (n * 10 + digit_value d) ds p.1 (rw yes' at h)
      | inr no' ↦
          let low = leb-true 48 d (and_parts (nat_le 48 d) (nat_le d 57) p.0).0 in
          let other = eqb-false d 48 no' in
          let value = digit_is_value d p.0 in
          let some : 1 ≤ digit_value d = elim (cases_lt 48 d) [ inl lt ↦ omega (arith, lt, value) | inr ge ↦ absurd (other (omega (arith, ge, low))) ] in
          let more = value_grows (n * 10 + digit_value d) ds in
          omega (arith, more, some)
    ]

three_more : (n : ℕ) (ds : List ℕ) → 1 ≤ n → length ds ≡ 3 → 1000 ≤ digits_value_after 10 n ds
three_more n [] some h = absurd cc
three_more n (a ∷ []) some h = absurd cc
three_more n (a ∷ b ∷ []) some h = absurd cc
three_more n (a ∷ b ∷ c ∷ []) some h = omega (arith, some)
three_more n (a ∷ b ∷ c ∷ d ∷ ds) some h = absurd (omega (arith, h))

-- three digits after some that are not all zeros make a large number
pub large_value : (prefix last : List ℕ) → list_all is_digit prefix ≡ true → list_all (λ d. d == 48) prefix ≡ false → length last ≡ 3 → LARGE ≤ digits_value_after 10 0 (prefix ++ last)
large_value prefix last digits h three =
    let some = three_more (digits_value_after 10 0 prefix) last (some_digit 0 prefix digits h) three in
    omega (arith, some, value_append 0 prefix last)

-- all digits but the last three are not all zeros
pub number_large : (ds : List ℕ) (m : ℕ) → m ≡ length ds - 3 → list_all is_digit ds ≡ true → list_all (λ d. d == 48) (take m ds) ≡ false → LARGE ≡ min (digits_value 10 ds) LARGE
number_large ds m is digits h =
    let whole = take-append-drop m ds in
    let parts = and_parts (list_all is_digit (take m ds)) (list_all is_digit (drop m ds)) (sym (list_all-append is_digit (take m ds) (drop m ds)) ∙ ap (list_all is_digit) whole ∙ digits) in
    elim (cases_lt (length ds) 3) [
      | inl few ↦ let e : m ≡ 0 = omega (arith, is, few) in let none = rw e at h in absurd cc
      | inr many ↦
          let three : length (drop m ds) ≡ 3 = omega (arith, is, many, length-drop m ds) in
          let large = large_value (take m ds) (drop m ds) parts.0 h three in
          let same = ap (digits_value_after 10 0) whole in
          omega (arith, large, same)
    ]

-- the digits before a place are all zeros
pub number_small : (ds : List ℕ) (m : ℕ) → list_all (λ d. d == 48) (take m ds) ≡ true → digits_value 10 (drop m ds) ≡ digits_value 10 ds
number_small ds m h = sym (zeros_value (take m ds) (drop m ds) h) ∙ ap (digits_value_after 10 0) (take-append-drop m ds)
