-- The digits of a number, the last one first.
use Rattle.crn_document.proofs.Prelude.{◌≡◌, inl, inr, ◌≤◌, ◌<◌, ◌+◌, ◌/◌, ◌%◌, ◌^◌, ◌++◌, ◌∙◌, ℕ, zero, suc, List, [], ◌∷◌, length, take, get_or, refl, sym, ap, ap₂, arith, decimal, cases_lt, length-append, decimal_nonempty, decimal_digit, decimal_step}

-- two lists with a last member are one if and only if the members before it and the last ones are
ends_same : (xs ys : List ℕ) (x y : ℕ) → xs ++ x ∷ [] ≡ ys ++ y ∷ [] → (xs ≡ ys) × (x ≡ y)
ends_same [] [] x y e = (refl, cc)
ends_same [] (b ∷ ys) x y e = absurd (let l = ap length e in omega (arith, l, length-append ys (y ∷ [])))
ends_same (a ∷ xs) [] x y e = absurd (let l = ap length e in omega (arith, l, length-append xs (x ∷ [])))
ends_same (a ∷ xs) (b ∷ ys) x y e =
    let more = ends_same xs ys x y cc in
    let first : a ≡ b = cc in
    (ap₂ (λ (k : ℕ) (l : List ℕ). k ∷ l) first more.0, more.1)

-- a list by its last member
pub split_last : (ds : List ℕ) (k : ℕ) → suc k ≡ length ds → ds ≡ take k ds ++ get_or ds k 0 ∷ []
split_last (x ∷ []) zero e = refl
split_last (x ∷ ds) (suc k) e = ap (λ (l : List ℕ). x ∷ l) (split_last ds k (omega (arith, e)))
split_last ds k e = absurd (omega (arith, e))

-- no number has no digit
pub some_digit : (ds : List ℕ) (n : ℕ) → n < 2 ^ 32 → length ds ≡ 0 → ds ≡ decimal n → ⊥
some_digit ds n lt none e = let l = ap length e in let some = decimal_nonempty n (omega (arith, lt)) in omega (arith, l, none, some)

-- the digits of a number of one digit
pub one_digit : (ds front : List ℕ) (last n : ℕ) → n < 10 → ds ≡ front ++ last ∷ [] → last ≡ 48 + n → length front ≡ 0 → ds ≡ decimal n
one_digit ds [] last n lt is e none = is ∙ ap (λ (x : ℕ). x ∷ []) e ∙ sym (decimal_digit n lt)
one_digit ds (a ∷ front) last n lt is e none = absurd (omega (arith, none))

pub one_digit_only : (ds front : List ℕ) (last n : ℕ) → n < 10 → ds ≡ front ++ last ∷ [] → ds ≡ decimal n → length front ≡ 0
one_digit_only ds front last n lt is e = ap length (ends_same front [] last (48 + n) (sym is ∙ e ∙ decimal_digit n lt)).0

-- the last digit is the number's remainder
pub last_digit : (ds front : List ℕ) (last n : ℕ) → n < 2 ^ 32 → ds ≡ front ++ last ∷ [] → ds ≡ decimal n → last ≡ 48 + n % 10
last_digit ds front last n lt is e = elim (cases_lt n 10) [
  | inl one ↦ let l = (ends_same front [] last (48 + n) (sym is ∙ e ∙ decimal_digit n one)).1 in omega (arith, l, one)
  | inr more ↦ (ends_same front (decimal (n / 10)) last (48 + n % 10) (sym is ∙ e ∙ decimal_step n more (omega (arith, lt)))).1
]

-- the digits before the last are those of the tenth of the number
pub digits_before : (ds front : List ℕ) (last n : ℕ) → 10 ≤ n → n < 2 ^ 32 → ds ≡ front ++ last ∷ [] → ds ≡ decimal n → front ≡ decimal (n / 10)
digits_before ds front last n more lt is e = (ends_same front (decimal (n / 10)) last (48 + n % 10) (sym is ∙ e ∙ decimal_step n more (omega (arith, lt)))).0

pub digits_after : (ds front : List ℕ) (last n : ℕ) → 10 ≤ n → n < 2 ^ 32 → ds ≡ front ++ last ∷ [] → last ≡ 48 + n % 10 → front ≡ decimal (n / 10) → ds ≡ decimal n
digits_after ds front last n more lt is l f = is ∙ ap₂ (λ (a : List ℕ) (b : ℕ). a ++ b ∷ []) f l ∙ sym (decimal_step n more (omega (arith, lt)))
