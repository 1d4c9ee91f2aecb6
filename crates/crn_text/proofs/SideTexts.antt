-- The digits of an amount.
use Rattle.crn_text.proofs.Prelude.{◌≡◌, ℕ, ◌+◌, ◌≤◌, List, [], ◌∷◌, ◌++◌, sym, ap, ◌∙◌, append_assoc, arith, decimal, decimal_digit, decimal_step}
use Rattle.std.specs.Prelude.{◌<◌, ◌/◌, ◌%◌}

pub two_digits : (text before : List ℕ) (n : ℕ) → 10 ≤ n → n ≤ 99 → before ≡ text ++ (48 + n / 10) ∷ [] → before ++ (48 + n % 10) ∷ [] ≡ text ++ decimal n
two_digits text before n ge le is =
    let tens : decimal (n / 10) ≡ (48 + n / 10) ∷ [] = decimal_digit (n / 10) (omega arith) in
    ap (λ (t : List ℕ). t ++ (48 + n % 10) ∷ []) is ∙ append_assoc text ((48 + n / 10) ∷ []) ((48 + n % 10) ∷ [])
    ∙ ap (λ (t : List ℕ). text ++ t) (ap (λ (t : List ℕ). t ++ (48 + n % 10) ∷ []) (sym tens) ∙ sym (decimal_step n ge (omega arith)))
