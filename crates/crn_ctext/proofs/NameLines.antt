-- Lines that name a list by a number of one digit or two.
use Rattle.crn_ctext.proofs.Prelude.{◌≡◌, ◌≤◌, ◌<◌, ◌+◌, ◌/◌, ◌%◌, ℕ, [], ◌∷◌, ◌++◌, refl, arith, decimal, decimal_digit, decimal_step}
use Rattle.std.proofs.Common.{codes}

pub one_digit : (part n : ℕ) → n < 10 → codes "ref" ++ part ∷ 32 ∷ decimal n ++ codes "\n" ≡ 114 ∷ 101 ∷ 102 ∷ part ∷ 32 ∷ (48 + n) ∷ 10 ∷ []
one_digit part n lt = rw (decimal_digit n lt) refl

pub two_digits : (part n : ℕ) → 10 ≤ n → n < 100 → codes "ref" ++ part ∷ 32 ∷ decimal n ++ codes "\n" ≡ 114 ∷ 101 ∷ 102 ∷ part ∷ 32 ∷ (48 + n / 10) ∷ (48 + n % 10) ∷ 10 ∷ []
two_digits part n le lt = rw (decimal_step n le (omega (arith, lt)), decimal_digit (n / 10) (omega (arith, lt))) refl
