-- Lists of small numbers are lists of numbers of a certificate.
use Rattle.crn_cert.proofs.Prelude.{ℕ, suc, ◌<◌, List, [], ◌∷◌, length, arith, ℤ, unsigned_abs, AllByRecursion, WIDE_ENTRY, entry, IsNarrow}

pub narrow_all : (xs : List ℤ) → ((k : ℕ) → k < length xs → unsigned_abs (entry xs k) < WIDE_ENTRY) → AllByRecursion IsNarrow xs
narrow_all [] h = tt
narrow_all (x ∷ xs) h = (let l = h 0 (omega arith) in omega (arith, l), narrow_all xs (λ k lt. h (suc k) (omega (arith, lt))))
