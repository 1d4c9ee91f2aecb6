-- The difference of two rows, each times a factor.
use Rattle.crn_tab.proofs.Prelude.{◌≡◌, ℕ, zero, suc, List, [], ◌∷◌, length, refl, arith, ℤ, ◌-ℤ◌, ◌*ℤ◌, ints, entry}
use lib.IntN.{*ℤ-zero}

pub differences : ℤ → ℤ → List ℤ → List ℤ → List ℤ
differences p q [] v = []
differences p q (x ∷ w) [] = []
differences p q (x ∷ w) (y ∷ v) = ((p *ℤ x) -ℤ (q *ℤ y)) ∷ differences p q w v

pub length-differences : (p q : ℤ) (w v : List ℤ) → length v ≡ length w → length (differences p q w v) ≡ length w
unfolding differences
length-differences p q [] v e = refl
length-differences p q (x ∷ w) [] e = absurd (omega arith)
length-differences p q (x ∷ w) (y ∷ v) e = omega (arith, length-differences p q w v (omega arith))

pub entry-differences : (p q : ℤ) (w v : List ℤ) (k : ℕ) → length v ≡ length w → entry (differences p q w v) k ≡ (p *ℤ entry w k) -ℤ (q *ℤ entry v k)
unfolding differences
entry-differences p q [] [] k e = omega (arith, ints, *ℤ-zero p, *ℤ-zero q)
entry-differences p q [] (y ∷ v) k e = absurd (omega arith)
entry-differences p q (x ∷ w) [] k e = absurd (omega arith)
entry-differences p q (x ∷ w) (y ∷ v) zero e = refl
entry-differences p q (x ∷ w) (y ∷ v) (suc k) e = entry-differences p q w v k (omega arith)
