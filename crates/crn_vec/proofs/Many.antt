-- More vectors than they have entries are dependent.
use Rattle.crn_vec.proofs.Prelude.{◌≡◌, ℕ, ◌<◌, inl, inr, arith, List, [], ◌∷◌, ap, refl, suc, zero, length, sym, subst, ℤ, pos, ints, dot, AreOfLength, scale}
use Rattle.crn_vec.proofs.Sums.{plus, zeros, comb, dot-comm}
use Rattle.crn_vec.proofs.Null.{Zero, Solves, null}

abbrev pub heads : List (List ℤ) → List ℤ
heads [] = []
heads ([] ∷ rows) = pos 0 ∷ heads rows
heads ((x ∷ r) ∷ rows) = x ∷ heads rows

abbrev pub tails : List (List ℤ) → List (List ℤ)
tails [] = []
tails ([] ∷ rows) = [] ∷ tails rows
tails ((x ∷ r) ∷ rows) = r ∷ tails rows

-- the columns of rows of length s
abbrev pub cols : ℕ → List (List ℤ) → List (List ℤ)
cols zero rows = []
cols (suc s) rows = heads rows ∷ cols s (tails rows)

pub wide_tails : (s : ℕ) (rows : List (List ℤ)) → AreOfLength (suc s) rows → AreOfLength s (tails rows)
wide_tails s [] w = tt
wide_tails s ([] ∷ rows) w = absurd (omega (arith, w.0))
wide_tails s ((x ∷ r) ∷ rows) w = (omega (arith, w.0), wide_tails s rows w.1)

pub length-heads : (rows : List (List ℤ)) → length (heads rows) ≡ length rows
length-heads [] = refl
length-heads ([] ∷ rows) = omega (arith, length-heads rows)
length-heads ((x ∷ r) ∷ rows) = omega (arith, length-heads rows)

pub length-tails : (rows : List (List ℤ)) → length (tails rows) ≡ length rows
length-tails [] = refl
length-tails ([] ∷ rows) = omega (arith, length-tails rows)
length-tails ((x ∷ r) ∷ rows) = omega (arith, length-tails rows)

pub wide_cols : (s t : ℕ) (rows : List (List ℤ)) → length rows ≡ t → AreOfLength t (cols s rows)
wide_cols zero t rows e = tt
wide_cols (suc s) t rows e = (omega (arith, length-heads rows), wide_cols s t (tails rows) (omega (arith, length-tails rows)))

pub length-cols : (s : ℕ) (rows : List (List ℤ)) → length (cols s rows) ≡ s
length-cols zero rows = refl
length-cols (suc s) rows = omega (arith, length-cols s (tails rows))

pub comb_split : (s : ℕ) (c : List ℤ) (rows : List (List ℤ)) → AreOfLength (suc s) rows → comb (suc s) c rows ≡ dot c (heads rows) ∷ comb s c (tails rows)
comb_split s [] rows w = refl
comb_split s (u ∷ c) [] w = refl
comb_split s (u ∷ c) ([] ∷ rows) w = absurd (omega (arith, w.0))
comb_split s (u ∷ c) ((x ∷ r) ∷ rows) w = ap (plus (scale u (x ∷ r))) (comb_split s c rows w.1)

pub zero_zeros : (s : ℕ) → Zero (zeros s)
zero_zeros zero = tt
zero_zeros (suc s) = (refl, zero_zeros s)

pub zero_comb_none : (c : List ℤ) (rows : List (List ℤ)) → AreOfLength 0 rows → Zero (comb 0 c rows)
zero_comb_none [] rows w = tt
zero_comb_none (u ∷ c) [] w = tt
zero_comb_none (u ∷ c) ([] ∷ rows) w = tt
zero_comb_none (u ∷ c) ((x ∷ r) ∷ rows) w = absurd (omega (arith, w.0))

pub solved : (s : ℕ) (c : List ℤ) (rows : List (List ℤ)) → AreOfLength s rows → Solves (cols s rows) c → Zero (comb s c rows)
solved zero c rows w z = zero_comb_none c rows w
solved (suc s) c rows w z =
    let head : dot c (heads rows) ≡ pos 0 = omega (arith, ints, z.0, dot-comm (heads rows) c) in
    let both : Zero (dot c (heads rows) ∷ comb s c (tails rows)) = (head, solved s c (tails rows) (wide_tails s rows w) z.1) in
    subst Zero (sym (comb_split s c rows w)) both

pub record Related (s : ℕ) (rows : List (List ℤ)) : Type 0 where
  pub c : List ℤ
  pub long : length c ≡ length rows
  pub nonzero : ¬ (Zero c)
  pub none : Zero (comb s c rows)

-- more than s vectors of length s are dependent
pub too_many : (s : ℕ) (rows : List (List ℤ)) → AreOfLength s rows → s < length rows → Related s rows
too_many s rows w more = elim (null (length rows) (cols s rows) (wide_cols s (length rows) rows refl)) as (λ _. Related s rows) [
  | inl f ↦ record { c = f.solution; long = f.long; nonzero = f.nonzero; none = solved s f.solution rows w f.solves }
  | inr f ↦ absurd (omega (arith, f.count, length-cols s rows))
]
