-- Which kinds one choice more leaves as they are.
use Rattle.crn_conc.proofs.Prelude.{◌≡◌, ◌≢◌, ℕ, ◌+◌, ◌-◌, ◌<◌, inl, inr, List, [], ◌∷◌, ◌++◌, length, get_or, sym, ap, subst, ◌∙◌, arith, range_with_len, get_or-range_with_len, length-range_with_len, Sign, Kind, Mat, IsIn, width, kind_at, kinds_b_of, in_range, lt_or, column_in_b, row_in_b, SettlesOnly, row_kept}

-- all coordinates may be settled
pub all_settle : (kinds : List Sign → List Kind) (n choices : ℕ) (list : List ℕ) → list ≡ range_with_len 0 n → SettlesOnly kinds n choices list
all_settle kinds n choices list is p s k e lt out = absurd (out (subst (λ (l : List ℕ). IsIn k l) (sym is) (in_range k 0 n (omega arith) (omega (arith, lt)))))

-- ---- part B

-- one choice more settles the row of its species
pub rows_settle : (m : Mat) (choices k : ℕ) (list : List ℕ) → k + 1 ≡ m.cols + choices → list ≡ k ∷ [] → SettlesOnly (kinds_b_of m) (width m) choices list
rows_settle m choices k list is e p s j le lt out =
    let other : j ≢ k = λ same. out (subst (λ (l : List ℕ). IsIn j l) (sym e) (inl same)) in
    elim (lt_or j m.cols) as (λ _. kind_at (kinds_b_of m (p ++ s ∷ [])) j ≡ kind_at (kinds_b_of m p) j) [
      | inl inside ↦ column_in_b m (p ++ s ∷ []) j inside ∙ sym (column_in_b m p j inside)
      | inr past ↦ row_in_b m (p ++ s ∷ []) j past ∙ row_kept (length m.rows) p s (j - m.cols) (λ same. other (omega (arith, same, past, le, is))) ∙ sym (row_in_b m p j past)
    ]

-- a coordinate is at its own place
pub coordinate_at : (list : List ℕ) (n i d : ℕ) → list ≡ range_with_len 0 n → i < n → get_or list i d ≡ i
coordinate_at list n i d e lt = ap (λ (l : List ℕ). get_or l i d) e ∙ get_or-range_with_len 0 n i d lt ∙ (omega arith)

pub coordinates_long : (list : List ℕ) (n : ℕ) → list ≡ range_with_len 0 n → length list ≡ n
coordinates_long list n e = ap (λ (l : List ℕ). length l) e ∙ length-range_with_len 0 n
