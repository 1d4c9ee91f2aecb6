-- Differences of vectors (-uA, u).
use Rattle.crn_tab.proofs.Prelude.{◌≡◌, ◌≢◌, ℕ, ◌+◌, List, length, drop, ap, ◌∙◌, arith, ℤ, pos, ◌+ℤ◌, ◌-ℤ◌, ◌*ℤ◌, neg_ℤ, ints, get_or-drop, length-drop, Mat, entry, dot, column, InDualSpace, distrib, mul-neg, no_zero}
use lib.IntN.{*ℤ_comm}
use Rattle.crn_tab.proofs.Dots.{dot_combined}

opposite : (p q t z w v dz dw dv : ℤ) → t ≢ pos 0 → z *ℤ t ≡ (p *ℤ w) -ℤ (q *ℤ v) → dz *ℤ t ≡ (p *ℤ dw) -ℤ (q *ℤ dv) → w ≡ neg_ℤ dw → v ≡ neg_ℤ dv → z ≡ neg_ℤ dz
opposite p q t z w v dz dw dv ne e f g h =
    let g' : p *ℤ w ≡ p *ℤ neg_ℤ dw = ap (λ (s : ℤ). p *ℤ s) g in
    let h' : q *ℤ v ≡ q *ℤ neg_ℤ dv = ap (λ (s : ℤ). q *ℤ s) h in
    let sum : t *ℤ (z +ℤ dz) ≡ pos 0 = omega (arith, ints, e, f, g', h', mul-neg p dw, mul-neg q dv, distrib t z dz, *ℤ_comm t z, *ℤ_comm t dz) in
    omega (arith, ints, no_zero t (z +ℤ dz) sum ne)

-- a difference of vectors (-uA, u), also exact_quotient, is one
pub dual_combined : (a : Mat) (p q t : ℤ) (w v z : List ℤ) → t ≢ pos 0 → InDualSpace a w → InDualSpace a v → length z ≡ length w
    → ((k : ℕ) → entry z k *ℤ t ≡ (p *ℤ entry w k) -ℤ (q *ℤ entry v k)) → InDualSpace a z
dual_combined a p q t w v z ne dw dv e h =
    let n = a.cols in
    let below : (k : ℕ) → entry (drop n z) k *ℤ t ≡ (p *ℤ entry (drop n w) k) -ℤ (q *ℤ entry (drop n v) k) = λ k.
    rw (get_or-drop n z k (pos 0), get_or-drop n w k (pos 0), get_or-drop n v k (pos 0)) (h (n + k)) in
    record {
      long = e ∙ dw.long;
      is = λ j lt. opposite p q t (entry z j) (entry w j) (entry v j) (dot (drop n z) (column a.rows j)) (dot (drop n w) (column a.rows j)) (dot (drop n v) (column a.rows j)) ne (h j)
          (dot_combined p q t (drop n w) (drop n v) (drop n z) (column a.rows j)
          (omega (arith, length-drop n v, length-drop n w, dw.long, dv.long)) (omega (arith, length-drop n z, length-drop n w, e)) below)
          (dw.is j lt) (dv.is j lt);
    }
