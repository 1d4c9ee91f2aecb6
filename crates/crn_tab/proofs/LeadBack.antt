-- The lead with its own entry put back, as the row that it becomes.
use Rattle.crn_tab.proofs.Prelude.{◌≡◌, ◌≢◌, ◌<◌, ◌≤◌, ◌-◌, ℕ, inl, inr, List, length, set, ap, ◌∙◌, sym, subst, arith, to_z, of_z, ℤ, pos, unsigned_abs, w64, length-set, WIDE_ENTRY, entry, row_at, IsLead}
use Rattle.crn_tab.proofs.NewRows.{look}
use Rattle.crn_tab.proofs.SameRows.{same_rows}
use Rattle.crn_tab.proofs.Cross.{read}

-- what was taken out and put back
restored : (v : List ℤ) (n : ℕ) (x : ℤ) → n < length v → x ≡ entry v n → set (set v n (pos 0)) n x ≡ v
restored v n x h e = same_rows (set (set v n (pos 0)) n x) v (length-set (set v n (pos 0)) n x ∙ length-set v n (pos 0))
    (λ k lt. elim (look (set v n (pos 0)) n k x (omega (arith, length-set v n (pos 0)))) [
      | inl f ↦ f.1 ∙ e ∙ ap (λ i. entry v i) (sym f.0)
      | inr f ↦ f.1 ∙ (elim (look v n k (pos 0) h) [ inl g ↦ absurd (f.0 g.0) | inr g ↦ g.1 ])
    ])

pub put_back : (lead : List ℤ) (c w : ℕ) (row : List ℤ) → IsLead w c row lead → 1 ≤ w → unsigned_abs (entry lead (length lead - 1)) < WIDE_ENTRY → (n : ℕ) → n ≡ length lead - 1
    → set (set lead (length lead - 1) (pos 0)) n (to_z w64 (of_z w64 (entry lead (length lead - 1)))) ≡ lead
put_back lead c w row h some small n e =
    let x = to_z w64 (of_z w64 (entry lead (length lead - 1))) in
    ap (λ i. set (set lead (length lead - 1) (pos 0)) i x) e
    ∙ restored lead (length lead - 1) x (omega (arith, h.long)) (read (entry lead (length lead - 1)) small)

pub rows_after : (w r : ℕ) (lead lead' : List ℤ) (spare spare' : List ℤ) → lead' ≡ lead → length lead ≡ w → (row_at (length lead') spare' r ≡ lead')
    → ((j : ℕ) → j ≢ r → row_at (length lead') spare' j ≡ row_at (length lead') spare j)
    → (row_at w spare' r ≡ lead) × ((j : ℕ) → j ≢ r → row_at w spare' j ≡ row_at w spare j)
rows_after w r lead lead' spare spare' e f own others =
    let A : List ℤ → Type 0 = λ l. (row_at (length l) spare' r ≡ l) × ((j : ℕ) → j ≢ r → row_at (length l) spare' j ≡ row_at (length l) spare j) in
    let B : ℕ → Type 0 = λ n. (row_at n spare' r ≡ lead) × ((j : ℕ) → j ≢ r → row_at n spare' j ≡ row_at n spare j) in
    subst B f (subst A e (own, others))
