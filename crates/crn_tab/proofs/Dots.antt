-- Dot products: differences, and single products.
use Rattle.crn_tab.proofs.Prelude.{◌≡◌, ℕ, suc, List, [], ◌∷◌, length, ap, arith, ℤ, ◌-ℤ◌, ◌*ℤ◌, ints, entry, dot, distrib, distrib-right, assoc, mul-sub}
use lib.IntN.{*ℤ_comm, *ℤ-zero, zero-*ℤ}

step : (p q t z w v c : ℤ) → z *ℤ t ≡ (p *ℤ w) -ℤ (q *ℤ v) → (z *ℤ c) *ℤ t ≡ (p *ℤ (w *ℤ c)) -ℤ (q *ℤ (v *ℤ c))
step p q t z w v c e =
    let f : (z *ℤ t) *ℤ c ≡ ((p *ℤ w) -ℤ (q *ℤ v)) *ℤ c = ap (λ (s : ℤ). s *ℤ c) e in
    let g : ((p *ℤ w) -ℤ (q *ℤ v)) *ℤ c ≡ c *ℤ ((p *ℤ w) -ℤ (q *ℤ v)) = *ℤ_comm ((p *ℤ w) -ℤ (q *ℤ v)) c in
    let h : z *ℤ (t *ℤ c) ≡ z *ℤ (c *ℤ t) = ap (λ (s : ℤ). z *ℤ s) (*ℤ_comm t c) in
    omega (arith, ints, f, g, h, mul-sub c (p *ℤ w) (q *ℤ v), *ℤ_comm c (p *ℤ w), *ℤ_comm c (q *ℤ v), assoc p w c, assoc q v c, assoc z t c, assoc z c t)

-- a difference of lists, place by place, gives that of the dot products
pub dot_combined : (p q t : ℤ) (w v z c : List ℤ) → length v ≡ length w → length z ≡ length w
    → ((k : ℕ) → entry z k *ℤ t ≡ (p *ℤ entry w k) -ℤ (q *ℤ entry v k)) → dot z c *ℤ t ≡ (p *ℤ dot w c) -ℤ (q *ℤ dot v c)
dot_combined p q t [] [] [] c e f h = omega (arith, ints, zero-*ℤ t, *ℤ-zero p, *ℤ-zero q)
dot_combined p q t [] [] (z ∷ zs) c e f h = absurd (omega arith)
dot_combined p q t [] (v ∷ vs) zs c e f h = absurd (omega arith)
dot_combined p q t (w ∷ ws) [] zs c e f h = absurd (omega arith)
dot_combined p q t (w ∷ ws) (v ∷ vs) [] c e f h = absurd (omega arith)
dot_combined p q t (w ∷ ws) (v ∷ vs) (z ∷ zs) [] e f h = omega (arith, ints, zero-*ℤ t, *ℤ-zero p, *ℤ-zero q)
dot_combined p q t (w ∷ ws) (v ∷ vs) (z ∷ zs) (c ∷ cs) e f h =
    let rest : dot zs cs *ℤ t ≡ (p *ℤ dot ws cs) -ℤ (q *ℤ dot vs cs) = dot_combined p q t ws vs zs cs (omega arith) (omega arith) (λ k. h (suc k)) in
    omega (arith, ints, rest, step p q t z w v c (h 0), distrib-right (z *ℤ c) (dot zs cs) t, distrib p (w *ℤ c) (dot ws cs), distrib q (v *ℤ c) (dot vs cs))
