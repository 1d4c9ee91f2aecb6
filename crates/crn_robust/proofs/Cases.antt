-- One case of the hypotheses on robustness holds of a network.
use Rattle.crn_robust.proofs.Prelude.{◌≡◌, ◌≢◌, ℕ, ◌-◌, ◌≤◌, inl, inr, refl, ap, subst, arith, Net, IsDeficiency, eq_or, deficiency_is_one, one_leaves_line, Yes, Number, None, Rests, IsRobustPair, IsLeastPair, IsNoLater, CasesAreOne, CasesDecideRobustness, LinesAreTrue}

-- ---- the least pair is one

both_least : (c d x y : ℕ) → IsNoLater c d x y → IsNoLater x y c d → (c ≡ x) × (d ≡ y)
both_least c d x y (inl p) (inl q) = absurd (omega (arith, p, q))
both_least c d x y (inl p) (inr q) = absurd (omega (arith, p, q.0))
both_least c d x y (inr p) (inl q) = absurd (omega (arith, p.0, q))
both_least c d x y (inr p) (inr q) = (p.0, omega (arith, p.1, q.1))

one_species : (net : Net) (s t c d : ℕ) → IsRobustPair net s c d → IsRobustPair net t c d → s ≡ t
one_species net s t c d p q = elim (eq_or s t) as (λ _. s ≡ t) [
  | inl e ↦ e
  | inr ne ↦ absurd (p.species.differ (q.species.others s ne))
]

one_yes : (net : Net) (s c d t x y : ℕ) → 1 ≤ s → 1 ≤ c → 1 ≤ d → 1 ≤ t → 1 ≤ x → 1 ≤ y → IsLeastPair net (s - 1) (c - 1) (d - 1) → IsLeastPair net (t - 1) (x - 1) (y - 1) → Yes s c d ≡ Yes t x y
one_yes net s c d t x y s1 c1 d1 t1 x1 y1 p q =
    let same = both_least (c - 1) (d - 1) (x - 1) (y - 1) (p.least (t - 1) (x - 1) (y - 1) q.pair) (q.least (s - 1) (c - 1) (d - 1) p.pair) in
    let moved : IsRobustPair net (s - 1) (x - 1) (y - 1) = subst (λ (n : ℕ). IsRobustPair net (s - 1) n (y - 1)) same.0 (subst (λ (n : ℕ). IsRobustPair net (s - 1) (c - 1) n) same.1 p.pair) in
    let first : c ≡ x = omega (arith, same.0, c1, x1) in
    let second : d ≡ y = omega (arith, same.1, d1, y1) in
    let species : s ≡ t = omega (arith, one_species net (s - 1) (t - 1) (x - 1) (y - 1) moved q.pair, s1, t1) in
    cc

-- ---- cases

other_deficiency : (net : Net) (d : ℕ) → IsDeficiency net d → d ≢ 1 → IsDeficiency net 1 → ⊥
other_deficiency net d h ne one = ne (deficiency_is_one net d 1 h one)

pub cases_are_one : CasesAreOne
cases_are_one net (Yes s c d) (Yes t x y) p q = one_yes net s c d t x y p.1 p.2 p.3 q.1 q.2 q.3 p.4 q.4
cases_are_one net (Yes s c d) (Number n) p q = absurd (other_deficiency net n q.0 q.1 p.0)
cases_are_one net (Yes s c d) None p q = absurd (q.1 (s - 1) (c - 1) (d - 1) p.4.pair)
cases_are_one net (Yes s c d) Rests p q = absurd q
cases_are_one net (Number n) (Yes t x y) p q = absurd (other_deficiency net n p.0 p.1 q.0)
cases_are_one net (Number n) (Number m) p q = let e : n ≡ m = deficiency_is_one net n m p.0 q.0 in ap Number e
cases_are_one net (Number n) None p q = absurd (other_deficiency net n p.0 p.1 q.0)
cases_are_one net (Number n) Rests p q = absurd q
cases_are_one net None (Yes t x y) p q = absurd (p.1 (t - 1) (x - 1) (y - 1) q.4.pair)
cases_are_one net None (Number m) p q = absurd (other_deficiency net m q.0 q.1 p.0)
cases_are_one net None None p q = refl
cases_are_one net None Rests p q = absurd q
cases_are_one net Rests b p q = absurd p

pub cases_decide_robustness : CasesDecideRobustness
cases_decide_robustness net (Yes s c d) h = (h.1, h.2, h.3, record { deficiency = h.0; pair = (let l = h.4 in l.pair) })
cases_decide_robustness net (Number n) h = λ s c d r. other_deficiency net n h.0 h.1 r.deficiency
cases_decide_robustness net None h = λ s c d r. h.1 s c d r.pair
cases_decide_robustness net Rests h = absurd h

-- ---- the line

pub lines_are_true : LinesAreTrue
lines_are_true net b d n h says =
    let law = one_leaves_line net d n h in (
      λ e. law.0 (deficiency_is_one net d 1 h (says.0 e)),
      λ line. says.1 (subst (IsDeficiency net) (law.1 line) h),
    )
