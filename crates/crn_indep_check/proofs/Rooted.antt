-- Reactions that hang by ties from the least of their parts: what ties keep is the same within each part.
use Rattle.crn_indep_check.proofs.Prelude.{◌≡◌, ℕ, zero, suc, ◌-◌, ◌<◌, ◌≤◌, inl, inr, List, get_or, refl, sym, ap, ◌∙◌, arith, eq_or, lt_or, Net, RankProof, IsFirst, IsTree, AreTied, HangsByTie}

-- the least reaction of a part, with the same labels
record Least (labels other : List ℕ) (n c : ℕ) : Type 0 where
  root : ℕ
  inside : root < n
  first : IsFirst labels root
  label : get_or labels root 0 ≡ get_or labels c 0
  kept : get_or other root 0 ≡ get_or other c 0

module _ (net : Net) (proof : RankProof) (labels other up depth : List ℕ) (n : ℕ)
    (hangs : (c : ℕ) → c < n → IsTree (HangsByTie net proof up depth) labels up depth c)
    (within : (r q : ℕ) → AreTied net proof r q → (1 ≤ q) × (q ≤ n))
    (even : (r q : ℕ) → AreTied net proof r q → get_or labels (r - 1) 0 ≡ get_or labels (q - 1) 0)
    (keeps : (r q : ℕ) → AreTied net proof r q → get_or other (r - 1) 0 ≡ get_or other (q - 1) 0) where
  least : (m c : ℕ) → c < n → get_or depth c 0 < m → Least labels other n c
  least zero c lt d = absurd (omega (arith, d))
  least (suc m) c lt d = elim (hangs c lt) as (λ _. Least labels other n c) [
    | inl top ↦ record { root = c; inside = lt; first = top.0; label = refl; kept = refl }
    | inr (other_one, h) ↦
        let u = get_or up c 0 in
        let at = within (suc c) u h.tied in
        let back : suc c - 1 ≡ c = omega arith in
        let rest = least m (u - 1) (omega (arith, at.0, at.1)) (omega (arith, d, h.deeper)) in
        record {
          root = rest.root;
          inside = rest.inside;
          first = rest.first;
          label = rest.label ∙ sym (even (suc c) u h.tied) ∙ ap (λ (k : ℕ). get_or labels k 0) back;
          kept = rest.kept ∙ sym (keeps (suc c) u h.tied) ∙ ap (λ (k : ℕ). get_or other k 0) back;
        }
  ]

  one_least : (a b : ℕ) → IsFirst labels a → IsFirst labels b → get_or labels a 0 ≡ get_or labels b 0 → a ≡ b
  one_least a b first_a first_b e = elim (lt_or a b) as (λ _. a ≡ b) [
    | inl lt ↦ absurd (first_b a lt e)
    | inr le ↦ elim (eq_or a b) as (λ _. a ≡ b) [
      | inl same ↦ same
      | inr ne ↦ absurd (first_a b (omega (arith, le, ne)) (sym e))
    ]
  ]

  pub one_part : (j k : ℕ) → j < n → k < n → get_or labels j 0 ≡ get_or labels k 0 → get_or other j 0 ≡ get_or other k 0
  one_part j k lj lk e =
      let a = least (suc (get_or depth j 0)) j lj (omega arith) in
      let b = least (suc (get_or depth k 0)) k lk (omega arith) in
      let same : a.root ≡ b.root = one_least a.root b.root a.first b.first (a.label ∙ e ∙ sym b.label) in
      sym a.kept ∙ ap (λ (r : ℕ). get_or other r 0) same ∙ b.kept
