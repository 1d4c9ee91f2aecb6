-- The tables with the reaction of a statement keep all that a network keeps.
use Rattle.crn_net.proofs.Prelude.{◌≡◌, ◌⊎◌, ℕ, suc, ◌<◌, ◌≤◌, ◌+◌, ◌-◌, List, [], ◌∷◌, ◌++◌, length, replicate, refl, sym, ap, subst, ◌∙◌, inl, inr, arith, ℤ, pos, AllByRecursion, cases_lt, ints, IsIn, IsAmount, ends, amount_in, amounts_in, MAX_AMOUNT, IsNumberedInOrder, in_left, in_right, in_push, in_at, all_from, all_map, all_append, entry_of_zeros, with_zeros, Puts}

-- ---- numbering

-- numbered in order, and these are the numbers below the count
pub record Covers (count : ℕ) (es : List ℕ) : Type 0 where
  pub numbered : IsNumberedInOrder 0 es
  pub all : (c : ℕ) → c < count → IsIn c es
  pub below : (c : ℕ) → IsIn c es → c < count

numbered_push : (next count : ℕ) (es : List ℕ) (y : ℕ) → IsNumberedInOrder next es → ((c : ℕ) → c < count → (c < next) ⊎ IsIn c es) → y ≤ count → IsNumberedInOrder next (es ++ y ∷ [])
numbered_push next count [] y h reached le =
    elim (cases_lt next count) [
      | inl lt ↦ elim (reached next lt) [ inl bad ↦ absurd (omega (arith, bad)) | inr bad ↦ absurd bad ]
      | inr ge ↦ elim (cases_lt y next) [ inl known ↦ inl (known, tt) | inr up ↦ inr (omega arith, tt) ]
    ]
numbered_push next count (e ∷ es) y (inl h) reached le =
    inl (h.0, numbered_push next count es y h.1 (λ c lt. elim (reached c lt) [ inl a ↦ inl a | inr b ↦ elim b [ inl is ↦ inl (let k = h.0 in omega arith) | inr i ↦ inr i ] ]) le)
numbered_push next count (e ∷ es) y (inr h) reached le =
    inr (h.0, numbered_push (suc next) count es y h.1 (λ c lt. elim (reached c lt) [ inl a ↦ inl (omega arith) | inr b ↦ elim b [ inl is ↦ inl (let k = h.0 in omega arith) | inr i ↦ inr i ] ]) le)

covers_known : (count : ℕ) (es : List ℕ) (y : ℕ) → Covers count es → y < count → Covers count (es ++ y ∷ [])
covers_known count es y h lt = record {
  numbered = numbered_push 0 count es y h.numbered (λ c l. inr (h.all c l)) (omega arith);
  all = λ c l. in_left c es (y ∷ []) (h.all c l);
  below = λ c i. elim (in_push c es y i) [ inl a ↦ h.below c a | inr e ↦ omega arith ];
}

covers_new : (count : ℕ) (es : List ℕ) (y : ℕ) → Covers count es → y ≡ count → Covers (count + 1) (es ++ y ∷ [])
covers_new count es y h e = record {
  numbered = numbered_push 0 count es y h.numbered (λ c l. inr (h.all c l)) (omega arith);
  all = λ c l. elim (cases_lt c count) [ inl less ↦ in_left c es (y ∷ []) (h.all c less) | inr up ↦ in_right c es (y ∷ []) (inl (omega arith)) ];
  below = λ c i. elim (in_push c es y i) [ inl a ↦ (let k = h.below c a in omega arith) | inr is ↦ omega arith ];
}

covers_place : (count count' : ℕ) (es : List ℕ) (y : ℕ) → Covers count es → ((y < count) × (count' ≡ count)) ⊎ ((y ≡ count) × (count' ≡ count + 1)) → Covers count' (es ++ y ∷ [])
covers_place count count' es y h (inl p) = subst (λ (k : ℕ). Covers k (es ++ y ∷ [])) (sym p.1) (covers_known count es y h p.0)
covers_place count count' es y h (inr p) = subst (λ (k : ℕ). Covers k (es ++ y ∷ [])) (sym p.1) (covers_new count es y h p.0)

ends_push : (rs : List (ℕ × ℕ)) (r : ℕ × ℕ) → ends (rs ++ r ∷ []) ≡ (ends rs ++ r.0 ∷ []) ++ r.1 ∷ []
ends_push [] r = refl
ends_push (x ∷ rs) r = ap (λ (t : List ℕ). x.0 ∷ x.1 ∷ t) (ends_push rs r)

in_ends : (rs : List (ℕ × ℕ)) (r : ℕ × ℕ) → IsIn r rs → IsIn r.0 (ends rs) × IsIn r.1 (ends rs)
in_ends [] r h = absurd h
in_ends (x ∷ rs) r (inl e) = (inl (ap (λ (t : ℕ × ℕ). t.0) e), inr (inl (ap (λ (t : ℕ × ℕ). t.1) e)))
in_ends (x ∷ rs) r (inr h) = let p = in_ends rs r h in (inr (inr p.0), inr (inr p.1))

-- the places of both rows
pub record RowPlaces (before middle after y z : ℕ) : Type 0 where
  pub first : ((y < before) × (middle ≡ before)) ⊎ ((y ≡ before) × (middle ≡ before + 1))
  pub second : ((z < middle) × (after ≡ middle)) ⊎ ((z ≡ middle) × (after ≡ middle + 1))

pub covers_both : (before middle after y z : ℕ) (rs rs' : List (ℕ × ℕ)) → Covers before (ends rs) → RowPlaces before middle after y z → Puts rs (y, z) rs' → Covers after (ends rs')
covers_both before middle after y z rs rs' h s (inl p) =
    let i = in_ends rs (y, z) p.0 in
    let ly = h.below y i.0 in
    let lz = h.below z i.1 in
    let same : before ≡ after = elim s.first [ inl a ↦ elim s.second [ inl b ↦ sym (b.1 ∙ a.1) | inr b ↦ (let e = b.0 in let f = a.1 in omega arith) ] | inr a ↦ (let e = a.0 in omega arith) ] in
    subst (λ (t : List (ℕ × ℕ)). Covers after (ends t)) (sym p.1) (subst (λ (k : ℕ). Covers k (ends rs)) same h)
covers_both before middle after y z rs rs' h s (inr p) =
    let one = covers_place before middle (ends rs) y h s.first in
    let two = covers_place middle after (ends rs ++ y ∷ []) z one s.second in
    subst (λ (t : List (ℕ × ℕ)). Covers after (ends t)) (sym p.1) (subst (Covers after) (sym (ends_push rs (y, z))) two)

-- ---- amounts

in_zeros : (n : ℕ) (x : ℤ) → IsIn x (replicate n (pos 0)) → x ≡ pos 0
in_zeros n x i = let r = in_at x (replicate n (pos 0)) (pos 0) i in sym r.2 ∙ entry_of_zeros n r.0

all_zeros : (n : ℕ) → AllByRecursion IsAmount (replicate n (pos 0))
all_zeros n = all_from IsAmount (replicate n (pos 0)) (λ x i. let e = in_zeros n x i in subst IsAmount (sym e) (omega (arith, ints), omega (arith, ints)))

pub amounts_with_zeros : (m : ℕ) (v : List ℤ) → AllByRecursion IsAmount v → AllByRecursion IsAmount (with_zeros m v)
amounts_with_zeros m v h = all_append IsAmount v (replicate (m - length v) (pos 0)) h (all_zeros (m - length v))

pub amounts_said : (names : List (List ℕ)) (side : List (List ℕ × ℕ)) → ((name : List ℕ) → amount_in side name ≤ MAX_AMOUNT) → AllByRecursion IsAmount (amounts_in names side)
amounts_said names side h = all_map IsAmount (λ name. pos (amount_in side name)) names (λ name i. let le = h name in (omega (arith, ints), omega (arith, ints)))
