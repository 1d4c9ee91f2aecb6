-- Multipliers that rule out positive vectors, and duals that show independence.
use Rattle.crn_cert.proofs.Prelude.{◌≡◌, ◌≢◌, ℕ, zero, suc, ◌<◌, ◌≤◌, List, [], ◌∷◌, length, get_or, refl, sym, ap, subst, ◌∙◌, inl, inr, arith, ℤ, pos, negsuc, ◌*ℤ◌, ◌≤ℤ◌, neg_ℤ, AllByRecursion, ints, length-map, IsIn, Net, reaction_vector, entry, dot, column, IsIndependent, vectors, IsPositive, IsPositivelyDependent, IsConservative, mul-neg, pos_pos, no_zero, up_up, past_end, lt_or, listed, listed_zeros, across, dot-comm, dots, dot_zero, entry-dots, dot_single, RuleOutDependence, RuleOutConservation, IsDual}
use lib.IntN.{*ℤ_comm, *ℤ-zero, zero-*ℤ}

falls : (a x : ℤ) → pos 1 ≤ℤ a → x ≤ℤ pos 0 → (a *ℤ x) ≤ℤ pos 0
falls a x p q = let h : pos 0 ≤ℤ (a *ℤ neg_ℤ x) = up_up a (neg_ℤ x) (omega (arith, ints, p)) (omega (arith, ints, q)) in omega (arith, ints, h, mul-neg a x)

falls_more : (a x : ℤ) → pos 1 ≤ℤ a → x ≤ℤ negsuc 0 → (a *ℤ x) ≤ℤ negsuc 0
falls_more a x p q = let h = pos_pos a (neg_ℤ x) (omega (arith, ints, p)) (omega (arith, ints, q)) in omega (arith, ints, h, mul-neg a x)

-- ---- positive dependence

sum_falls : (vs : List (List ℤ)) (a u : List ℤ) → IsPositive a → AllByRecursion (λ v. dot u v ≤ℤ pos 0) vs → dot a (dots vs u) ≤ℤ pos 0
sum_falls [] [] u p h = omega (arith, ints)
sum_falls (v ∷ vs) (b ∷ a) u p h =
    let one = falls b (dot u v) p.0 h.0 in
    omega (arith, ints, one, ap (λ (z : ℤ). b *ℤ z) (dot-comm v u), sum_falls vs a u p.1 h.1)
sum_falls vs a u p h = omega (arith, ints)

sum_falls_more : (vs : List (List ℤ)) (a u v : List ℤ) → length a ≡ length vs → IsPositive a → AllByRecursion (λ w. dot u w ≤ℤ pos 0) vs → IsIn v vs → dot u v ≤ℤ negsuc 0 → dot a (dots vs u) ≤ℤ negsuc 0
sum_falls_more [] a u v l p h i more = absurd i
sum_falls_more (w ∷ vs) [] u v l p h i more = absurd (omega arith)
sum_falls_more (w ∷ vs) (b ∷ a) u v l p h (inl e) more =
    let here : dot u w ≤ℤ negsuc 0 = subst (λ (t : List ℤ). dot u t ≤ℤ negsuc 0) e more in
    omega (arith, ints, falls_more b (dot u w) p.0 here, ap (λ (z : ℤ). b *ℤ z) (dot-comm w u), sum_falls vs a u p.1 h.1)
sum_falls_more (w ∷ vs) (b ∷ a) u v l p h (inr i) more =
    omega (arith, ints, falls b (dot u w) p.0 h.0, ap (λ (z : ℤ). b *ℤ z) (dot-comm w u), sum_falls_more vs a u v (omega (arith, l)) p.1 h.1 i more)

pub no_dependence : (net : Net) (u : List ℤ) → RuleOutDependence net u → IsPositivelyDependent net → ⊥
no_dependence net u cut (a, dep) =
    let vs = vectors net in
    let none : dot a (dots vs u) ≡ pos 0 = across a u vs ∙ listed_zeros u (λ j. dot a (column vs j)) dep.zero_sum in
    let more : dot a (dots vs u) ≤ℤ negsuc 0 = sum_falls_more vs a u cut.some.0 (dep.long ∙ sym (length-map net.reactions (reaction_vector net))) dep.positive cut.falls cut.some.1 cut.some.2 in
    omega (arith, ints, none, more)

-- ---- conservation

laws_none : (vs : List (List ℤ)) (x : List ℤ) → AllByRecursion (λ v. dot x v ≡ pos 0) vs → (k : ℕ) → entry (dots vs x) k ≡ pos 0
laws_none [] x h k = refl
laws_none (v ∷ vs) x h zero = dot-comm v x ∙ h.0
laws_none (v ∷ vs) x h (suc k) = laws_none vs x h.1 k

list_falls : (x : List ℤ) (f : ℕ → ℤ) → IsPositive x → ((j : ℕ) → f j ≤ℤ pos 0) → dot (listed (length x) f) x ≤ℤ pos 0
list_falls [] f p h = omega (arith, ints)
list_falls (y ∷ x) f p h = omega (arith, ints, falls y (f 0) p.0 (h 0), *ℤ_comm (f 0) y, list_falls x (λ j. f (suc j)) p.1 (λ j. h (suc j)))

list_falls_more : (x : List ℤ) (f : ℕ → ℤ) (s : ℕ) → s < length x → IsPositive x → ((j : ℕ) → f j ≤ℤ pos 0) → f s ≤ℤ negsuc 0 → dot (listed (length x) f) x ≤ℤ negsuc 0
list_falls_more [] f s lt p h more = absurd (omega arith)
list_falls_more (y ∷ x) f zero lt p h more = omega (arith, ints, falls_more y (f 0) p.0 more, *ℤ_comm (f 0) y, list_falls x (λ j. f (suc j)) p.1 (λ j. h (suc j)))
list_falls_more (y ∷ x) f (suc s) lt p h more =
    omega (arith, ints, falls y (f 0) p.0 (h 0), *ℤ_comm (f 0) y, list_falls_more x (λ j. f (suc j)) s (omega (arith, lt)) p.1 (λ j. h (suc j)) more)

-- a species is one of the network's, if a combination makes some of it
abbrev Short : ℕ → List (List ℤ) → Type 0
Short n vs = AllByRecursion (λ v. length v ≤ n) vs

past_none : (n : ℕ) (vs : List (List ℤ)) (s : ℕ) → Short n vs → n ≤ s → (k : ℕ) → entry (column vs s) k ≡ pos 0
past_none n [] s h le k = refl
past_none n (v ∷ vs) s h le zero = past_end v s (omega (arith, h.0, le))
past_none n (v ∷ vs) s h le (suc k) = past_none n vs s h.1 le k

pub no_conservation : (net : Net) (u : List ℤ) → Short (length net.names) (vectors net) → RuleOutConservation net u → IsConservative net → ⊥
no_conservation net u short cut (x, law) =
    let vs = vectors net in
    let f : ℕ → ℤ = λ j. dot u (column vs j) in
    let none : dot (listed (length x) f) x ≡ pos 0 =
    sym (across u x vs) ∙ dot_zero u (dots vs x) (λ k. ap (λ (z : ℤ). entry u k *ℤ z) (laws_none vs x law.conserved k) ∙ *ℤ-zero (entry u k)) in
    let s = cut.some.0 in
    elim (lt_or s (length net.names)) [
      | inr past ↦ absurd (cut.some.1 (dot_zero u (column vs s) (λ k. ap (λ (z : ℤ). entry u k *ℤ z) (past_none (length net.names) vs s short past k) ∙ *ℤ-zero (entry u k))))
      | inl lt ↦
          let less : f s ≤ℤ negsuc 0 = let a : f s ≤ℤ pos 0 = cut.falls s in let b : f s ≢ pos 0 = cut.some.1 in below (f s) a b in
          let more : dot (listed (length x) f) x ≤ℤ negsuc 0 = list_falls_more x f s (omega (arith, law.long, lt)) law.positive cut.falls less in
          omega (arith, ints, none, more)
    ]
  where
    below : (z : ℤ) → z ≤ℤ pos 0 → z ≢ pos 0 → z ≤ℤ negsuc 0
    below (pos zero) a b = absurd (b refl)
    below (pos (suc n)) a b = absurd (omega (arith, ints, a))
    below (negsuc n) a b = omega (arith, ints)

-- ---- duals

pub duals_independent : (vs : List (List ℤ)) → ((i : ℕ) → i < length vs → (dual : List ℤ) × IsDual vs i dual) → IsIndependent vs
duals_independent vs duals c long zero_sum i = elim (lt_or i (length vs)) [
  | inr past ↦ past_end c i (omega (arith, long, past))
  | inl lt ↦
      let d = duals i lt in
      let dual = d.0 in
      let at : (j : ℕ) → j < length vs → entry (dots vs dual) j ≡ dot dual (get_or vs j []) = λ j l. entry-dots vs dual j l ∙ dot-comm (get_or vs j []) dual in
      let others : (j : ℕ) → j ≢ i → entry c j *ℤ entry (dots vs dual) j ≡ pos 0 = λ j ne.
      elim (lt_or j (length vs)) [
        | inl l ↦ ap (λ (z : ℤ). entry c j *ℤ z) (at j l ∙ d.1.others j l (λ e. ne (sym e))) ∙ *ℤ-zero (entry c j)
        | inr past ↦ ap (λ (z : ℤ). z *ℤ entry (dots vs dual) j) (past_end c j (omega (arith, long, past))) ∙ zero-*ℤ (entry (dots vs dual) j)
      ] in
      let total : dot c (dots vs dual) ≡ pos 0 = across c dual vs ∙ listed_zeros dual (λ j. dot c (column vs j)) zero_sum in
      no_zero (entry (dots vs dual) i) (entry c i) (*ℤ_comm (entry (dots vs dual) i) (entry c i) ∙ sym (dot_single c (dots vs dual) i others) ∙ total) (λ e. d.1.own (sym (at i lt) ∙ e))
]
