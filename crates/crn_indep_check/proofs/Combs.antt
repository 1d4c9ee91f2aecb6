-- What the tests of a rank proof say of each reaction: it is in the base, or its combination of the base is.
use Rattle.crn_indep_check.proofs.Prelude.{◌≡◌, ◌≢◌, ◌⊎◌, ℕ, suc, ◌+◌, ◌==◌, true, false, inl, inr, List, [], ◌∷◌, length, drop, refl, sym, ap, subst, ◌∙◌, ne_eqb, arith, ℤ, not, AllByRecursion, list_any, cases_eq, eqb-true, eq-eqb, length-map, length-drop, IsIn, Net, entry, DependsOn, any_is, filter_from, filter_has, RankProof, AreFree, vector_of, vectors_of, IsComb, outside, dual_tests, comb_tests, rank_tests, AllHold, hold_parts, all_reactions, combined, comb_for}

-- ---- tests under other codes

-- ---- the base and the others

pub in_or_out : (base members : List ℕ) (r : ℕ) → IsIn r members → IsIn r base ⊎ IsIn r (outside base members)
in_or_out base members r i = elim (any_is (λ b. b == r) r (λ b. (λ h. eqb-true b r h, λ e. eq-eqb b r e)) base) as (λ _. IsIn r base ⊎ IsIn r (outside base members)) [
  | inl a ↦ inl a.1
  | inr b ↦ inr (filter_has (λ q. not (list_any (λ b. b == q) base)) members r i (ap not b.0))
]

pub out_of : (base members : List ℕ) (r : ℕ) → IsIn r (outside base members) → IsIn r members × (IsIn r base → ⊥)
out_of base members r i =
    let f = filter_from (λ q. not (list_any (λ b. b == q) base)) members r i in (
      f.0,
      λ j. elim (any_is (λ b. b == r) r (λ b. (λ h. eqb-true b r h, λ e. eq-eqb b r e)) base) as (λ _. ⊥) [
        | inl a ↦ absurd (let e : not true ≡ true = sym (ap not a.0) ∙ f.1 in cc)
        | inr b ↦ b.1 j
      ],
    )

-- ---- combinations

entry_rest : (xs : List ℤ) (i : ℕ) → entry (drop 1 xs) i ≡ entry xs (suc i)
entry_rest [] i = refl
entry_rest (x ∷ xs) i = refl

pub comb_here : (q : ℕ) (qs : List ℕ) (comb : List ℤ) (combs : List (List ℤ)) (r : ℕ) → q ≡ r → comb_for (q ∷ qs) (comb ∷ combs) r ≡ comb
comb_here q qs comb combs r e = let hit : (q == r) ≡ true = eq-eqb q r e in rw hit refl

pub comb_later : (q : ℕ) (qs : List ℕ) (comb : List ℤ) (combs : List (List ℤ)) (r : ℕ) → q ≢ r → comb_for (q ∷ qs) (comb ∷ combs) r ≡ comb_for qs combs r
comb_later q qs comb combs r ne = let miss : (q == r) ≡ false = ne_eqb q r ne in rw miss refl

-- the combination of a reaction that has one has its length and passes its test
pub comb_is : (net : Net) (vs : List (List ℤ)) (part width : ℕ) (qs : List ℕ) (combs : List (List ℤ)) → AllHold (comb_tests net vs part qs combs) → AllByRecursion (AreFree width) combs → (r : ℕ) → IsIn r qs
    → (length (comb_for qs combs r) ≡ width) × IsComb vs (vector_of net r) (comb_for qs combs r)
comb_is net vs part width [] combs h w r i = absurd i
comb_is net vs part width (q ∷ qs) [] h w r i = absurd h.0
comb_is net vs part width (q ∷ qs) (comb ∷ combs) h w r i = elim (cases_eq q r) as (λ _. (length (comb_for (q ∷ qs) (comb ∷ combs) r) ≡ width) × IsComb vs (vector_of net r) (comb_for (q ∷ qs) (comb ∷ combs) r)) [
  | inl e ↦
      let same = comb_here q qs comb combs r e in
      let own : IsComb vs (vector_of net r) comb = subst (λ (k : ℕ). IsComb vs (vector_of net k) comb) e h.0 in
      (ap length same ∙ w.0.long, subst (IsComb vs (vector_of net r)) (sym same) own)
  | inr ne ↦
      let j : IsIn r qs = elim i as (λ _. IsIn r qs) [ inl e ↦ absurd (ne (sym e)) | inr j ↦ j ] in
      let rest = comb_is net vs (suc part) width qs combs h.1 w.1 r j in
      let same = comb_later q qs comb combs r ne in
      (ap length same ∙ rest.0, subst (IsComb vs (vector_of net r)) (sym same) rest.1)
]

-- a reaction outside the base depends on it, with the numbers of its combination
pub record Combined (net : Net) (proof : RankProof) (r : ℕ) : Type 0 where
  pub on : DependsOn (vector_of net r) (vectors_of net proof.base.list)
  pub numbers : (i : ℕ) → entry on.c i ≡ entry (comb_for (combined net proof) proof.combs r) (suc i)

pub combined_by : (net : Net) (proof : RankProof) → AllByRecursion (AreFree (suc (length proof.base.list))) proof.combs → AllHold (rank_tests net (all_reactions net) 1 proof.base.list proof.duals proof.combs) → (r : ℕ) → IsIn r (combined net proof) → Combined net proof r
combined_by net proof w h r i =
    let base = proof.base.list in
    let vs = vectors_of net base in
    let split = hold_parts (dual_tests vs (1 + 1) 0 proof.duals) (comb_tests net vs (1 + 1 + length base) (outside base (all_reactions net)) proof.combs) h in
    let c = comb_is net vs (1 + 1 + length base) (suc (length base)) (combined net proof) proof.combs split.1 w r i in
    let comb = comb_for (combined net proof) proof.combs r in
    record {
      on = record { d = entry comb 0; positive = c.1.positive; c = drop 1 comb; long = length-drop 1 comb ∙ omega (arith, c.0, length-map base (vector_of net)); is = c.1.is };
      numbers = λ i. entry_rest comb i;
    }
