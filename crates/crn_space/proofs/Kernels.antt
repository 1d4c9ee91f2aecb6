-- A list of vectors of one length has an independent part that shows which weights all of them give nothing to, and independent relations for the rest.
use Rattle.crn_space.proofs.Prelude.{◌≡◌, ◌⊎◌, ℕ, suc, ◌+◌, inl, inr, List, [], ◌∷◌, length, map, refl, sym, ap, ◌∙◌, arith, ℤ, pos, ◌*ℤ◌, range_with_len, ints, length-map, IsIn, entry, dot, column, AreOfLength, IsZero, combination_at, IsIndependent, lt_or, past_end, length-column, no_zero, dot-comm, dot-zero, dots, comb, length-comb, entry-comb, transposed, Zero, Solves, null, Related, in_range, zero_from}
use lib.IntN.{*ℤ_comm, *ℤ-zero, zero-*ℤ}
use Rattle.crn_space.proofs.Few.{zero_entry}
use Rattle.crn_space.proofs.Parts.{IsPart, part_later, zero_more, spread}
use Rattle.crn_space.proofs.SpaceFew.{dots_none}

-- ---- independent, or related

pub solves_in : (rows : List (List ℤ)) (c row : List ℤ) → Solves rows c → IsIn row rows → dot row c ≡ pos 0
solves_in [] c row h i = absurd i
solves_in (r ∷ rows) c row h (inl e) = ap (λ (v : List ℤ). dot v c) e ∙ h.0
solves_in (r ∷ rows) c row h (inr i) = solves_in rows c row h.1 i

columns_solved : (vs : List (List ℤ)) (c : List ℤ) (ks : List ℕ) → Solves (map (column vs) ks) c → (k : ℕ) → IsIn k ks → dot c (column vs k) ≡ pos 0
columns_solved vs c [] h k i = absurd i
columns_solved vs c (j ∷ ks) h k (inl e) = ap (λ (m : ℕ). dot c (column vs m)) e ∙ dot-comm c (column vs j) ∙ h.0
columns_solved vs c (j ∷ ks) h k (inr i) = columns_solved vs c ks h.1 k i

solves_columns : (vs : List (List ℤ)) (c : List ℤ) (ks : List ℕ) → ((k : ℕ) → dot c (column vs k) ≡ pos 0) → Solves (map (column vs) ks) c
solves_columns vs c [] h = tt
solves_columns vs c (j ∷ ks) h = (dot-comm (column vs j) c ∙ h j, solves_columns vs c ks h)

columns_wide : (vs : List (List ℤ)) (ks : List ℕ) → AreOfLength (length vs) (map (column vs) ks)
columns_wide vs [] = tt
columns_wide vs (j ∷ ks) = (length-column vs j, columns_wide vs ks)

-- vectors of one length are independent, or some coefficients that are not zero combine them to zero
pub free_or : (n : ℕ) (vs : List (List ℤ)) → AreOfLength n vs → IsIndependent vs ⊎ Related n vs
free_or n vs wide =
    let ks = range_with_len 0 n in
    elim (null (length vs) (map (column vs) ks) (columns_wide vs ks)) as (λ _. IsIndependent vs ⊎ Related n vs) [
      | inl f ↦ inr (record {
        c = f.solution;
        long = f.long;
        nonzero = f.nonzero;
        none = zero_from (comb n f.solution vs) (λ k lt. elim (lt_or k n) as (λ _. entry (comb n f.solution vs) k ≡ pos 0) [
          | inl lt ↦ entry-comb n f.solution vs k wide ∙ columns_solved vs f.solution ks f.solves k (in_range k 0 n (omega arith) (omega (arith, lt)))
          | inr le ↦ past_end (comb n f.solution vs) k (omega (arith, length-comb n f.solution vs wide, le))
        ]);
      })
      | inr f ↦ inl (λ c long none. zero_entry c (f.only c long (solves_columns vs c ks none)))
    ]

-- ---- an independent part, and relations of the rest

pub record Reduced (n : ℕ) (vs : List (List ℤ)) : Type 0 where
  pub part : List (List ℤ)
  pub is : IsPart part vs
  pub free : IsIndependent part
  -- what the part gives nothing to, all give nothing to
  pub kept : (w : List ℤ) → ((u : List ℤ) → IsIn u part → dot u w ≡ pos 0) → (v : List ℤ) → IsIn v vs → dot v w ≡ pos 0
  -- coefficients that combine all to zero
  pub relations : List (List ℤ)
  pub long : AreOfLength (length vs) relations
  pub none : (a : List ℤ) → IsIn a relations → (k : ℕ) → combination_at a vs k ≡ pos 0
  pub apart : IsIndependent relations
  pub count : length relations + length part ≡ length vs

abbrev with_zero : List ℤ → List ℤ
with_zero a = pos 0 ∷ a

with_zeros_long : (n : ℕ) (rels : List (List ℤ)) → AreOfLength n rels → AreOfLength (suc n) (map with_zero rels)
with_zeros_long n [] h = tt
with_zeros_long n (a ∷ rels) h = (omega (arith, h.0), with_zeros_long n rels h.1)

with_zeros_none : (v : List ℤ) (vs rels : List (List ℤ)) → ((a : List ℤ) → IsIn a rels → (k : ℕ) → combination_at a vs k ≡ pos 0) → (b : List ℤ) → IsIn b (map with_zero rels) → (k : ℕ) → combination_at b (v ∷ vs) k ≡ pos 0
with_zeros_none v vs [] h b i k = absurd i
with_zeros_none v vs (a ∷ rels) h b (inl e) k =
    let here : combination_at (with_zero a) (v ∷ vs) k ≡ pos 0 = omega (arith, ints, zero-*ℤ (entry v k), h a (inl refl) k) in
    ap (λ (c : List ℤ). combination_at c (v ∷ vs) k) e ∙ here
with_zeros_none v vs (a ∷ rels) h b (inr i) k = with_zeros_none v vs rels (λ c j. h c (inr j)) b i k

-- the columns of relations with a zero before each
column_first : (rels : List (List ℤ)) (c : List ℤ) → dot c (column (map with_zero rels) 0) ≡ pos 0
column_first [] [] = refl
column_first [] (x ∷ c) = refl
column_first (a ∷ rels) [] = refl
column_first (a ∷ rels) (x ∷ c) = omega (arith, ints, *ℤ-zero x, column_first rels c)

column_later : (rels : List (List ℤ)) (k : ℕ) → column (map with_zero rels) (suc k) ≡ column rels k
column_later [] k = refl
column_later (a ∷ rels) k = ap (λ (t : List ℤ). entry a k ∷ t) (column_later rels k)

with_zeros_apart : (rels : List (List ℤ)) → IsIndependent rels → IsIndependent (map with_zero rels)
with_zeros_apart rels free c long none =
    free c (long ∙ length-map rels with_zero) (λ k. ap (λ (t : List ℤ). dot c t) (sym (column_later rels k)) ∙ none (suc k))

more_apart : (x : ℤ) (b : List ℤ) (rels : List (List ℤ)) → ¬ (x ≡ pos 0) → IsIndependent rels → IsIndependent ((x ∷ b) ∷ map with_zero rels)
more_apart x b rels some free [] long none = absurd (omega (arith, long))
more_apart x b rels some free (y ∷ c) long none =
    let product : x *ℤ y ≡ pos 0 = omega (arith, ints, none 0, column_first rels c, *ℤ_comm x y) in
    let first : y ≡ pos 0 = no_zero x y product some in
    let rest : IsZero c = free c (omega (arith, long, length-map rels with_zero)) (λ k.
    let e : y *ℤ entry b k ≡ pos 0 *ℤ entry b k = ap (λ (t : ℤ). t *ℤ entry b k) first in
    let f : dot c (column (map with_zero rels) (suc k)) ≡ dot c (column rels k) = ap (λ (t : List ℤ). dot c t) (column_later rels k) in
    omega (arith, ints, none (suc k), e, f, zero-*ℤ (entry b k))) in
    zero_more y c first rest

-- a relation of a vector and independent ones has a coefficient of the vector
pub head_counts : (n : ℕ) (v : List ℤ) (us : List (List ℤ)) (x : ℤ) (c : List ℤ) → AreOfLength n (v ∷ us) → IsIndependent us → length c ≡ length us → ¬ (Zero (x ∷ c)) → ((k : ℕ) → combination_at (x ∷ c) (v ∷ us) k ≡ pos 0) → ¬ (x ≡ pos 0)
head_counts n v us x c wide free long some none e =
    some (
      e,
      zero_from c (λ i lt. free c long (λ k.
          let f : x *ℤ entry v k ≡ pos 0 *ℤ entry v k = ap (λ (t : ℤ). t *ℤ entry v k) e in
          omega (arith, ints, none k, f, zero-*ℤ (entry v k))) i),
    )

-- the part of the list without its first vector, and one relation more
related_more : (n : ℕ) (v : List ℤ) (vs : List (List ℤ)) (r : Reduced n vs) (c : List ℤ) → AreOfLength n (v ∷ r.part) → length c ≡ suc (length r.part) → ¬ (Zero c) → ((k : ℕ) → combination_at c (v ∷ r.part) k ≡ pos 0) → Zero (comb n c (v ∷ r.part)) → Reduced n (v ∷ vs)
related_more n v vs r [] wide long some none gone = absurd (omega (arith, long))
related_more n v vs r (x ∷ c) wide long some none gone =
    let short : length c ≡ length r.part = omega (arith, long) in
    let head : ¬ (x ≡ pos 0) = head_counts n v r.part x c wide r.free short some none in
    let s = spread r.part vs c short r.is in
    record {
      part = r.part;
      is = part_later r.part vs v r.is;
      free = r.free;
      kept = λ w h u i. elim i as (λ _. dot u w ≡ pos 0) [
        | inl e ↦
            let total : dot (x ∷ c) (dots (v ∷ r.part) w) ≡ pos 0 = transposed n (x ∷ c) w (v ∷ r.part) wide ∙ dot-comm (comb n (x ∷ c) (v ∷ r.part)) w ∙ dot-zero w (comb n (x ∷ c) (v ∷ r.part)) gone in
            let product : x *ℤ dot v w ≡ pos 0 = omega (arith, ints, total, dots_none r.part w c h) in
            ap (λ (t : List ℤ). dot t w) e ∙ no_zero x (dot v w) product head
        | inr j ↦ r.kept w h u j
      ];
      relations = (x ∷ s.b) ∷ map with_zero r.relations;
      long = (omega (arith, s.long), with_zeros_long (length vs) r.relations r.long);
      none = λ a i k. elim i as (λ _. combination_at a (v ∷ vs) k ≡ pos 0) [
        | inl e ↦
            let here : combination_at (x ∷ s.b) (v ∷ vs) k ≡ pos 0 = omega (arith, ints, none k, s.same k) in
            ap (λ (t : List ℤ). combination_at t (v ∷ vs) k) e ∙ here
        | inr j ↦ with_zeros_none v vs r.relations r.none a j k
      ];
      apart = more_apart x s.b r.relations head r.apart;
      count = omega (arith, r.count, length-map r.relations with_zero);
    }

-- the part with one more vector
free_more : (n : ℕ) (v : List ℤ) (vs : List (List ℤ)) (r : Reduced n vs) → IsIndependent (v ∷ r.part) → Reduced n (v ∷ vs)
free_more n v vs r free = record {
  part = v ∷ r.part;
  is = inl (refl, r.is);
  free = free;
  kept = λ w h u i. elim i as (λ _. dot u w ≡ pos 0) [
    | inl e ↦ h u (inl e)
    | inr j ↦ r.kept w (λ t q. h t (inr q)) u j
  ];
  relations = map with_zero r.relations;
  long = with_zeros_long (length vs) r.relations r.long;
  none = with_zeros_none v vs r.relations r.none;
  apart = with_zeros_apart r.relations r.apart;
  count = omega (arith, r.count, length-map r.relations with_zero);
}

part_wide : (n : ℕ) (us vs : List (List ℤ)) → IsPart us vs → AreOfLength n vs → AreOfLength n us
part_wide n [] vs h w = tt
part_wide n (u ∷ us) [] h w = absurd h
part_wide n (u ∷ us) (v ∷ vs) (inl h) w = (ap length h.0 ∙ w.0, part_wide n us vs h.1 w.1)
part_wide n (u ∷ us) (v ∷ vs) (inr h) w = part_wide n (u ∷ us) vs h w.1

none_free : IsIndependent []
none_free [] long none k = refl
none_free (x ∷ c) long none k = absurd (omega (arith, long))

pub reduced : (n : ℕ) (vs : List (List ℤ)) → AreOfLength n vs → Reduced n vs
reduced n [] wide = record {
  part = [];
  is = tt;
  free = none_free;
  kept = λ w h v i. absurd i;
  relations = [];
  long = tt;
  none = λ a i k. absurd i;
  apart = none_free;
  count = omega arith;
}
reduced n (v ∷ vs) wide =
    let r = reduced n vs wide.1 in
    let both : AreOfLength n (v ∷ r.part) = (wide.0, part_wide n r.part vs r.is wide.1) in
    elim (free_or n (v ∷ r.part) both) as (λ _. Reduced n (v ∷ vs)) [
      | inl free ↦ free_more n v vs r free
      | inr q ↦ related_more n v vs r q.c both q.long q.nonzero (λ k. sym (entry-comb n q.c (v ∷ r.part) k both) ∙ zero_entry (comb n q.c (v ∷ r.part)) q.none k) q.none
    ]
