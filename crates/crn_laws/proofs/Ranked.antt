-- Each list of vectors of one length has a rank.
use Rattle.crn_laws.proofs.Prelude.{◌≡◌, ℕ, zero, suc, ◌<◌, inl, inr, List, [], ◌∷◌, length, get_or, map, refl, sym, subst, ◌∙◌, arith, ℤ, pos, negsuc, ints, IsIn, entry, column, scale, AreOfLength, combination_at, IsIndependent, DependsOn, IsChoice, IsRank, chosen, above_zero, ascending_suc, base_gives_rank, below_suc, chosen-suc, comb, dot-scale, entry-comb, length-scale, length-zeros, neg-mul, past_end, row_count, zeros, zeros-dot, free_or, head_counts, zero_entry}
use Rattle.crn_vec.proofs.CallerLemmas.{Zero}
use lib.IntN.{zero-*ℤ}

-- independent vectors of a list, on which all depend
record Base (vs : List (List ℤ)) : Type 0 where
  places : List ℕ
  choice : IsChoice (length vs) places
  free : IsIndependent (chosen places vs)
  spans : (k : ℕ) → k < length vs → DependsOn (get_or vs k []) (chosen places vs)

chosen_wide : (n : ℕ) (vs : List (List ℤ)) (places : List ℕ) → AreOfLength n vs → ((k : ℕ) → IsIn k places → k < length vs) → AreOfLength n (chosen places vs)
chosen_wide n vs [] wide below = tt
chosen_wide n vs (p ∷ places) wide below = (row_count n vs p wide (below p (inl refl)), chosen_wide n vs places wide (λ k i. below k (inr i)))

-- ---- dependence on a vector and others

depends_self : (v : List ℤ) (us : List (List ℤ)) → DependsOn v (v ∷ us)
depends_self v us = record {
  d = pos 1;
  positive = omega (arith, ints);
  c = pos 1 ∷ zeros (length us);
  long = omega (arith, length-zeros (length us));
  is = λ k. omega (arith, ints, zeros-dot (length us) (column us k));
}

depends_more : (v w : List ℤ) (us : List (List ℤ)) → DependsOn w us → DependsOn w (v ∷ us)
depends_more v w us h = record {
  d = h.d;
  positive = h.positive;
  c = pos 0 ∷ h.c;
  long = omega (arith, h.long);
  is = λ k. omega (arith, ints, zero-*ℤ (entry v k), h.is k);
}

-- a vector of which a multiple that is not zero makes zero with others depends on them
depends_by : (v : List ℤ) (us : List (List ℤ)) (x : ℤ) (c : List ℤ) → ¬ (x ≡ pos 0) → length c ≡ length us → ((k : ℕ) → combination_at (x ∷ c) (v ∷ us) k ≡ pos 0) → DependsOn v us
depends_by v us (pos zero) c some long none = absurd (some refl)
depends_by v us (pos (suc n)) c some long none = record {
  d = pos (suc n);
  positive = omega (arith, ints);
  c = scale (negsuc 0) c;
  long = length-scale (negsuc 0) c ∙ long;
  is = λ k. omega (arith, ints, none k, dot-scale (negsuc 0) c (column us k));
}
depends_by v us (negsuc n) c some long none = record {
  d = pos (suc n);
  positive = omega (arith, ints);
  c = c;
  long = long;
  is = λ k. omega (arith, ints, none k, neg-mul (pos (suc n)) (entry v k));
}

depends_if_related : (n : ℕ) (v : List ℤ) (us : List (List ℤ)) (c : List ℤ) → AreOfLength n (v ∷ us) → IsIndependent us → length c ≡ length (v ∷ us) → ¬ (Zero c) → Zero (comb n c (v ∷ us)) → DependsOn v us
depends_if_related n v us [] wide free long some gone = absurd (omega (arith, long))
depends_if_related n v us (x ∷ c) wide free long some gone =
    let short : length c ≡ length us = omega (arith, long) in
    let none : (k : ℕ) → combination_at (x ∷ c) (v ∷ us) k ≡ pos 0 = λ k. sym (entry-comb n (x ∷ c) (v ∷ us) k wide) ∙ zero_entry (comb n (x ∷ c) (v ∷ us)) gone k in
    depends_by v us x c (head_counts n v us x c wide free short some none) short none

-- ---- the base, from the last vector to the first

with_first : (v : List ℤ) (vs us : List (List ℤ)) → ((k : ℕ) → k < length vs → DependsOn (get_or vs k []) us) → DependsOn v us → (k : ℕ) → k < length (v ∷ vs) → DependsOn (get_or (v ∷ vs) k []) us
with_first v vs us rest here zero lt = here
with_first v vs us rest here (suc k) lt = rest k (omega (arith, lt))

base : (n : ℕ) (vs : List (List ℤ)) → AreOfLength n vs → Base vs
base n [] wide = record { places = []; choice = record { ascending = tt; below = λ k i. absurd i }; free = λ c long none k. past_end c k (omega (arith, long)); spans = λ k lt. absurd (omega (arith, lt)) }
base n (v ∷ vs) wide =
    let b = base n vs wide.1 in
    let us = chosen b.places vs in
    let later = map suc b.places in
    let same : us ≡ chosen later (v ∷ vs) = sym (chosen-suc b.places v vs) in
    let both : AreOfLength n (v ∷ us) = (wide.0, chosen_wide n vs b.places wide.1 b.choice.below) in
    let below = below_suc (length vs) b.places b.choice.below in
    elim (free_or n (v ∷ us) both) as (λ _. Base (v ∷ vs)) [
      | inl free ↦ record {
        places = 0 ∷ later;
        choice = record {
          ascending = above_zero b.places b.choice.ascending;
          below = λ k i. elim i as (λ _. k < suc (length vs)) [ inl e ↦ omega (arith, e) | inr j ↦ below k j ];
        };
        free = subst (λ (ws : List (List ℤ)). IsIndependent (v ∷ ws)) same free;
        spans = subst (λ (ws : List (List ℤ)). (k : ℕ) → k < length (v ∷ vs) → DependsOn (get_or (v ∷ vs) k []) (v ∷ ws)) same
            (with_first v vs (v ∷ us) (λ k lt. depends_more v (get_or vs k []) us (b.spans k lt)) (depends_self v us));
      }
      | inr r ↦ record {
        places = later;
        choice = record { ascending = ascending_suc b.places b.choice.ascending; below = below };
        free = subst IsIndependent same b.free;
        spans = subst (λ (ws : List (List ℤ)). (k : ℕ) → k < length (v ∷ vs) → DependsOn (get_or (v ∷ vs) k []) ws) same
            (with_first v vs us b.spans (depends_if_related n v us r.c both b.free r.long r.nonzero r.none));
      }
    ]

pub ranked : (n : ℕ) (vs : List (List ℤ)) → AreOfLength n vs → (s : ℕ) × IsRank vs s
ranked n vs wide = let b = base n vs wide in (length b.places, base_gives_rank vs b.places b.choice b.free b.spans)
