-- Positive dependence and conservation do not depend on the numbering.
use Rattle.crn_laws.proofs.Prelude.{◌≡◌, ℕ, ◌<◌, inl, inr, List, [], length, get_or, sym, ap, subst, ◌∙◌, arith, ℤ, pos, ◌≤ℤ◌, Net, IsNetwork, dot, column, combination_at, IsPositive, IsPositivelyDependent, IsConservative, vectors, all_at, all_given, combined_past, lt_or, vectors_count, IsMoved, Renumbering, IsRenumbered, IsShared, RenumberedShareDependence}
use Rattle.crn_laws.proofs.Totals.{dot_moved}
use Rattle.crn_laws.proofs.Renumberings.{anew, column_moved, entry_back, moved_anew, turned_net, vector_moved}

positive_moved : (n m : ℕ) (p : Renumbering n m) (xs ys : List ℤ) → IsMoved n m p xs ys → IsPositive xs → IsPositive ys
positive_moved n m p xs ys h up = all_given (λ x. pos 1 ≤ℤ x) ys (pos 0) (λ k lt.
    let inside : k < m = omega (arith, lt, h.long_too) in
    subst (λ (x : ℤ). pos 1 ≤ℤ x) (sym (entry_back n m p xs ys h k inside)) (all_at (λ x. pos 1 ≤ℤ x) xs (p.back k) (pos 0) up (omega (arith, p.back_below k inside, h.long))))

-- what multiples of the reactions make of a species
pub combination_moved : (net other : Net) → IsNetwork net → IsNetwork other → (h : IsRenumbered net other) (a b : List ℤ) → IsMoved (length net.reactions) (length other.reactions) h.reactions a b
    → (t : ℕ) → t < length other.names → combination_at b (vectors other) t ≡ combination_at a (vectors net) (h.species.back t)
combination_moved net other n o h a b moved t lt =
    let s = h.species.back t in
    ap (combination_at b (vectors other)) (sym (h.species.to_back t lt))
    ∙ dot_moved (length net.reactions) (length other.reactions) h.reactions a b (column (vectors net) s) (column (vectors other) (h.species.to s)) moved (column_moved net other n o h s (h.species.back_below t lt))

pub dependent_anew : (net other : Net) → IsNetwork net → IsNetwork other → IsRenumbered net other → IsPositivelyDependent net → IsPositivelyDependent other
dependent_anew net other n o h (a, is) =
    let r = length net.reactions in
    let q = length other.reactions in
    let b = anew r q h.reactions a in
    let moved = moved_anew r q h.reactions a is.long in (
      b,
      record {
        long = moved.long_too;
        positive = positive_moved r q h.reactions a b moved is.positive;
        zero_sum = λ t. elim (lt_or t (length other.names)) as (λ _. combination_at b (vectors other) t ≡ pos 0) [
          | inl lt ↦ combination_moved net other n o h a b moved t lt ∙ is.zero_sum (h.species.back t)
          | inr past ↦ combined_past other o b t past
        ];
      },
    )

conservative_anew : (net other : Net) → IsNetwork net → IsNetwork other → IsRenumbered net other → IsConservative net → IsConservative other
conservative_anew net other n o h (x, is) =
    let s = length net.names in
    let t = length other.names in
    let y = anew s t h.species x in
    let moved = moved_anew s t h.species x is.long in (
      y,
      record {
        long = moved.long_too;
        positive = positive_moved s t h.species x y moved is.positive;
        conserved = all_given (λ v. dot y v ≡ pos 0) (vectors other) [] (λ r lt.
            let inside : r < length other.reactions = omega (arith, lt, vectors_count other) in
            let k = h.reactions.back r in
            let lk = h.reactions.back_below r inside in
            ap (λ (j : ℕ). dot y (get_or (vectors other) j [])) (sym (h.reactions.to_back r inside))
            ∙ dot_moved s t h.species x y (get_or (vectors net) k []) (get_or (vectors other) (h.reactions.to k) []) moved (vector_moved net other n o h k lk)
            ∙ all_at (λ v. dot x v ≡ pos 0) (vectors net) k [] is.conserved (omega (arith, lk, vectors_count net)));
      },
    )

-- what goes one way goes both ways
pub both_ways : (Has : Net → Type 0) → ((net other : Net) → IsNetwork net → IsNetwork other → IsRenumbered net other → Has net → Has other) → IsShared Has
both_ways Has step net other n o h = (step net other n o h, step other net o n (turned_net net other n h))

pub dependence_is_shared : RenumberedShareDependence
dependence_is_shared = record {
  dependent = both_ways IsPositivelyDependent dependent_anew;
  conservative = both_ways IsConservative conservative_anew;
}
