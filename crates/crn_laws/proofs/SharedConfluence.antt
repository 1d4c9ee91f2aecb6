-- The confluence vector does not depend on the numbering, but for its sign in a weakly reversible network.
use Rattle.crn_laws.proofs.Prelude.{◌≡◌, ◌≢◌, ◌⊎◌, ℕ, zero, suc, ◌<◌, inl, inr, List, [], length, get_or, refl, sym, ap, ap₂, subst, ◌∙◌, arith, ℤ, pos, negsuc, neg_ℤ, ◌*ℤ◌, unsigned_abs, ◌∣◌, ints, dvd-zero, Net, IsNetwork, SameClass, SameStrong, IsWeaklyReversible, entry, column, combination_at, IsPrimitive, AreMarks, SumsTo, HasConfluenceLine, InConfluenceSpace, IsConfluenceVector, IsNormalVector, IsRegular, negative, column_past, confluence_vectors_are_one, dot_zero, entry-column, entry-scale, length-column, length-scale, lt_or, minus_one, past_end, vector_long, IsMoved, IsRenumbered, IsVectorAnew, Renumbering, RenumberedShareConfluence}
use lib.IntN.{*ℤ-zero}
use Rattle.crn_laws.proofs.Primitive.{primitive_same}
use Rattle.crn_laws.proofs.Renumberings.{anew, entry_back, moved_anew, turned, turned_net}
use Rattle.crn_laws.proofs.SharedClasses.{regular_anew, terminal_anew}
use Rattle.crn_laws.proofs.SharedDependence.{both_ways}
use Rattle.crn_laws.proofs.SharedWalks.{class_anew, strong_anew, weakly_anew}
use Rattle.crn_laws.proofs.Totals.{dot_moved}

-- ---- lists numbered anew

-- numbered back
pub moved_back : (n m : ℕ) (p : Renumbering n m) (xs ys : List ℤ) → IsMoved n m p xs ys → IsMoved m n (turned n m p) ys xs
moved_back n m p xs ys h = record { long = h.long_too; long_too = h.long; same = λ k lt. sym (entry_back n m p xs ys h k lt) }

-- some entry that is not zero
pub some_anew : (n m : ℕ) (p : Renumbering n m) (xs ys : List ℤ) → IsMoved n m p xs ys → (k : ℕ) × (entry xs k ≢ pos 0) → (k : ℕ) × (entry ys k ≢ pos 0)
some_anew n m p xs ys h (k, some) = elim (lt_or k n) as (λ _. (k : ℕ) × (entry ys k ≢ pos 0)) [
  | inl lt ↦ (p.to k, λ e. some (sym (h.same k lt) ∙ e))
  | inr past ↦ absurd (some (past_end xs k (omega (arith, past, h.long))))
]

-- a sum over a property that goes over both ways
pub sums_anew : (n m : ℕ) (p : Renumbering n m) (g k : List ℤ) → IsMoved n m p g k → (P Q : ℕ → Type 0) → ((y : ℕ) → y < n → P y → Q (p.to y)) → ((z : ℕ) → z < m → Q z → P (p.back z)) → (x : ℤ) → SumsTo g P x → SumsTo k Q x
sums_anew n m p g k h P Q over under x s =
    let marks = anew n m p s.marks in
    let moved = moved_anew n m p s.marks (s.long ∙ h.long) in
    let right : AreMarks Q marks = λ z lt.
    let inside : z < m = omega (arith, lt, moved.long_too) in
    let y = p.back z in
    let below : y < n = p.back_below z inside in
    let same : entry marks z ≡ entry s.marks y = entry_back n m p s.marks marks moved z inside in
    let long = s.long in
    let long_too = h.long in
    elim (s.right y (omega (arith, below, long, long_too))) as (λ _. (Q z × (entry marks z ≡ pos 1)) ⊎ ((Q z → ⊥) × (entry marks z ≡ pos 0))) [
      | inl here ↦ inl (subst Q (p.to_back z inside) (over y below here.0), same ∙ here.1)
      | inr out ↦ inr (λ q. out.0 (under z inside q), same ∙ out.1)
    ] in
    record { marks = marks; long = moved.long_too ∙ sym h.long_too; right = right; is = dot_moved n m p s.marks marks g k moved h ∙ s.is }

-- ---- the confluence space

-- the entries of a species in the complexes
complexes_moved : (net other : Net) (h : IsRenumbered net other) (t : ℕ) → t < length other.names → IsMoved (length net.complexes) (length other.complexes) h.complexes (column net.complexes (h.species.back t)) (column other.complexes t)
complexes_moved net other h t lt =
    let s = h.species.back t in
    record {
      long = length-column net.complexes s;
      long_too = length-column other.complexes t;
      same = λ c lc.
          entry-column other.complexes t (h.complexes.to c)
          ∙ ap (λ (k : ℕ). entry (get_or other.complexes (h.complexes.to c) []) k) (sym (h.species.to_back t lt))
          ∙ h.amounts c s lc (h.species.back_below t lt)
          ∙ sym (entry-column net.complexes s c);
    }

space_anew : (net other : Net) → IsNetwork net → IsNetwork other → (h : IsRenumbered net other) (g k : List ℤ) → IsVectorAnew net other h g k → InConfluenceSpace net g → InConfluenceSpace other k
space_anew net other n o h g k moved space =
    let turned = turned_net net other n h in
    let to = h.complexes.to in
    let back = h.complexes.back in
    record {
      long = moved.long_too;
      balance = λ t. elim (lt_or t (length other.names)) as (λ _. combination_at k other.complexes t ≡ pos 0) [
        | inl lt ↦
            dot_moved (length net.complexes) (length other.complexes) h.complexes g k (column net.complexes (h.species.back t)) (column other.complexes t) moved (complexes_moved net other h t lt)
            ∙ space.balance (h.species.back t)
        | inr past ↦
            let none = column_past other.complexes (length other.names) t (λ j lj. vector_long (length other.names) other.complexes o.partial.vectors j lj) past in
            dot_zero k (column other.complexes t) (λ j. ap (λ (x : ℤ). entry k j *ℤ x) (none j) ∙ *ℤ-zero (entry k j))
      ];
      classes = λ z lt. sums_anew (length net.complexes) (length other.complexes) h.complexes g k moved (SameClass net.reactions (back z)) (SameClass other.reactions z)
          (λ y below walk. subst (λ (a : ℕ). SameClass other.reactions a (to y)) (h.complexes.to_back z lt) (class_anew net other h (back z) y walk))
          (λ w below walk. class_anew other net turned z w walk)
          (pos 0) (space.classes (back z) (h.complexes.back_below z lt));
    }

vector_anew : (net other : Net) → IsNetwork net → IsNetwork other → (h : IsRenumbered net other) (g k : List ℤ) → IsVectorAnew net other h g k → IsConfluenceVector net g → IsConfluenceVector other k
vector_anew net other n o h g k moved c =
    let turned = turned_net net other n h in
    let to = h.complexes.to in
    let back = h.complexes.back in
    record {
      space = space_anew net other n o h g k moved c.space;
      some = some_anew (length net.complexes) (length other.complexes) h.complexes g k moved c.some;
      gathers = λ z lt term.
          let there = c.gathers (back z) (h.complexes.back_below z lt) (terminal_anew other net o n turned z lt term) in (
            there.0,
            sums_anew (length net.complexes) (length other.complexes) h.complexes g k moved (SameStrong net.reactions (back z)) (SameStrong other.reactions z)
                (λ y below s. subst (λ (a : ℕ). SameStrong other.reactions a (to y)) (h.complexes.to_back z lt) (strong_anew net other h (back z) y s))
                (λ w below s. strong_anew other net turned z w s)
                there.0 there.1,
            there.2,
          );
    }

-- ---- the line

-- the place of entries in the old order
record Placed (g a k b : List ℤ) (i : ℕ) : Type 0 where
  place : ℕ
  first : entry g i ≡ entry a place
  second : entry k i ≡ entry b place

placed : (n m : ℕ) (p : Renumbering n m) (g a k b : List ℤ) → IsMoved n m p g a → IsMoved n m p k b → (i : ℕ) → Placed g a k b i
placed n m p g a k b h q i = elim (lt_or i n) as (λ _. Placed g a k b i) [
  | inl lt ↦ record { place = p.to i; first = sym (h.same i lt); second = sym (q.same i lt) }
  | inr past ↦ record {
    place = m;
    first = past_end g i (omega (arith, past, h.long)) ∙ sym (past_end a m (omega (arith, h.long_too)));
    second = past_end k i (omega (arith, past, q.long)) ∙ sym (past_end b m (omega (arith, q.long_too)));
  }
]

line_anew : (net other : Net) → IsNetwork net → IsNetwork other → IsRenumbered net other → HasConfluenceLine net → HasConfluenceLine other
line_anew net other n o h line =
    let c = length net.complexes in
    let d = length other.complexes in
    let g = line.some.0 in
    let there = anew c d h.complexes g in
    let moved = moved_anew c d h.complexes g line.some.1.long in
    let turned_h = turned_net net other n h in
    record {
      some = (there, space_anew net other n o h g there moved line.some.1, some_anew c d h.complexes g there moved line.some.2);
      one = λ u v su sv i k.
          let a = anew d c turned_h.complexes u in
          let b = anew d c turned_h.complexes v in
          let ma = moved_anew d c turned_h.complexes u su.long in
          let mb = moved_anew d c turned_h.complexes v sv.long in
          let one = line.one a b (space_anew other net o n turned_h u a ma su) (space_anew other net o n turned_h v b mb sv) in
          let p = placed d c turned_h.complexes u a v b ma mb i in
          let q = placed d c turned_h.complexes u a v b ma mb k in
          ap₂ ◌*ℤ◌ p.first q.second ∙ one p.place q.place ∙ sym (ap₂ ◌*ℤ◌ q.first p.second);
    }

-- ---- the normal vector

primitive_anew : (n m : ℕ) (p : Renumbering n m) (g k : List ℤ) → IsMoved n m p g k → IsPrimitive g → IsPrimitive k
primitive_anew n m p g k h prim d all = prim d (λ j. elim (lt_or j n) as (λ _. d ∣ unsigned_abs (entry g j)) [
  | inl lt ↦ subst (λ (x : ℤ). d ∣ unsigned_abs x) (h.same j lt) (all (p.to j))
  | inr past ↦ subst (λ (x : ℤ). d ∣ unsigned_abs x) (sym (past_end g j (omega (arith, past, h.long)))) (dvd-zero d)
])

negative_is : (k l : List ℤ) (j : ℕ) → l ≡ negative k → entry l j ≡ neg_ℤ (entry k j)
negative_is k l j e = ap (λ (xs : List ℤ). entry xs j) e ∙ entry-scale (negsuc 0) k j ∙ minus_one (entry k j)

negative_size : (x : ℤ) → unsigned_abs (neg_ℤ x) ≡ unsigned_abs x
negative_size (pos zero) = refl
negative_size (pos (suc n)) = refl
negative_size (negsuc n) = refl

primitive_negative : (k : List ℤ) → IsPrimitive k → IsPrimitive (negative k)
primitive_negative k prim d all = prim d (λ j. subst (λ (n : ℕ). d ∣ n) (ap unsigned_abs (negative_is k (negative k) j refl) ∙ negative_size (entry k j)) (all j))

normal_anew : (net other : Net) (h : IsRenumbered net other) (g k : List ℤ) → IsNetwork net → IsNetwork other → IsRegular net → HasConfluenceLine net → IsNormalVector net g → IsNormalVector other k
    → IsVectorAnew net other h g k ⊎ (IsVectorAnew net other h (negative g) k × IsWeaklyReversible net.reactions)
normal_anew net other h g k n o regular line normal also =
    let c = length net.complexes in
    let d = length other.complexes in
    let there = anew c d h.complexes g in
    let moved = moved_anew c d h.complexes g normal.confluence.space.long in
    let prim = primitive_anew c d h.complexes g there moved normal.primitive in
    let ones = confluence_vectors_are_one other o (regular_anew net other n o h regular) (line_anew net other n o h line) in
    let long_too = also.confluence.space.long in
    elim (ones.one there k (vector_anew net other n o h g there moved normal.confluence) also.confluence) as (λ _. IsVectorAnew net other h g k ⊎ (IsVectorAnew net other h (negative g) k × IsWeaklyReversible net.reactions)) [
      | inl m ↦
          let same = primitive_same there k prim also.primitive m in
          inl (record { long = moved.long; long_too = long_too; same = λ y lt. sym (same (h.complexes.to y)) ∙ moved.same y lt })
      | inr (m, weak) ↦
          let same = primitive_same there (negative k) prim (primitive_negative k also.primitive) m in
          let opposite : (j : ℕ) → entry k j ≡ neg_ℤ (entry there j) = λ j. let e = same j ∙ negative_is k (negative k) j refl in omega (arith, ints, e) in
          inr (
            record {
              long = length-scale (negsuc 0) g ∙ moved.long;
              long_too = long_too;
              same = λ y lt. opposite (h.complexes.to y) ∙ ap neg_ℤ (moved.same y lt) ∙ sym (negative_is g (negative g) y refl);
            },
            weakly_anew other net o n (turned_net net other n h) weak,
          )
    ]

pub confluence_is_shared : RenumberedShareConfluence
confluence_is_shared = record { line = both_ways HasConfluenceLine line_anew; vector = normal_anew }
