-- The row of a reaction outside an ascending base, by how many members of the base are below it.
use Rattle.crn_indep_check.proofs.Prelude.{◌≡◌, ℕ, zero, suc, ◌+◌, ◌-◌, ◌<◌, ◌≤◌, ◌==◌, inl, inr, List, [], ◌∷◌, length, get_or, refl, sym, ap, subst, ◌∙◌, arith, range_with_len, eqb-true, eq-eqb, length-append, length-range_with_len, IsIn, IsAscending, Net, any_is, in_at, at_in, ascending_at, lt_or, RankProof, outside, all_reactions, combined, comb_for, IsProofForm, Err, nat_cmp, IsBinarySearchResult, searched}
use Rattle.crn_indep_check.proofs.Outside.{outside_yes, outside_no, outside_split, row_is, combined_in, member_bounds}

-- the members before this place are up to k, and the others above it
record IsSplit (base : List ℕ) (k i : ℕ) : Type 0 where
  long : i ≤ length base
  low : (j : ℕ) → j < i → get_or base j 0 ≤ k
  high : (j : ℕ) → i ≤ j → j < length base → k < get_or base j 0

-- with k + 1 in the base, the members before its place are up to k
split_in : (base : List ℕ) (k i : ℕ) → IsAscending base → IsSplit base (k + 1) i → IsIn (k + 1) base → (p : ℕ) × (i ≡ p + 1) × IsSplit base k p
split_in base k i a s h =
    let f = in_at (k + 1) base 0 h in
    let p = f.0 in
    let before : p < i = elim (lt_or p i) as (λ _. p < i) [ inl lt ↦ lt | inr le ↦ absurd (let l = s.high p le f.1 in omega (arith, l, f.2)) ] in
    let last : i ≤ p + 1 = elim (lt_or (p + 1) i) as (λ _. i ≤ p + 1) [ inl lt ↦ absurd (let l = s.low (p + 1) lt in let m = ascending_at base p (p + 1) a (omega arith) (omega (arith, lt, s.long)) in omega (arith, l, m, f.2)) | inr le ↦ le ] in (
      p,
      omega (arith, before, last),
      record {
        long = omega (arith, f.1);
        low = λ j lt. let l = ascending_at base j p a lt f.1 in omega (arith, l, f.2);
        high = λ j le lt. elim (lt_or p j) as (λ _. k < get_or base j 0) [
          | inl less ↦ let l = ascending_at base p j a less lt in omega (arith, l, f.2)
          | inr same ↦ let e : get_or base p 0 ≡ get_or base j 0 = ap (λ (n : ℕ). get_or base n 0) (omega (arith, le, same)) in omega (arith, e, f.2)
        ];
      },
    )

-- with k + 1 outside the base, the same members are up to k
split_out : (base : List ℕ) (k i : ℕ) → IsSplit base (k + 1) i → (IsIn (k + 1) base → ⊥) → IsSplit base k i
split_out base k i s out = record {
  long = s.long;
  low = λ j lt. elim (lt_or (get_or base j 0) (k + 1)) as (λ _. get_or base j 0 ≤ k) [
    | inl less ↦ omega (arith, less)
    | inr ge ↦ absurd (let l = s.low j lt in let e : get_or base j 0 ≡ k + 1 = omega (arith, l, ge) in out (subst (λ (n : ℕ). IsIn n base) e (at_in base j 0 (omega (arith, lt, s.long)))))
  ];
  high = λ j le lt. let l = s.high j le lt in omega (arith, l);
}

-- what is up to k is in the base or outside it
counted_out : (base : List ℕ) (k i : ℕ) → IsAscending base → ((r : ℕ) → IsIn r base → 1 ≤ r) → IsSplit base k i → length (outside base (range_with_len 1 k)) + i ≡ k
counted_out base zero zero a from s = refl
counted_out base zero (suc i) a from s = absurd (let l = s.low 0 (omega arith) in let m = from (get_or base 0 0) (at_in base 0 0 (omega (arith, s.long))) in omega (arith, l, m))
counted_out base (suc k) i a from s =
    let e : suc k ≡ k + 1 = omega arith in
    let t : IsSplit base (k + 1) i = subst (λ (n : ℕ). IsSplit base n i) e s in
    subst (λ (n : ℕ). length (outside base (range_with_len 1 n)) + i ≡ n) (sym e) (elim (any_is (λ b. b == k + 1) (k + 1) (λ b. (λ h. eqb-true b (k + 1) h, λ h. eq-eqb b (k + 1) h)) base) as (λ _. length (outside base (range_with_len 1 (k + 1))) + i ≡ k + 1) [
      | inl h ↦
          let p = split_in base k i a t h.1 in
          omega (arith, p.1, counted_out base k p.0 a from p.2, outside_no base k h.1)
      | inr h ↦ omega (arith, counted_out base k i a from (split_out base k i t h.1), outside_yes base k h.1)
    ])

-- the members up to the last reaction are all of them
all_out : (net : Net) (proof : RankProof) → IsProofForm net proof → length (outside proof.base.list (all_reactions net)) + length proof.base.list ≡ length net.reactions
all_out net proof form =
    let base = proof.base.list in
    counted_out base (length net.reactions) (length base) form.ascending (λ r i. (member_bounds net proof r form i).0) (record {
      long = omega arith;
      low = λ j lt. (member_bounds net proof (get_or base j 0) form (at_in base j 0 lt)).1;
      high = λ j le lt. absurd (omega (arith, le, lt));
    })

-- ---- a search of the base

rises : (xs : List ℕ) → IsAscending xs → (i j : ℕ) → i ≤ j → j < length xs → get_or xs i 0 ≤ get_or xs j 0
rises xs a i j le lt = elim (lt_or i j) as (λ _. get_or xs i 0 ≤ get_or xs j 0) [
  | inl less ↦ let l = ascending_at xs i j a less lt in omega (arith, l)
  | inr same ↦ let e : get_or xs i 0 ≡ get_or xs j 0 = ap (λ (n : ℕ). get_or xs n 0) (omega (arith, le, same)) in omega (arith, e)
]

-- a reaction that is not found, and how many members are below it
pub record IsMissing (proof : RankProof) (r i : ℕ) : Type 0 where
  pub long : i ≤ length proof.base.list
  pub low : (k : ℕ) → k < i → get_or proof.base.list k 0 < r
  pub high : (k : ℕ) → i ≤ k → k < length proof.base.list → r < get_or proof.base.list k 0

-- a search that ends with no place
pub missing : (net : Net) (proof : RankProof) (r i : ℕ) (base : List ℕ) → IsProofForm net proof → base ≡ proof.base.list → IsBinarySearchResult (λ y. nat_cmp y r) base (Err i) → IsMissing proof r i
missing net proof r i base form same is =
    let s = searched proof.base.list r (Err i) (subst (λ (l : List ℕ). IsBinarySearchResult (λ y. nat_cmp y r) l (Err i)) same is) (rises proof.base.list form.ascending) in
    record { long = s.0; low = s.1; high = s.2 }

missing_out : (proof : RankProof) (r i : ℕ) → IsMissing proof r i → IsIn r proof.base.list → ⊥
missing_out proof r i m h =
    let f = in_at r proof.base.list 0 h in
    elim (lt_or f.0 i) as (λ _. ⊥) [
      | inl lt ↦ let l = m.low f.0 lt in omega (arith, l, f.2)
      | inr le ↦ let l = m.high f.0 le f.1 in omega (arith, l, f.2)
    ]

pub rows_before : (net : Net) (proof : RankProof) (r i : ℕ) → IsProofForm net proof → 1 ≤ r → IsMissing proof r i → length (outside proof.base.list (range_with_len 1 (r - 1))) + i ≡ r - 1
rows_before net proof r i form from m = counted_out proof.base.list (r - 1) i form.ascending (λ q h. (member_bounds net proof q form h).0) (record {
  long = m.long;
  low = λ j lt. let l = m.low j lt in omega (arith, l, from);
  high = λ j le lt. let l = m.high j le lt in omega (arith, l, from);
})

row_inside : (net : Net) (proof : RankProof) (r i : ℕ) → IsProofForm net proof → 1 ≤ r → r ≤ length net.reactions → IsMissing proof r i → r - 1 - i < length proof.combs
row_inside net proof r i form from to m =
    let base = proof.base.list in
    let before = outside base (range_with_len 1 (r - 1)) in
    let s = outside_split base r (length net.reactions) from to (missing_out proof r i m) in
    omega (arith, rows_before net proof r i form from m, all_out net proof form, ap length s.1, length-append before (r ∷ s.0), form.combs.long, length-range_with_len 1 (length net.reactions))

pub row_at_place : (net : Net) (proof : RankProof) (r i : ℕ) → IsProofForm net proof → 1 ≤ r → r ≤ length net.reactions → IsMissing proof r i → IsIn r (combined net proof) × (r - 1 - i < length proof.combs) × (comb_for (combined net proof) proof.combs r ≡ get_or proof.combs (r - 1 - i) [])
row_at_place net proof r i form from to m =
    let out = missing_out proof r i m in
    let e : length (outside proof.base.list (range_with_len 1 (r - 1))) ≡ r - 1 - i = omega (arith, rows_before net proof r i form from m) in
    (combined_in net proof r from to out, row_inside net proof r i form from to m, row_is net proof r from to out ∙ ap (λ (k : ℕ). get_or proof.combs k []) e)
