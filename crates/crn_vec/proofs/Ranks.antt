-- Independent vectors that depend on others are no more than those, and the rank is one number.
use Rattle.crn_vec.proofs.Prelude.{◌≡◌, ℕ, zero, suc, ◌<◌, ◌≤◌, inl, inr, List, [], ◌∷◌, ◌++◌, length, get_or, map, take, drop, refl, ap, subst, ◌∙◌, arith, ℤ, pos, ◌≤ℤ◌, ◌*ℤ◌, ints, entry, dot, column, AreOfLength, IsIn, IsAbove, IsAscending, IsZero, combination_at, IsIndependent, DependsOn, chosen, IsRank, BaseGivesRank, RankIsOneNumber}
use Rattle.std.proofs.Common.{length-append}
use lib.IntN.{*ℤ_comm, zero-*ℤ}
use Rattle.crn_vec.proofs.Ring.{assoc, no_zero}
use Rattle.crn_vec.proofs.Lists.{in_take, long_take, map_twice}
use Rattle.crn_vec.proofs.Entries.{lt_or}
use Rattle.crn_vec.proofs.Sums.{zeros, length-zeros, zeros-dot, dots, comb, transposed}
use Rattle.crn_vec.proofs.Null.{Zero}
use Rattle.crn_vec.proofs.Many.{Related, too_many}

-- the places in a list of one vector more at its head
pub chosen-suc : (places : List ℕ) (v : List ℤ) (vs : List (List ℤ)) → chosen (map suc places) (v ∷ vs) ≡ chosen places vs
chosen-suc places v vs = map_twice suc (λ (k : ℕ). get_or (v ∷ vs) k []) places

-- d u is the combination of bs with the coefficients q, for the members of three lists as long
abbrev pub Tabled : List (List ℤ) → List (List ℤ) → List ℤ → List (List ℤ) → Type 0
Tabled bs [] [] [] = Unit {0}
Tabled bs [] [] (q ∷ qs) = ⊥
Tabled bs [] (d ∷ ds) qs = ⊥
Tabled bs (u ∷ us) [] qs = ⊥
Tabled bs (u ∷ us) (d ∷ ds) [] = ⊥
Tabled bs (u ∷ us) (d ∷ ds) (q ∷ qs) = (pos 1 ≤ℤ d) × (length q ≡ length bs) × ((k : ℕ) → d *ℤ entry u k ≡ dot q (column bs k)) × Tabled bs us ds qs

pub record Table (bs us : List (List ℤ)) : Type 0 where
  pub ds : List ℤ
  pub qs : List (List ℤ)
  pub is : Tabled bs us ds qs

pub table_long : (bs us : List (List ℤ)) (ds : List ℤ) (qs : List (List ℤ)) → Tabled bs us ds qs → (length qs ≡ length us) × (length ds ≡ length us) × AreOfLength (length bs) qs
table_long bs [] [] [] t = (refl, refl, tt)
table_long bs [] [] (q ∷ qs) t = absurd t
table_long bs [] (d ∷ ds) qs t = absurd t
table_long bs (u ∷ us) [] qs t = absurd t
table_long bs (u ∷ us) (d ∷ ds) [] t = absurd t
table_long bs (u ∷ us) (d ∷ ds) (q ∷ qs) t =
    let r = table_long bs us ds qs t.3 in
    (omega (arith, r.0), omega (arith, r.1), (t.1, r.2))

-- products place by place
abbrev pub times : List ℤ → List ℤ → List ℤ
times [] ds = []
times (y ∷ ys) [] = []
times (y ∷ ys) (d ∷ ds) = (y *ℤ d) ∷ times ys ds

length-times : (ys ds : List ℤ) → length ys ≡ length ds → length (times ys ds) ≡ length ys
length-times [] ds e = refl
length-times (y ∷ ys) [] e = absurd (omega arith)
length-times (y ∷ ys) (d ∷ ds) e = omega (arith, length-times ys ds (let f : length ys ≡ length ds = omega arith in f))

term : (y d u e : ℤ) → d *ℤ u ≡ e → (y *ℤ d) *ℤ u ≡ y *ℤ e
term y d u e h = assoc y d u ∙ ap (λ (t : ℤ). y *ℤ t) h

table_dots : (bs us : List (List ℤ)) (ds : List ℤ) (qs : List (List ℤ)) (ys : List ℤ) (k : ℕ) → Tabled bs us ds qs → dot (times ys ds) (column us k) ≡ dot ys (dots qs (column bs k))
table_dots bs [] [] [] [] k t = refl
table_dots bs [] [] [] (y ∷ ys) k t = refl
table_dots bs [] [] (q ∷ qs) ys k t = absurd t
table_dots bs [] (d ∷ ds) qs ys k t = absurd t
table_dots bs (u ∷ us) [] qs ys k t = absurd t
table_dots bs (u ∷ us) (d ∷ ds) [] ys k t = absurd t
table_dots bs (u ∷ us) (d ∷ ds) (q ∷ qs) [] k t = refl
table_dots bs (u ∷ us) (d ∷ ds) (q ∷ qs) (y ∷ ys) k t =
    omega (arith, ints, term y d (entry u k) (dot q (column bs k)) (t.2 k), table_dots bs us ds qs ys k t.3)

times_zero : (bs us : List (List ℤ)) (ds : List ℤ) (qs : List (List ℤ)) (ys : List ℤ) → Tabled bs us ds qs → length ys ≡ length us → IsZero (times ys ds) → Zero ys
times_zero bs us ds qs [] t l z = tt
times_zero bs [] ds qs (y ∷ ys) t l z = absurd (omega arith)
times_zero bs (u ∷ us) [] qs (y ∷ ys) t l z = absurd t
times_zero bs (u ∷ us) (d ∷ ds) [] (y ∷ ys) t l z = absurd t
times_zero bs (u ∷ us) (d ∷ ds) (q ∷ qs) (y ∷ ys) t l z =
    let some : ¬ (d ≡ pos 0) = λ e. omega (arith, ints, e, t.0) in
    let product : d *ℤ y ≡ pos 0 = *ℤ_comm d y ∙ z 0 in
    (no_zero d y product some, times_zero bs us ds qs ys t.3 (omega arith) (λ k. z (suc k)))

dot_zero_left : (c x : List ℤ) → Zero c → dot c x ≡ pos 0
dot_zero_left [] x z = refl
dot_zero_left (y ∷ c) [] z = refl
dot_zero_left (y ∷ c) (v ∷ x) z =
    let e : y *ℤ v ≡ pos 0 *ℤ v = ap (λ (t : ℤ). t *ℤ v) z.0 in
    omega (arith, ints, e, zero-*ℤ v, dot_zero_left c x z.1)

-- independent vectors that depend on others are no more than those
pub no_more : (bs us : List (List ℤ)) → Table bs us → IsIndependent us → length us ≤ length bs
no_more bs us t free = elim (lt_or (length bs) (length us)) as (λ _. length us ≤ length bs) [
  | inr le ↦ le
  | inl more ↦
      let long = table_long bs us t.ds t.qs t.is in
      let r : Related (length bs) t.qs = too_many (length bs) t.qs long.2 (omega (arith, long.0)) in
      let c = times r.c t.ds in
      let c_long : length c ≡ length us = length-times r.c t.ds (omega (arith, r.long, long.0, long.1)) ∙ r.long ∙ long.0 in
      let none : (k : ℕ) → combination_at c us k ≡ pos 0 = λ k.
      table_dots bs us t.ds t.qs r.c k t.is ∙ transposed (length bs) r.c (column bs k) t.qs long.2 ∙ dot_zero_left (comb (length bs) r.c t.qs) (column bs k) r.none in
      absurd (r.nonzero (times_zero bs us t.ds t.qs r.c t.is (r.long ∙ long.0) (free c c_long none)))
]

-- members at places that depend on others
table_of : (bs vs : List (List ℤ)) (places : List ℕ) → ((k : ℕ) → IsIn k places → DependsOn (get_or vs k []) bs) → Table bs (chosen places vs)
table_of bs vs [] h = record { ds = []; qs = []; is = tt }
table_of bs vs (p ∷ places) h =
    let d = h p (inl refl) in
    let rest = table_of bs vs places (λ k i. h k (inr i)) in
    record { ds = d.d ∷ rest.ds; qs = d.c ∷ rest.qs; is = (d.positive, d.long, d.is, rest.is) }

pub length-chosen : (places : List ℕ) (vs : List (List ℤ)) → length (chosen places vs) ≡ length places
length-chosen [] vs = refl
length-chosen (p ∷ places) vs = omega (arith, length-chosen places vs)

pub chosen_at : (places : List ℕ) (vs : List (List ℤ)) (j : ℕ) → j < length places → get_or (chosen places vs) j [] ≡ get_or vs (get_or places j 0) []
chosen_at [] vs j lt = absurd (omega arith)
chosen_at (p ∷ places) vs zero lt = refl
chosen_at (p ∷ places) vs (suc j) lt = chosen_at places vs j (omega arith)

pub base_gives_rank : BaseGivesRank
base_gives_rank vs places choice free all = record {
  places = places;
  choice = choice;
  count = refl;
  independent = free;
  greatest = λ more chosen_more long more_free.
      omega (
        arith,
        no_more (chosen places vs) (chosen more vs) (table_of (chosen places vs) vs more (λ k i. all k (chosen_more.below k i))) more_free,
        length-chosen places vs,
        length-chosen more vs,
        long,
      );
}

-- ---- a part of independent vectors

dot_prefix : (c : List ℤ) (us more : List (List ℤ)) (k : ℕ) → length c ≡ length us → dot (c ++ zeros (length more)) (column (us ++ more) k) ≡ dot c (column us k)
dot_prefix [] [] more k e = zeros-dot (length more) (column more k)
dot_prefix [] (u ∷ us) more k e = absurd (omega arith)
dot_prefix (x ∷ c) [] more k e = absurd (omega arith)
dot_prefix (x ∷ c) (u ∷ us) more k e = omega (arith, ints, dot_prefix c us more k (let f : length c ≡ length us = omega arith in f))

zero_prefix : (c z : List ℤ) → IsZero (c ++ z) → IsZero c
zero_prefix [] z h k = refl
zero_prefix (x ∷ c) z h zero = h 0
zero_prefix (x ∷ c) z h (suc k) = zero_prefix c z (λ j. h (suc j)) k

independent_prefix : (us more : List (List ℤ)) → IsIndependent (us ++ more) → IsIndependent us
independent_prefix us more free c long none =
    zero_prefix c (zeros (length more)) (free (c ++ zeros (length more))
    (omega (arith, length-append c (zeros (length more)), length-zeros (length more), length-append us more, long))
    (λ k. dot_prefix c us more k long ∙ none k))

above_take : (n m : ℕ) (xs : List ℕ) → IsAbove m xs → IsAbove m (take n xs)
above_take zero m xs h = tt
above_take (suc n) m [] h = tt
above_take (suc n) m (x ∷ xs) h = (h.0, above_take n x xs h.1)

ascending_take : (n : ℕ) (xs : List ℕ) → IsAscending xs → IsAscending (take n xs)
ascending_take zero xs h = tt
ascending_take (suc n) [] h = tt
ascending_take (suc n) (x ∷ xs) h = above_take n x xs h

chosen_split : (n : ℕ) (places : List ℕ) (vs : List (List ℤ)) → chosen places vs ≡ chosen (take n places) vs ++ chosen (drop n places) vs
chosen_split zero places vs = refl
chosen_split (suc n) [] vs = refl
chosen_split (suc n) (p ∷ places) vs = ap (λ (t : List (List ℤ)). get_or vs p [] ∷ t) (chosen_split n places vs)

not_less : (vs : List (List ℤ)) (s t : ℕ) → IsRank vs s → IsRank vs t → t ≤ s
not_less vs s t r q = elim (lt_or s t) as (λ _. t ≤ s) [
  | inr le ↦ le
  | inl lt ↦ absurd (r.greatest (take (suc s) q.places)
      (record { ascending = ascending_take (suc s) q.places q.choice.ascending; below = λ k i. q.choice.below k (in_take (suc s) q.places k i) })
      (long_take (suc s) q.places (omega (arith, q.count)))
      (independent_prefix (chosen (take (suc s) q.places) vs) (chosen (drop (suc s) q.places) vs) (subst IsIndependent (chosen_split (suc s) q.places vs) q.independent)))
]

pub rank_is_one_number : RankIsOneNumber
rank_is_one_number vs s t r q = omega (arith, not_less vs s t r q, not_less vs t s q r)
