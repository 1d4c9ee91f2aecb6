-- Duals and combinations that pass the tests give the rank.
use Rattle.crn_cert.proofs.Prelude.{◌≡◌, ◌⊎◌, ℕ, zero, suc, ◌+◌, ◌<◌, Bool, true, false, List, [], ◌∷◌, length, get_or, map, drop, refl, sym, ap, subst, ◌∙◌, inl, inr, arith, ◌==◌, ◌||◌, not, ℤ, pos, AllByRecursion, list_any, ints, cases_eq, eq-eqb, get_or-map, length-map, IsIn, IsAscending, Net, entry, dot, column, IsIndependent, DependsOn, IsRank, chosen, listed, length-listed, unit, dot_unit, entry-column, length-column, base_gives_rank, chosen-suc, eq_or, filter_has, ascending_suc, above_zero, ascending_tail, above_in, below_suc, AllHold, AreFree, vector_of, vectors_of, IsDual, IsComb, outside, dual_tests, comb_tests, rank_tests}
use Rattle.std.proofs.Common.{ne_eqb}
use Rattle.std.proofs.lemmas.List.{length-drop}
use Rattle.crn_cert.proofs.Multipliers.{duals_independent}
use Rattle.crn_cert.proofs.TestLists.{hold_parts}

-- ---- duals

dual_at : (vs : List (List ℤ)) (part i : ℕ) (duals : List (List ℤ)) → AllHold (dual_tests vs part i duals) → (k : ℕ) → k < length duals → IsDual vs (i + k) (get_or duals k [])
dual_at vs part i [] h k lt = absurd (omega arith)
dual_at vs part i (d ∷ duals) h zero lt = subst (λ (n : ℕ). IsDual vs n d) (omega arith) h.0
dual_at vs part i (d ∷ duals) h (suc k) lt = subst (λ (n : ℕ). IsDual vs n (get_or duals k [])) (omega arith) (dual_at vs (suc part) (suc i) duals h.1 k (omega (arith, lt)))

independent_by : (vs : List (List ℤ)) (part : ℕ) (duals : List (List ℤ)) → length duals ≡ length vs → AllHold (dual_tests vs part 0 duals) → IsIndependent vs
independent_by vs part duals l h = duals_independent vs (λ i lt. (get_or duals i [], subst (λ (n : ℕ). IsDual vs n (get_or duals i [])) (omega arith) (dual_at vs part 0 duals h i (omega (arith, l, lt)))))

-- ---- combinations

-- a member depends on the members
pub member_depends : (vs : List (List ℤ)) (i : ℕ) → DependsOn (get_or vs i []) vs
member_depends vs i =
    let c = listed (length vs) (λ j. unit j i) in
    record {
      d = pos 1;
      positive = omega (arith, ints);
      c = c;
      long = length-listed (length vs) (λ j. unit j i);
      is = λ k.
          let col = column vs k in
          let at : dot c col ≡ entry col i = ap (λ (n : ℕ). dot (listed n (λ j. unit j i)) col) (sym (length-column vs k)) ∙ dot_unit col i in
          omega (arith, ints, at, entry-column vs k i);
    }

depends_by : (vs : List (List ℤ)) (v comb : List ℤ) → length comb ≡ suc (length vs) → IsComb vs v comb → DependsOn v vs
depends_by vs v comb l h = record { d = entry comb 0; positive = h.positive; c = drop 1 comb; long = length-drop 1 comb ∙ omega (arith, l); is = h.is }

comb_at : (net : Net) (vs : List (List ℤ)) (part width : ℕ) (rs : List ℕ) (combs : List (List ℤ)) → AllHold (comb_tests net vs part rs combs) → AllByRecursion (AreFree width) combs → (r : ℕ) → IsIn r rs
    → (comb : List ℤ) × (length comb ≡ width) × IsComb vs (vector_of net r) comb
comb_at net vs part width [] combs h w r i = absurd i
comb_at net vs part width (s ∷ rs) [] h w r i = absurd h.0
comb_at net vs part width (s ∷ rs) (c ∷ combs) h w r (inl e) = (c, w.0.long, subst (λ (k : ℕ). IsComb vs (vector_of net k) c) (sym e) h.0)
comb_at net vs part width (s ∷ rs) (c ∷ combs) h w r (inr i) = comb_at net vs (suc part) width rs combs h.1 w.1 r i

-- ---- members of the base, and outside it

in_or : (r : ℕ) (xs : List ℕ) → (IsIn r xs × (list_any (λ b. b == r) xs ≡ true)) ⊎ (list_any (λ b. b == r) xs ≡ false)
in_or r [] = inr refl
in_or r (x ∷ xs) = elim (cases_eq x r) [
  | inl e ↦ inl (inl (sym e), ap (λ (b : Bool). b || list_any (λ b. b == r) xs) (eq-eqb x r e))
  | inr ne ↦
      let step : list_any (λ b. b == r) (x ∷ xs) ≡ list_any (λ b. b == r) xs = ap (λ (b : Bool). b || list_any (λ b. b == r) xs) (ne_eqb x r ne) in
      elim (in_or r xs) [ inl h ↦ inl (inr h.0, step ∙ h.1) | inr h ↦ inr (step ∙ h) ]
]

-- the place of a member
member_place : (f : ℕ → List ℤ) (r : ℕ) (xs : List ℕ) → IsIn r xs → (i : ℕ) × (i < length xs) × (get_or (map f xs) i [] ≡ f r)
member_place f r [] h = absurd h
member_place f r (x ∷ xs) (inl e) = (0, omega arith, ap f (sym e))
member_place f r (x ∷ xs) (inr h) = let p = member_place f r xs h in (suc p.0, omega (arith, p.1), p.2)

-- what the records of a rank say
pub record Ranked (net : Net) (members base : List ℕ) : Type 0 where
  pub independent : IsIndependent (vectors_of net base)
  pub depends : (r : ℕ) → IsIn r members → DependsOn (vector_of net r) (vectors_of net base)

pub ranked_by : (net : Net) (members base : List ℕ) (part : ℕ) (duals combs : List (List ℤ)) → length duals ≡ length base → AllByRecursion (AreFree (suc (length base))) combs → AllHold (rank_tests net members part base duals combs) → Ranked net members base
ranked_by net members base part duals combs l w h =
    let vs = vectors_of net base in
    let many : length vs ≡ length base = length-map base (vector_of net) in
    let split = hold_parts (dual_tests vs (part + 1) 0 duals) (comb_tests net vs (part + 1 + length base) (outside base members) combs) h in
    record {
      independent = independent_by vs (part + 1) duals (l ∙ sym many) split.0;
      depends = λ r i. elim (in_or r base) [
        | inl in_base ↦ let p = member_place (vector_of net) r base in_base.0 in subst (λ (v : List ℤ). DependsOn v vs) p.2 (member_depends vs p.0)
        | inr out ↦
            let c = comb_at net vs (part + 1 + length base) (suc (length base)) (outside base members) combs split.1 w r (filter_has (λ q. not (list_any (λ b. b == q) base)) members r i (ap not out)) in
            depends_by vs (vector_of net r) c.0 (c.1 ∙ ap suc (sym many)) c.2
      ];
    }

-- ---- the places of a base among its members

record Placed (base members : List ℕ) : Type 0 where
  places : List ℕ
  ascending : IsAscending places
  below : (p : ℕ) → IsIn p places → p < length members
  long : length places ≡ length base
  same : (f : ℕ → List ℤ) → chosen places (map f members) ≡ map f base

placed : (base members : List ℕ) → IsAscending base → IsAscending members → ((r : ℕ) → IsIn r base → IsIn r members) → Placed base members
placed [] members a m i = record { places = []; ascending = tt; below = λ p h. absurd h; long = refl; same = λ f. refl }
placed (b ∷ bs) [] a m i = absurd (i b (inl refl))
placed (b ∷ bs) (x ∷ xs) a m i = elim (eq_or b x) [
  | inl e ↦
      let rest = placed bs xs (ascending_tail b bs a) (ascending_tail x xs m) (λ r h. elim (i r (inr h)) [ inl same_r ↦ absurd (let l = above_in b bs a r h in omega (arith, l, e, same_r)) | inr j ↦ j ]) in
      record {
        places = 0 ∷ map suc rest.places;
        ascending = above_zero rest.places rest.ascending;
        below = λ p h. elim h [ inl z ↦ omega (arith, z) | inr j ↦ below_suc (length xs) rest.places rest.below p j ];
        long = omega (arith, length-map rest.places suc, rest.long);
        same = λ f. ap (λ (t : List (List ℤ)). f x ∷ t) (chosen-suc rest.places (f x) (map f xs) ∙ rest.same f) ∙ ap (λ (n : ℕ). f n ∷ map f bs) (sym e);
      }
  | inr ne ↦
      let later : (r : ℕ) → IsIn r (b ∷ bs) → IsIn r xs = λ r h.
      let b_in : IsIn b xs = elim (i b (inl refl)) [ inl e ↦ absurd (ne e) | inr j ↦ j ] in
      let less : x < b = above_in x xs m b b_in in
      elim (i r h) [
        | inr j ↦ j
        | inl e ↦ absurd (elim h [ inl e' ↦ omega (arith, less, e, e') | inr j ↦ let l = above_in b bs a r j in omega (arith, less, e, l) ])
      ] in
      let rest = placed (b ∷ bs) xs a (ascending_tail x xs m) later in
      record {
        places = map suc rest.places;
        ascending = ascending_suc rest.places rest.ascending;
        below = λ p h. below_suc (length xs) rest.places rest.below p h;
        long = length-map rest.places suc ∙ rest.long;
        same = λ f. chosen-suc rest.places (f x) (map f xs) ∙ rest.same f;
      }
]

-- the rank of the members' vectors is the number of the base
pub rank_by : (net : Net) (members base : List ℕ) → IsAscending base → IsAscending members → ((r : ℕ) → IsIn r base → IsIn r members) → Ranked net members base → IsRank (vectors_of net members) (length base)
rank_by net members base a m inside r =
    let p = placed base members a m inside in
    let vs = vectors_of net members in
    let same = p.same (vector_of net) in
    let n : length vs ≡ length members = length-map members (vector_of net) in
    subst (IsRank vs) p.long
    (base_gives_rank vs p.places (record { ascending = p.ascending; below = λ k h. omega (arith, p.below k h, n) })
    (subst IsIndependent (sym same) r.independent)
    (λ k lt.
    let at : get_or vs k [] ≡ vector_of net (get_or members k 0) = get_or-map (vector_of net) members k 0 [] (omega (arith, lt, n)) in
    subst (λ (v : List ℤ). DependsOn v (chosen p.places vs)) (sym at)
    (subst (DependsOn (vector_of net (get_or members k 0))) (sym same) (r.depends (get_or members k 0) (in_at members k (omega (arith, lt, n)))))))
  where
    in_at : (xs : List ℕ) (k : ℕ) → k < length xs → IsIn (get_or xs k 0) xs
    in_at [] k lt = absurd (omega arith)
    in_at (x ∷ xs) zero lt = inl refl
    in_at (x ∷ xs) (suc k) lt = inr (in_at xs k (omega (arith, lt)))
