-- Ranks and the deficiency do not depend on the numbering.
use Rattle.crn_laws.proofs.Prelude.{◌≡◌, ℕ, suc, ◌<◌, ◌≤◌, inl, inr, List, [], ◌∷◌, length, get_or, map, refl, sym, ap, ap₂, subst, ◌∙◌, arith, ℤ, pos, ◌*ℤ◌, ints, length-map, IsIn, AreDistinct, IsAbove, IsAscending, Net, IsNetwork, reaction_vector, entry, dot, column, IsZero, combination_at, IsIndependent, IsChoice, IsRank, chosen, vectors, IsDeficiency, above_in, ascending_tail, distinct_of_map, in_map, inside_at, lt_or, map_distinct, pair, past_end, place_of, same_place, vector_at, vector_width, taken, taken_in, taken_vectors, zero_more, IsRenumbered}
use Rattle.crn_laws.proofs.SharedWalks.{classes_anew}
use Rattle.crn_laws.proofs.Renumberings.{entries_same, reacts_anew, turned_net}
use Rattle.crn_laws.proofs.Totals.{same_count}

-- ---- vectors in another order

-- for all coefficients of the first list some of the second combine it to the same, and are zero only if the first are
pub record Again (us vs : List (List ℤ)) (c : List ℤ) : Type 0 where
  pub b : List ℤ
  pub long : length b ≡ length vs
  pub same : (k : ℕ) → combination_at b vs k ≡ combination_at c us k
  pub none : IsZero b → IsZero c

abbrev Reorders : List (List ℤ) → List (List ℤ) → Type 0
Reorders us vs = (c : List ℤ) → length c ≡ length us → Again us vs c

reorders_self : (us : List (List ℤ)) → Reorders us us
reorders_self us c long = record { b = c; long = long; same = λ k. refl; none = λ z. z }

reorders_then : (us vs ws : List (List ℤ)) → Reorders us vs → Reorders vs ws → Reorders us ws
reorders_then us vs ws f g c long =
    let p = f c long in
    let q = g p.b p.long in
    record { b = q.b; long = q.long; same = λ k. q.same k ∙ p.same k; none = λ z. p.none (q.none z) }

reorders_more : (v : List ℤ) (us vs : List (List ℤ)) → Reorders us vs → Reorders (v ∷ us) (v ∷ vs)
reorders_more v us vs f [] long = absurd (omega (arith, long))
reorders_more v us vs f (x ∷ c) long =
    let p = f c (omega (arith, long)) in
    record {
      b = x ∷ p.b;
      long = omega (arith, p.long);
      same = λ k. omega (arith, ints, p.same k);
      none = λ z. zero_more x c (z 0) (p.none (λ k. z (suc k)));
    }

reorders_swap : (u v : List ℤ) (ws : List (List ℤ)) → Reorders (u ∷ v ∷ ws) (v ∷ u ∷ ws)
reorders_swap u v ws [] long = absurd (omega (arith, long))
reorders_swap u v ws (x ∷ []) long = absurd (omega (arith, long))
reorders_swap u v ws (x ∷ y ∷ c) long = record {
  b = y ∷ x ∷ c;
  long = omega (arith, long);
  same = λ k. omega (arith, ints);
  none = λ z. zero_more x (y ∷ c) (z 1) (zero_more y c (z 0) (λ k. z (suc (suc k))));
}

reordered_free : (us vs : List (List ℤ)) → Reorders us vs → IsIndependent vs → IsIndependent us
reordered_free us vs f free c long none =
    let p = f c long in
    p.none (free p.b p.long (λ k. p.same k ∙ none k))

-- ---- places in ascending order

pub record Sorted (vs : List (List ℤ)) (places : List ℕ) : Type 0 where
  pub sorted : List ℕ
  pub ascending : IsAscending sorted
  pub from : (k : ℕ) → IsIn k sorted → IsIn k places
  pub long : length sorted ≡ length places
  pub reorders : Reorders (chosen sorted vs) (chosen places vs)

above_all : (x : ℕ) (xs : List ℕ) → IsAscending xs → ((y : ℕ) → IsIn y xs → x < y) → IsAbove x xs
above_all x [] h below = tt
above_all x (y ∷ xs) h below = (below y (inl refl), h)

insert_place : (vs : List (List ℤ)) (k : ℕ) (xs : List ℕ) → IsAscending xs → (IsIn k xs → ⊥) → Sorted vs (k ∷ xs)
insert_place vs k [] asc out = record { sorted = k ∷ []; ascending = tt; from = λ j i. i; long = refl; reorders = reorders_self (chosen (k ∷ []) vs) }
insert_place vs k (x ∷ xs) asc out = elim (lt_or k x) as (λ _. Sorted vs (k ∷ x ∷ xs)) [
  | inl lt ↦ record { sorted = k ∷ x ∷ xs; ascending = (lt, asc); from = λ j i. i; long = refl; reorders = reorders_self (chosen (k ∷ x ∷ xs) vs) }
  | inr le ↦
      let less : x < k = omega (arith, le, λ (e : k ≡ x). out (inl e)) in
      let r = insert_place vs k xs (ascending_tail x xs asc) (λ i. out (inr i)) in
      record {
        sorted = x ∷ r.sorted;
        ascending = above_all x r.sorted r.ascending (λ y i. elim (r.from y i) as (λ _. x < y) [ inl e ↦ omega (arith, less, e) | inr j ↦ above_in x xs asc y j ]);
        from = λ j i. elim i as (λ _. IsIn j (k ∷ x ∷ xs)) [
          | inl e ↦ inr (inl e)
          | inr q ↦ elim (r.from j q) as (λ _. IsIn j (k ∷ x ∷ xs)) [ inl e ↦ inl e | inr p ↦ inr (inr p) ]
        ];
        long = omega (arith, r.long);
        reorders = reorders_then (chosen (x ∷ r.sorted) vs) (chosen (x ∷ k ∷ xs) vs) (chosen (k ∷ x ∷ xs) vs)
            (reorders_more (get_or vs x []) (chosen r.sorted vs) (chosen (k ∷ xs) vs) r.reorders)
            (reorders_swap (get_or vs x []) (get_or vs k []) (chosen xs vs));
      }
]

sort_places : (vs : List (List ℤ)) (places : List ℕ) → AreDistinct places → Sorted vs places
sort_places vs [] d = record { sorted = []; ascending = tt; from = λ j i. i; long = refl; reorders = reorders_self [] }
sort_places vs (k ∷ places) d =
    let r = sort_places vs places d.1 in
    let q = insert_place vs k r.sorted r.ascending (λ i. d.0 (r.from k i)) in
    record {
      sorted = q.sorted;
      ascending = q.ascending;
      from = λ j i. elim (q.from j i) as (λ _. IsIn j (k ∷ places)) [ inl e ↦ inl e | inr p ↦ inr (r.from j p) ];
      long = omega (arith, q.long, r.long);
      reorders = reorders_then (chosen q.sorted vs) (chosen (k ∷ r.sorted) vs) (chosen (k ∷ places) vs) q.reorders
          (reorders_more (get_or vs k []) (chosen r.sorted vs) (chosen places vs) r.reorders);
    }

-- ---- different reactions of a list, and the places of their vectors

-- different reactions of the list, so many, whose vectors are independent
record Free (net : Net) (rs : List (ℕ × ℕ)) (count : ℕ) : Type 0 where
  members : List (ℕ × ℕ)
  distinct : AreDistinct members
  from : (q : ℕ × ℕ) → IsIn q members → IsIn q rs
  free : IsIndependent (map (reaction_vector net) members)
  long : length members ≡ count

record Chosen (vs : List (List ℤ)) (count : ℕ) : Type 0 where
  places : List ℕ
  choice : IsChoice (length vs) places
  long : length places ≡ count
  free : IsIndependent (chosen places vs)

taken_distinct : (rs : List (ℕ × ℕ)) (places : List ℕ) → AreDistinct rs → IsAscending places → ((k : ℕ) → IsIn k places → k < length rs) → AreDistinct (taken places rs)
taken_distinct rs [] apart up below = tt
taken_distinct rs (k ∷ places) apart up below = (
  λ i.
      let j = in_map (λ p. get_or rs p (0, 0)) places (get_or rs k (0, 0)) i in
      let same = same_place rs k j.0 (0, 0) apart (below k (inl refl)) (below j.0 (inr j.1)) j.2 in
      let b = above_in k places up j.0 j.1 in
      omega (arith, b, same),
  taken_distinct rs places apart (ascending_tail k places up) (λ p i. below p (inr i)),
)

taken_free : (net : Net) (rs : List (ℕ × ℕ)) (count : ℕ) → AreDistinct rs → Chosen (map (reaction_vector net) rs) count → Free net rs count
taken_free net rs count apart c =
    let below : (k : ℕ) → IsIn k c.places → k < length rs = λ k i. omega (arith, c.choice.below k i, length-map rs (reaction_vector net)) in
    record {
      members = taken c.places rs;
      distinct = taken_distinct rs c.places apart c.choice.ascending below;
      from = taken_in rs c.places below;
      free = subst IsIndependent (sym (taken_vectors net rs c.places below)) c.free;
      long = length-map c.places (λ k. get_or rs k (0, 0)) ∙ c.long;
    }

record Places (rs qs : List (ℕ × ℕ)) : Type 0 where
  places : List ℕ
  below : (k : ℕ) → IsIn k places → k < length rs
  are : taken places rs ≡ qs

places_of : (rs qs : List (ℕ × ℕ)) → ((q : ℕ × ℕ) → IsIn q qs → IsIn q rs) → Places rs qs
places_of rs [] from = record { places = []; below = λ k i. absurd i; are = refl }
places_of rs (q ∷ qs) from =
    let k = place_of q rs (from q (inl refl)) in
    let r = places_of rs qs (λ p i. from p (inr i)) in
    record {
      places = k.0 ∷ r.places;
      below = λ j i. elim i as (λ _. j < length rs) [ inl e ↦ subst (λ (m : ℕ). m < length rs) (sym e) k.1 | inr i ↦ r.below j i ];
      are = ap₂ (λ (p : ℕ × ℕ) (ps : List (ℕ × ℕ)). p ∷ ps) k.2 r.are;
    }

free_chosen : (net : Net) (rs : List (ℕ × ℕ)) (count : ℕ) → Free net rs count → Chosen (map (reaction_vector net) rs) count
free_chosen net rs count f =
    let vs = map (reaction_vector net) rs in
    let p = places_of rs f.members f.from in
    let r = sort_places vs p.places (distinct_of_map (λ k. get_or rs k (0, 0)) p.places (subst AreDistinct (sym p.are) f.distinct)) in
    let free : IsIndependent (chosen p.places vs) = subst IsIndependent (taken_vectors net rs p.places p.below) (subst (λ (qs : List (ℕ × ℕ)). IsIndependent (map (reaction_vector net) qs)) (sym p.are) f.free) in
    record {
      places = r.sorted;
      choice = record { ascending = r.ascending; below = λ k i. omega (arith, p.below k (r.from k i), length-map rs (reaction_vector net)) };
      long = r.long ∙ sym (length-map p.places (λ k. get_or rs k (0, 0))) ∙ ap length p.are ∙ f.long;
      free = reordered_free (chosen r.sorted vs) (chosen p.places vs) r.reorders free;
    }

-- ---- reactions of both networks

-- the reaction between the complexes numbered anew
abbrev pub moved : (net other : Net) → IsRenumbered net other → ℕ × ℕ → ℕ × ℕ
moved net other h q = (h.complexes.to q.0, h.complexes.to q.1)

entry_moved : (net other : Net) → IsNetwork net → IsNetwork other → (h : IsRenumbered net other) (q : ℕ × ℕ) (s : ℕ) → IsIn q net.reactions → s < length net.names
    → entry (reaction_vector other (moved net other h q)) (h.species.to s) ≡ entry (reaction_vector net q) s
entry_moved net other n o h q s i lt =
    let k = place_of q net.reactions i in
    let there = h.ends k.0 q.0 q.1 (k.1, k.2) in
    sym (ap (λ (w : ℕ × ℕ). entry (reaction_vector other w) (h.species.to s)) there.1)
    ∙ sym (ap (λ (v : List ℤ). entry v (h.species.to s)) (vector_at other (h.reactions.to k.0) there.0))
    ∙ entries_same net other n o h k.0 s k.1 lt
    ∙ ap (λ (v : List ℤ). entry v s) (vector_at net k.0 k.1)
    ∙ ap (λ (w : ℕ × ℕ). entry (reaction_vector net w) s) k.2

columns_same : (net other : Net) → IsNetwork net → IsNetwork other → (h : IsRenumbered net other) (qs : List (ℕ × ℕ)) (s : ℕ) → ((q : ℕ × ℕ) → IsIn q qs → IsIn q net.reactions) → s < length net.names
    → column (map (reaction_vector other) (map (moved net other h) qs)) (h.species.to s) ≡ column (map (reaction_vector net) qs) s
columns_same net other n o h [] s inside lt = refl
columns_same net other n o h (q ∷ qs) s inside lt =
    ap₂ (λ (x : ℤ) (xs : List ℤ). x ∷ xs) (entry_moved net other n o h q s (inside q (inl refl)) lt) (columns_same net other n o h qs s (λ p i. inside p (inr i)) lt)

none_past : (net : Net) → IsNetwork net → (qs : List (ℕ × ℕ)) (c : List ℤ) (s : ℕ) → ((q : ℕ × ℕ) → IsIn q qs → IsIn q net.reactions) → length net.names ≤ s → combination_at c (map (reaction_vector net) qs) s ≡ pos 0
none_past net n [] [] s inside le = refl
none_past net n [] (x ∷ c) s inside le = refl
none_past net n (q ∷ qs) [] s inside le = refl
none_past net n (q ∷ qs) (x ∷ c) s inside le =
    let k = place_of q net.reactions (inside q (inl refl)) in
    let wide : length (reaction_vector net q) ≡ length net.names = ap length (ap (reaction_vector net) (sym k.2) ∙ sym (vector_at net k.0 k.1)) ∙ vector_width net n k.0 k.1 in
    let z : x *ℤ entry (reaction_vector net q) s ≡ x *ℤ pos 0 = ap (λ (y : ℤ). x *ℤ y) (past_end (reaction_vector net q) s (omega (arith, le, wide))) in
    omega (arith, ints, z, none_past net n qs c s (λ p i. inside p (inr i)) le)

free_moved : (net other : Net) → IsNetwork net → IsNetwork other → (h : IsRenumbered net other) (qs : List (ℕ × ℕ)) → ((q : ℕ × ℕ) → IsIn q qs → IsIn q net.reactions)
    → IsIndependent (map (reaction_vector net) qs) → IsIndependent (map (reaction_vector other) (map (moved net other h) qs))
free_moved net other n o h qs inside free c long none =
    free c (long ∙ length-map (map (moved net other h) qs) (reaction_vector other) ∙ length-map qs (moved net other h) ∙ sym (length-map qs (reaction_vector net))) (λ s.
    elim (lt_or s (length net.names)) as (λ _. combination_at c (map (reaction_vector net) qs) s ≡ pos 0) [
      | inl lt ↦ ap (dot c) (sym (columns_same net other n o h qs s inside lt)) ∙ none (h.species.to s)
      | inr past ↦ none_past net n qs c s inside past
    ])

moved_apart : (net other : Net) → IsNetwork net → (h : IsRenumbered net other) (a b : ℕ × ℕ) → IsIn a net.reactions → IsIn b net.reactions → moved net other h a ≡ moved net other h b → a ≡ b
moved_apart net other n h a b i j e =
    let c = h.complexes in
    let la = inside_at (length net.complexes) net.reactions n.partial.apart a.0 a.1 i in
    let lb = inside_at (length net.complexes) net.reactions n.partial.apart b.0 b.1 j in
    ap₂ pair (sym (c.back_to a.0 la.0) ∙ ap (λ (w : ℕ × ℕ). c.back w.0) e ∙ c.back_to b.0 lb.0) (sym (c.back_to a.1 la.1) ∙ ap (λ (w : ℕ × ℕ). c.back w.1) e ∙ c.back_to b.1 lb.1)

-- different reactions of either network, which are those of the other numbered anew
pub record Correspond (net other : Net) (h : IsRenumbered net other) (rs qs : List (ℕ × ℕ)) : Type 0 where
  pub apart : AreDistinct rs
  pub inside : (q : ℕ × ℕ) → IsIn q rs → IsIn q net.reactions
  pub to : (q : ℕ × ℕ) → IsIn q rs → IsIn (moved net other h q) qs
  pub apart_too : AreDistinct qs
  pub inside_too : (q : ℕ × ℕ) → IsIn q qs → IsIn q other.reactions
  pub back : (q : ℕ × ℕ) → IsIn q qs → IsIn (h.complexes.back q.0, h.complexes.back q.1) rs

turned_lists : (net other : Net) (n : IsNetwork net) (h : IsRenumbered net other) (rs qs : List (ℕ × ℕ)) → Correspond net other h rs qs → Correspond other net (turned_net net other n h) qs rs
turned_lists net other n h rs qs c = record { apart = c.apart_too; inside = c.inside_too; to = c.back; apart_too = c.apart; inside_too = c.inside; back = c.to }

chosen_moved : (net other : Net) → IsNetwork net → IsNetwork other → (h : IsRenumbered net other) (rs qs : List (ℕ × ℕ)) → Correspond net other h rs qs → (count : ℕ) → Chosen (map (reaction_vector net) rs) count → Chosen (map (reaction_vector other) qs) count
chosen_moved net other n o h rs qs c count p =
    let f = taken_free net rs count c.apart p in
    let to = moved net other h in
    let inside : (q : ℕ × ℕ) → IsIn q f.members → IsIn q net.reactions = λ q i. c.inside q (f.from q i) in
    free_chosen other qs count (record {
      members = map to f.members;
      distinct = map_distinct to f.members f.distinct (λ a b i j. moved_apart net other n h a b (inside a i) (inside b j));
      from = λ q i. let m = in_map to f.members q i in subst (λ (w : ℕ × ℕ). IsIn w qs) (sym m.2) (c.to m.0 (f.from m.0 m.1));
      free = free_moved net other n o h f.members inside f.free;
      long = length-map f.members to ∙ f.long;
    })

pub rank_moved : (net other : Net) → IsNetwork net → IsNetwork other → (h : IsRenumbered net other) (rs qs : List (ℕ × ℕ)) → Correspond net other h rs qs → (s : ℕ) → IsRank (map (reaction_vector net) rs) s → IsRank (map (reaction_vector other) qs) s
rank_moved net other n o h rs qs c s r =
    let p = chosen_moved net other n o h rs qs c s (record { places = r.places; choice = r.choice; long = r.count; free = r.independent }) in
    record {
      places = p.places;
      choice = p.choice;
      count = p.long;
      independent = p.free;
      greatest = λ more choice long free.
          let q = chosen_moved other net o n (turned_net net other n h) qs rs (turned_lists net other n h rs qs c) (suc s) (record { places = more; choice = choice; long = long; free = free }) in
          r.greatest q.places q.choice q.long q.free;
    }

pub rank_anew : (s : ℕ) (net other : Net) → IsNetwork net → IsNetwork other → IsRenumbered net other → IsRank (vectors net) s → IsRank (vectors other) s
rank_anew s net other n o h = rank_moved net other n o h net.reactions other.reactions (record {
  apart = n.partial.reactions;
  inside = λ q i. i;
  to = λ q i. reacts_anew net other h q.0 q.1 i;
  apart_too = o.partial.reactions;
  inside_too = λ q i. i;
  back = λ q i. reacts_anew other net (turned_net net other n h) q.0 q.1 i;
}) s

-- ---- the deficiency

pub deficiency_anew : (d : ℕ) (net other : Net) → IsNetwork net → IsNetwork other → IsRenumbered net other → IsDeficiency net d → IsDeficiency other d
deficiency_anew d net other n o h is = record {
  classes = is.classes;
  rank = is.rank;
  classes_are = classes_anew net other n h is.classes is.classes_are;
  rank_is = rank_anew is.rank net other n o h is.rank_is;
  is = omega (arith, is.is, same_count (length net.complexes) (length other.complexes) h.complexes);
}
