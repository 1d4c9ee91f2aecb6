-- A statement within the limits makes a network grow: the tables that adding it would make exist.
use Rattle.crn_net.proofs.Prelude.{◌≡◌, ◌⊎◌, ℕ, ◌-◌, ◌<◌, ◌≤◌, ◌==◌, ◌&&◌, List, [], ◌∷◌, ◌++◌, Err, length, take, get_or, map, replicate, refl, sym, ap, subst, ◌∙◌, inl, inr, arith, ℤ, pos, AllByRecursion, bytes_eq, int_eq, pointwise, cases_lt, length-append, length-map, length_push, length-replicate, get_or-append_right, take-append_seam, get_or-append_seam, IsIn, firsts, Net, IsPartialNetwork, IsVector, Statement, amounts_in, amount_in, names_in, MAX_SPECIES, MAX_COMPLEXES, MAX_REACTIONS, in_at, any_is, row_decides, reaction_decides, map_twice, map_same, all_in, entry_of_zeros, Grows, AddGives, IsSelf, with_zeros, names_with, complexes_with, reactions_with, net_of, IsRow, AreRows, SaysSame, Puts, IsRowFor, PutsBoth, Built, IsOver, TooManyReactions}
use Rattle.crn_net.proofs.Adding.{built_grows, build_stops, says_self}
use Rattle.crn_net.proofs.Growth.{Ready, Wider, left_over_limit, right_over_limit}
use Rattle.crn_net.proofs.Species.{IsSaid, wider_names}

-- ---- rows

-- a vector with zeros at its end is a row
row_of : (n : ℕ) (v : List ℤ) → length v ≡ n → n ≤ MAX_SPECIES → (take n (with_zeros MAX_SPECIES v) ≡ v) × IsRow n (with_zeros MAX_SPECIES v)
row_of n v is few =
    let zeros : List ℤ = replicate (MAX_SPECIES - length v) (pos 0) in (
      ap (λ (k : ℕ). take k (v ++ zeros)) (sym is) ∙ take-append_seam v zeros,
      record {
        long = omega (arith, is, few, length-append v zeros, length-replicate (MAX_SPECIES - length v) (pos 0));
        rest = λ k le. get_or-append_right v zeros n k (pos 0) is le ∙ entry_of_zeros (MAX_SPECIES - length v) (k - n);
      },
    )

abbrev row_for : List (List ℕ) → List (List ℕ × ℕ) → List ℤ
row_for names side = with_zeros MAX_SPECIES (amounts_in names side)

is_row_for : (names : List (List ℕ)) (side : List (List ℕ × ℕ)) → length names ≤ MAX_SPECIES → IsRowFor names side (row_for names side)
is_row_for names side few = let r = row_of (length names) (amounts_in names side) (length-map names (λ name. pos (amount_in side name))) few in record { amounts = r.0; is = r.1 }

-- the vectors of a network with zeros at their ends are rows
rows_of : (n : ℕ) (vectors : List (List ℤ)) → AllByRecursion (IsVector n) vectors → n ≤ MAX_SPECIES → AreRows n (map (with_zeros MAX_SPECIES) vectors)
rows_of n [] h few = tt
rows_of n (v ∷ vectors) h few = ((row_of n v h.0.0 few).1, rows_of n vectors h.1 few)

-- ---- a list with a member put in

record Placed {A : Type 0} (old : List A) (x : A) : Type 0 where
  new : List A
  puts : Puts old x new
  at : ℕ
  inside : at < length new
  is : get_or new at x ≡ x

placed : {A : Type 0} (old : List A) (x : A) → IsIn x old ⊎ (IsIn x old → ⊥) → Placed old x
placed old x (inl i) = let p = in_at x old x i in record { new = old; puts = inl (i, refl); at = p.0; inside = p.1; is = p.2 }
placed old x (inr none) = record { new = old ++ x ∷ []; puts = inr (none, refl); at = length old; inside = omega (arith, length_push old x); is = get_or-append_seam old x [] x }

row_placed : (rows : List (List ℤ)) (row : List ℤ) → Placed rows row
row_placed rows row = placed rows row (elim (any_is (λ known. pointwise int_eq known row) row (row_decides row) rows) [ inl a ↦ inl a.1 | inr b ↦ inr b.1 ])

reaction_placed : (rs : List (ℕ × ℕ)) (r : ℕ × ℕ) → Placed rs r
reaction_placed rs r = placed rs r (elim (any_is (λ known. (known.0 == r.0) && (known.1 == r.1)) r (reaction_decides r) rs) [ inl a ↦ inl a.1 | inr b ↦ inr b.1 ])

-- the list exceeds a limit only if the member is new and the list is full
few_placed : {A : Type 0} (old : List A) (x : A) (p : Placed old x) (limit : ℕ) → length old ≤ limit → ((IsIn x old → ⊥) → limit ≤ length old → ⊥) → length p.new ≤ limit
few_placed old x p limit le full = few_put p.puts
  where
    few_put : Puts old x p.new → length p.new ≤ limit
    few_put (inl q) = omega (arith, ap length q.1)
    few_put (inr q) = elim (cases_lt (length old) limit) [
      | inl lt ↦ omega (arith, ap length q.1, length_push old x)
      | inr ge ↦ absurd (full q.0 ge)
    ]

-- ---- one more statement

-- a statement that is not a self reaction, and with which the limits hold
record IsAllowed (old : Net) (s : Statement) : Type 0 where
  apart : IsSelf old s → ⊥
  species : length (names_with old s) ≤ MAX_SPECIES
  complexes : length (complexes_with old s) ≤ MAX_COMPLEXES
  reactions : length (reactions_with old s) ≤ MAX_REACTIONS

tables_grow : (old_names : List (List ℕ)) (rows : List (List ℤ)) (old_reactions : List (ℕ × ℕ)) (s : Statement) → Ready old_names rows old_reactions → IsSaid s → IsAllowed (net_of old_names rows old_reactions) s → (new : Net) × Grows (net_of old_names rows old_reactions) s new
tables_grow old_names rows old_reactions s ready said allowed =
    let old : Net = net_of old_names rows old_reactions in
    let apart : SaysSame s → ⊥ = λ h. allowed.apart (says_self old s h) in
    let names : List (List ℕ) = firsts bytes_eq (old_names ++ names_in s) in
    let species : length names ≤ MAX_SPECIES = allowed.species in
    let complexes : length (complexes_with old s) ≤ MAX_COMPLEXES = allowed.complexes in
    let reactions : length (reactions_with old s) ≤ MAX_REACTIONS = allowed.reactions in
    let wide : Wider old_names names = wider_names old_names names (names_in s) ready.network.names refl species in
    let left : List ℤ = row_for names s.0 in
    let right : List ℤ = row_for names s.1 in
    let left_row : IsRowFor names s.0 left = is_row_for names s.0 species in
    let right_row : IsRowFor names s.1 right = is_row_for names s.1 species in
    let first : Placed rows left = row_placed rows left in
    let second : Placed first.new right = row_placed first.new right in
    let few : length rows ≤ MAX_COMPLEXES = let l = length-map rows (take (length old_names)) in omega (arith, l, ready.network.complexes_limit) in
    let few_first : length first.new ≤ MAX_COMPLEXES = few_placed rows left first MAX_COMPLEXES few (λ fresh full. let o = left_over_limit old_names rows old_reactions names s ready wide (record { left = left; left_row = left_row; fresh = fresh; full = full }) in omega (arith, o, complexes)) in
    let few_second : length second.new ≤ MAX_COMPLEXES = few_placed first.new right second MAX_COMPLEXES few_first (λ fresh full.
    let o = right_over_limit old_names rows old_reactions names s ready wide (record { left = left; right = right; middle = first.new; left_row = left_row; right_row = right_row; first = first.puts; fresh = fresh; full = full }) in omega (arith, o, complexes)) in
    let y : ℕ = first.at in
    let z : ℕ = second.at in
    let both : PutsBoth names s rows y z second.new = record { left = left; right = right; middle = first.new; left_row = left_row; right_row = right_row; first = first.puts; second = second.puts; left_in = first.inside; left_at = first.is; right_in = second.inside; right_at = second.is; few = few_second } in
    let third : Placed old_reactions (y, z) = reaction_placed old_reactions (y, z) in
    let few_third : length third.new ≤ MAX_REACTIONS = few_placed old_reactions (y, z) third MAX_REACTIONS ready.network.reactions_limit (λ fresh full.
    let over : IsOver old_names rows old_reactions s = record { y = y; z = z; rows' = second.new; names_few = species; rows_are = both; fresh = fresh; full = full } in
    let stops : AddGives old s (Err TooManyReactions) old = build_stops old_names rows old_reactions s old_names rows old_reactions (Err TooManyReactions) ready refl (apart, over) in
    omega (arith, stops.1.reactions_many, reactions)) in
    let built : Built old_names rows old_reactions s names second.new third.new = record { y = y; z = z; names_are = refl; names_few = species; rows_are = both; reactions_are = third.puts; reactions_few = few_third } in
    (net_of names second.new third.new, (built_grows old_names rows old_reactions s names second.new third.new ready said apart built).0)

-- each network that is built so far, and each such statement
pub may_grow : (old : Net) (s : Statement) → IsPartialNetwork old → IsSaid s → (IsSelf old s → ⊥) → length (names_with old s) ≤ MAX_SPECIES → length (complexes_with old s) ≤ MAX_COMPLEXES → length (reactions_with old s) ≤ MAX_REACTIONS → (new : Net) × Grows old s new
may_grow old s h said apart species complexes reactions =
    let n : ℕ = length old.names in
    let rows : List (List ℤ) = map (with_zeros MAX_SPECIES) old.complexes in
    let back : map (take n) rows ≡ old.complexes =
    map_twice (with_zeros MAX_SPECIES) (take n) old.complexes ∙ map_same (λ v. take n (with_zeros MAX_SPECIES v)) (λ v. v) old.complexes (λ v i. (row_of n v (all_in (IsVector n) old.complexes v h.vectors i).0 h.species_limit).0) ∙ map_self old.complexes in
    let same : net_of old.names rows old.reactions ≡ old = ap (λ (vectors : List (List ℤ)). record { names = old.names; complexes = vectors; reactions = old.reactions }) back in
    let ready : Ready old.names rows old.reactions = record { network = subst IsPartialNetwork (sym same) h; padded = rows_of n old.complexes h.vectors h.species_limit } in
    let P : Net → Type 0 = λ net. IsAllowed net s → (new : Net) × Grows net s new in
    subst P same (tables_grow old.names rows old.reactions s ready said) (record { apart = apart; species = species; complexes = complexes; reactions = reactions })
  where
    map_self : (vs : List (List ℤ)) → map (λ v. v) vs ≡ vs
    map_self [] = refl
    map_self (v ∷ vs) = ap (λ (t : List (List ℤ)). v ∷ t) (map_self vs)
