-- Concordance does not depend on the numbering.
use Rattle.crn_laws.proofs.Prelude.{◌≡◌, ◌⊎◌, ℕ, zero, suc, ◌<◌, inl, inr, List, [], ◌∷◌, length, get_or, map, refl, sym, ap, subst, ◌∙◌, arith, ℤ, pos, negsuc, ◌≤ℤ◌, AllByRecursion, ints, get_or-map, length-map, Sign, Zero, Net, IsNetwork, minus, sides_of, entry, dot, combination_at, vectors, reaction_system, sign, image, signed_by, shares, HasPositive, HasNegative, IsNought, GoesWith, IsDiscordant, plain_table, strong_table, IsConcordantNet, IsStronglyConcordantNet, all_at, all_given, entry-minus, length-minus, networks_have_tables, rows_count, vector_long, zip_at, zip_from, IsMoved, Renumbering, IsRenumbered, RenumberedShareConcordance}
use Rattle.crn_laws.proofs.SharedDependence.{combination_moved}
use Rattle.crn_laws.proofs.Renumberings.{anew, end_at, ends_inside, entry_back, moved_anew, reaction_here, turned_net}

-- ---- signs of the entries of lists in another order

at_positive : (xs : List ℤ) → HasPositive xs → (k : ℕ) × (k < length xs) × (pos 1 ≤ℤ entry xs k)
at_positive [] h = absurd h
at_positive (x ∷ xs) (inl h) = (0, omega arith, h)
at_positive (x ∷ xs) (inr h) = let p = at_positive xs h in (suc p.0, omega (arith, p.1), p.2)

positive_at : (xs : List ℤ) (k : ℕ) → k < length xs → pos 1 ≤ℤ entry xs k → HasPositive xs
positive_at [] k lt h = absurd (omega (arith, lt))
positive_at (x ∷ xs) zero lt h = inl h
positive_at (x ∷ xs) (suc k) lt h = inr (positive_at xs k (omega (arith, lt)) h)

at_negative : (xs : List ℤ) → HasNegative xs → (k : ℕ) × (k < length xs) × (entry xs k ≤ℤ negsuc 0)
at_negative [] h = absurd h
at_negative (x ∷ xs) (inl h) = (0, omega arith, h)
at_negative (x ∷ xs) (inr h) = let p = at_negative xs h in (suc p.0, omega (arith, p.1), p.2)

negative_at : (xs : List ℤ) (k : ℕ) → k < length xs → entry xs k ≤ℤ negsuc 0 → HasNegative xs
negative_at [] k lt h = absurd (omega (arith, lt))
negative_at (x ∷ xs) zero lt h = inl h
negative_at (x ∷ xs) (suc k) lt h = inr (negative_at xs k (omega (arith, lt)) h)

positive_anew : (n m : ℕ) (p : Renumbering n m) (xs ys : List ℤ) → IsMoved n m p xs ys → HasPositive xs → HasPositive ys
positive_anew n m p xs ys h some =
    let a = at_positive xs some in
    let lt : a.0 < n = omega (arith, a.1, h.long) in
    positive_at ys (p.to a.0) (omega (arith, p.to_below a.0 lt, h.long_too)) (subst (λ (x : ℤ). pos 1 ≤ℤ x) (sym (h.same a.0 lt)) a.2)

negative_anew : (n m : ℕ) (p : Renumbering n m) (xs ys : List ℤ) → IsMoved n m p xs ys → HasNegative xs → HasNegative ys
negative_anew n m p xs ys h some =
    let a = at_negative xs some in
    let lt : a.0 < n = omega (arith, a.1, h.long) in
    negative_at ys (p.to a.0) (omega (arith, p.to_below a.0 lt, h.long_too)) (subst (λ (x : ℤ). x ≤ℤ negsuc 0) (sym (h.same a.0 lt)) a.2)

noughts_anew : (n m : ℕ) (p : Renumbering n m) (xs ys : List ℤ) → IsMoved n m p xs ys → AllByRecursion IsNought xs → AllByRecursion IsNought ys
noughts_anew n m p xs ys h none = all_given IsNought ys (pos 0) (λ k lt.
    let inside : k < m = omega (arith, lt, h.long_too) in
    entry_back n m p xs ys h k inside ∙ all_at IsNought xs (p.back k) (pos 0) none (omega (arith, p.back_below k inside, h.long)))

goes_anew : (n m : ℕ) (p : Renumbering n m) (xs ys : List ℤ) (x y : ℤ) → IsMoved n m p xs ys → y ≡ x → GoesWith xs x → GoesWith ys y
goes_anew n m p xs ys x y h e goes = record {
  up = λ u. positive_anew n m p xs ys h (goes.up (subst (λ (z : ℤ). pos 1 ≤ℤ z) e u));
  down = λ u. negative_anew n m p xs ys h (goes.down (subst (λ (z : ℤ). z ≤ℤ negsuc 0) e u));
  still = λ u. elim (goes.still (sym e ∙ u)) as (λ _. AllByRecursion IsNought ys ⊎ (HasPositive ys × HasNegative ys)) [
    | inl none ↦ inl (noughts_anew n m p xs ys h none)
    | inr both ↦ inr (positive_anew n m p xs ys h both.0, negative_anew n m p xs ys h both.1)
  ];
}

length-shares : (ss : List Sign) (xs : List ℤ) → length ss ≡ length xs → length (shares ss xs) ≡ length xs
length-shares [] xs e = e
length-shares (s ∷ ss) [] e = absurd (omega (arith, e))
length-shares (s ∷ ss) (x ∷ xs) e = omega (arith, length-shares ss xs (omega (arith, e)))

entry-shares : (ss : List Sign) (xs : List ℤ) (k : ℕ) → length ss ≡ length xs → k < length xs → entry (shares ss xs) k ≡ signed_by (get_or ss k Zero) (entry xs k)
entry-shares [] xs k e lt = absurd (omega (arith, e, lt))
entry-shares (s ∷ ss) [] k e lt = absurd (omega (arith, e))
entry-shares (s ∷ ss) (x ∷ xs) zero e lt = refl
entry-shares (s ∷ ss) (x ∷ xs) (suc k) e lt = entry-shares ss xs k (omega (arith, e)) (omega (arith, lt))

-- the second list of signs is the first with its places numbered anew
record AreMovedSigns (n m : ℕ) (p : Renumbering n m) (ss ts : List Sign) : Type 0 where
  long : length ss ≡ n
  long_too : length ts ≡ m
  same : (k : ℕ) → k < n → get_or ts (p.to k) Zero ≡ get_or ss k Zero

shares_moved : (n m : ℕ) (p : Renumbering n m) (ss ts : List Sign) (xs ys : List ℤ) → AreMovedSigns n m p ss ts → IsMoved n m p xs ys → IsMoved n m p (shares ss xs) (shares ts ys)
shares_moved n m p ss ts xs ys a b =
    let one : length ss ≡ length xs = a.long ∙ sym b.long in
    let two : length ts ≡ length ys = a.long_too ∙ sym b.long_too in
    record {
      long = length-shares ss xs one ∙ b.long;
      long_too = length-shares ts ys two ∙ b.long_too;
      same = λ k lt.
          entry-shares ts ys (p.to k) two (omega (arith, p.to_below k lt, b.long_too))
          ∙ ap (λ (s : Sign). signed_by s (entry ys (p.to k))) (a.same k lt)
          ∙ ap (signed_by (get_or ss k Zero)) (b.same k lt)
          ∙ sym (entry-shares ss xs k one (omega (arith, lt, b.long)));
    }

-- ---- tables

-- the rows of the second table are those of the first, both numbered anew
abbrev AreMovedTables : (net other : Net) → IsRenumbered net other → List (List Sign) → List (List Sign) → Type 0
AreMovedTables net other h table moved = (r : ℕ) → r < length net.reactions → AreMovedSigns (length net.names) (length other.names) h.species (get_or table r []) (get_or moved (h.reactions.to r) [])

image_moved : (net other : Net) → IsNetwork net → IsNetwork other → (h : IsRenumbered net other) (a b : List ℤ) → IsMoved (length net.reactions) (length other.reactions) h.reactions a b
    → IsMoved (length net.names) (length other.names) h.species (image (reaction_system net) a) (image (reaction_system other) b)
image_moved net other n o h a b moved = record {
  long = length-map (reaction_system net).rows (λ row. dot row a) ∙ rows_count net;
  long_too = length-map (reaction_system other).rows (λ row. dot row b) ∙ rows_count other;
  same = λ s lt.
      (networks_have_tables other o).combines b (h.species.to s)
      ∙ combination_moved net other n o h a b moved (h.species.to s) (h.species.to_below s lt)
      ∙ ap (combination_at a (vectors net)) (h.species.back_to s lt)
      ∙ sym ((networks_have_tables net n).combines a s);
}

discordant_anew : (net other : Net) (table moved : List (List Sign)) → IsNetwork net → IsNetwork other → (h : IsRenumbered net other) → length table ≡ length net.reactions → length moved ≡ length other.reactions → AreMovedTables net other h table moved
    → (alpha weights : List ℤ) → IsDiscordant (reaction_system net) table alpha weights → (beta : List ℤ) × (others : List ℤ) × IsDiscordant (reaction_system other) moved beta others
discordant_anew net other table moved n o h rows rows_too same alpha weights d =
    let r = length net.reactions in
    let q = length other.reactions in
    let s = length net.names in
    let t = length other.names in
    let beta = anew r q h.reactions alpha in
    let others = anew r q h.reactions weights in
    let a = moved_anew r q h.reactions alpha d.long_alpha in
    let w = moved_anew r q h.reactions weights d.long_weights in
    let balance = image_moved net other n o h alpha beta a in
    let change = image_moved net other n o h weights others w in
    let xs = image (reaction_system net) weights in
    let ys = image (reaction_system other) others in (
      beta,
      others,
      record {
        long_alpha = a.long_too;
        long_weights = w.long_too;
        balanced = noughts_anew s t h.species (image (reaction_system net) alpha) (image (reaction_system other) beta) balance d.balanced;
        some = elim d.some as (λ _. HasPositive ys ⊎ HasNegative ys) [
          | inl up ↦ inl (positive_anew s t h.species xs ys change up)
          | inr down ↦ inr (negative_anew s t h.species xs ys change down)
        ];
        goes = zip_from (λ signs x. GoesWith (shares signs ys) x) [] (pos 0) moved beta (a.long_too ∙ sym rows_too) (λ j lt.
            let inside : j < q = omega (arith, lt, rows_too) in
            let k = h.reactions.back j in
            let lk = h.reactions.back_below j inside in
            let here : AreMovedSigns s t h.species (get_or table k []) (get_or moved j []) = subst (λ (i : ℕ). AreMovedSigns s t h.species (get_or table k []) (get_or moved i [])) (h.reactions.to_back j inside) (same k lk) in
            goes_anew s t h.species (shares (get_or table k []) xs) (shares (get_or moved j []) ys) (entry alpha k) (entry beta j)
            (shares_moved s t h.species (get_or table k []) (get_or moved j []) xs ys here change)
            (entry_back r q h.reactions alpha beta a j inside)
            (zip_at (λ signs x. GoesWith (shares signs xs) x) [] (pos 0) table alpha d.goes k (omega (arith, lk, rows))));
      },
    )

-- ---- the two tables

sign_at : (xs : List ℤ) (k : ℕ) → get_or (map sign xs) k Zero ≡ sign (entry xs k)
sign_at [] k = refl
sign_at (x ∷ xs) zero = refl
sign_at (x ∷ xs) (suc k) = sign_at xs k

signs_moved : (n m : ℕ) (p : Renumbering n m) (xs ys : List ℤ) → IsMoved n m p xs ys → AreMovedSigns n m p (map sign xs) (map sign ys)
signs_moved n m p xs ys h = record {
  long = length-map xs sign ∙ h.long;
  long_too = length-map ys sign ∙ h.long_too;
  same = λ k lt. sign_at ys (p.to k) ∙ ap sign (h.same k lt) ∙ sym (sign_at xs k);
}

complex_moved : (net other : Net) → IsNetwork net → IsNetwork other → (h : IsRenumbered net other) (c : ℕ) → c < length net.complexes
    → IsMoved (length net.names) (length other.names) h.species (get_or net.complexes c []) (get_or other.complexes (h.complexes.to c) [])
complex_moved net other n o h c lt = record {
  long = vector_long (length net.names) net.complexes n.partial.vectors c lt;
  long_too = vector_long (length other.names) other.complexes o.partial.vectors (h.complexes.to c) (h.complexes.to_below c lt);
  same = λ s ls. h.amounts c s lt ls;
}

minus_moved : (n m : ℕ) (p : Renumbering n m) (xs ys us vs : List ℤ) → IsMoved n m p xs ys → IsMoved n m p us vs → IsMoved n m p (minus xs us) (minus ys vs)
minus_moved n m p xs ys us vs a b = record {
  long = length-minus n xs us a.long b.long;
  long_too = length-minus m ys vs a.long_too b.long_too;
  same = λ k lt. omega (
    arith,
    ints,
    entry-minus ys vs (p.to k) (a.long_too ∙ sym b.long_too),
    entry-minus xs us k (a.long ∙ sym b.long),
    a.same k lt,
    b.same k lt,
  );
}

-- the row of a reaction in a table that is made reaction by reaction
row_of : (net other : Net) → (h : IsRenumbered net other) (f : Net → ℕ × ℕ → List Sign) (r : ℕ) → r < length net.reactions
    → (get_or (map (f net) net.reactions) r [] ≡ f net (end_at net.reactions r)) × (get_or (map (f other) other.reactions) (h.reactions.to r) [] ≡ f other (h.complexes.to (end_at net.reactions r).0, h.complexes.to (end_at net.reactions r).1))
row_of net other h f r lt =
    let e = end_at net.reactions r in
    let there = h.ends r e.0 e.1 (reaction_here net.reactions r lt) in (
      get_or-map (f net) net.reactions r (0, 0) [] lt,
      get_or-map (f other) other.reactions (h.reactions.to r) (0, 0) [] there.0 ∙ ap (f other) there.1,
    )

abbrev plain_row : Net → ℕ × ℕ → List Sign
plain_row net r = map sign (sides_of net r).0

abbrev strong_row : Net → ℕ × ℕ → List Sign
strong_row net r = map sign (minus (sides_of net r).0 (sides_of net r).1)

tables_moved : (net other : Net) → IsNetwork net → (h : IsRenumbered net other) (f : Net → ℕ × ℕ → List Sign)
    → ((y z : ℕ) → y < length net.complexes → z < length net.complexes → AreMovedSigns (length net.names) (length other.names) h.species (f net (y, z)) (f other (h.complexes.to y, h.complexes.to z)))
    → AreMovedTables net other h (map (f net) net.reactions) (map (f other) other.reactions)
tables_moved net other n h f same r lt =
    let e = end_at net.reactions r in
    let inside = ends_inside net n r e.0 e.1 (reaction_here net.reactions r lt) in
    let rows = row_of net other h f r lt in
    let here = same e.0 e.1 inside.0 inside.1 in
    subst (λ (ss : List Sign). AreMovedSigns (length net.names) (length other.names) h.species ss (get_or (map (f other) other.reactions) (h.reactions.to r) [])) (sym rows.0)
    (subst (λ (ts : List Sign). AreMovedSigns (length net.names) (length other.names) h.species (f net e) ts) (sym rows.1) here)

plain_moved : (net other : Net) → IsNetwork net → IsNetwork other → (h : IsRenumbered net other) → AreMovedTables net other h (plain_table net) (plain_table other)
plain_moved net other n o h = tables_moved net other n h plain_row (λ y z ly lz.
    signs_moved (length net.names) (length other.names) h.species (get_or net.complexes y []) (get_or other.complexes (h.complexes.to y) []) (complex_moved net other n o h y ly))

strong_moved : (net other : Net) → IsNetwork net → IsNetwork other → (h : IsRenumbered net other) → AreMovedTables net other h (strong_table net) (strong_table other)
strong_moved net other n o h = tables_moved net other n h strong_row (λ y z ly lz.
    let a = get_or net.complexes y [] in
    let b = get_or other.complexes (h.complexes.to y) [] in
    let u = get_or net.complexes z [] in
    let v = get_or other.complexes (h.complexes.to z) [] in
    signs_moved (length net.names) (length other.names) h.species (minus a u) (minus b v)
    (minus_moved (length net.names) (length other.names) h.species a b u v (complex_moved net other n o h y ly) (complex_moved net other n o h z lz)))

-- ---- concordance

-- what has no discordance has none in another order, since a discordance would go back
plain_anew : (net other : Net) → IsNetwork net → IsNetwork other → IsRenumbered other net → IsConcordantNet net → IsConcordantNet other
plain_anew net other n o h none alpha weights d =
    let back = discordant_anew other net (plain_table other) (plain_table net) o n h (length-map other.reactions (plain_row other)) (length-map net.reactions (plain_row net)) (plain_moved other net o n h) alpha weights d in
    none back.0 back.1 back.2

strong_anew : (net other : Net) → IsNetwork net → IsNetwork other → IsRenumbered other net → IsStronglyConcordantNet net → IsStronglyConcordantNet other
strong_anew net other n o h none alpha weights d =
    let back = discordant_anew other net (strong_table other) (strong_table net) o n h (length-map other.reactions (strong_row other)) (length-map net.reactions (strong_row net)) (strong_moved other net o n h) alpha weights d in
    none back.0 back.1 back.2

pub concordance_is_shared : RenumberedShareConcordance
concordance_is_shared = record {
  concordant = λ net other n o h. (plain_anew net other n o (turned_net net other n h), plain_anew other net o n h);
  strongly_concordant = λ net other n o h. (strong_anew net other n o (turned_net net other n h), strong_anew other net o n h);
}
