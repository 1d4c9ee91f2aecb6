-- The shape of a network by its tops and pairs is its shape for g, and that of the opposite sums.
use Rattle.crn_shape.proofs.Prelude.{◌≡◌, ℕ, ◌<◌, ◌≤◌, ◌^◌, inl, inr, List, [], ◌∷◌, length, map, refl, ap, arith, ints, MAX_COMPLEXES, ℤ, Option, neg_ℤ, unsigned_abs, AllByRecursion, AllZip, length-map, IsIn, Net, IsNetwork, IsFirstOfPair, IsRegular, Pair, Shape, AreTops, IsPairOf, IsShapeOf, opposite_pair, opposite_shape, inside_at, reaction_in, few_pairs, widths, tops_below, IsSideOf, AreSides, LinkedPair, IsPairIn, AreForShape, pair_of, shape_of, IsSide, IsPairFor, opposite_linked}

sides_by : (net : Net) (places : List ℕ) (sides : List (List ℤ)) → ((r : ℕ) → IsIn r places → IsFirstOfPair net.reactions r) → AllZip (IsSideOf net) places sides → AllByRecursion (IsSide net) sides
sides_by net [] [] first h = tt
sides_by net [] (m ∷ sides) first h = absurd h
sides_by net (r ∷ places) [] first h = absurd h
sides_by net (r ∷ places) (m ∷ sides) first h = (record { r = r; first = first r (inl refl); side = h.0 }, sides_by net places sides (λ q i. first q (inr i)) h.1)

pub sides_are : (net : Net) (sides : List (List ℤ)) → AreSides net sides → AllByRecursion (IsSide net) sides
sides_are net sides a = sides_by net a.places sides (λ r i. (a.pairs.each r).0 i) a.marks

pairs_by : (net : Net) (g : List ℤ) (tops : List (Option ℕ)) (places : List ℕ) (sides : List (List ℤ)) (pairs : List LinkedPair) → ((r : ℕ) → IsIn r places → IsFirstOfPair net.reactions r) → AllZip (IsSideOf net) places sides → AllZip (IsPairFor net g tops) sides pairs → AllZip (IsPairOf net g tops) places (map (pair_of net) pairs)
pairs_by net g tops [] [] [] first h k = tt
pairs_by net g tops [] [] (p ∷ pairs) first h k = absurd k
pairs_by net g tops [] (m ∷ sides) pairs first h k = absurd h
pairs_by net g tops (r ∷ places) [] pairs first h k = absurd h
pairs_by net g tops (r ∷ places) (m ∷ sides) [] first h k = absurd k
pairs_by net g tops (r ∷ places) (m ∷ sides) (p ∷ pairs) first h k = (k.0.1 r (first r (inl refl)) h.0, pairs_by net g tops places sides pairs (λ q i. first q (inr i)) h.1 k.1)

below_by : (net : Net) (g : List ℤ) (tops : List (Option ℕ)) (count : ℕ) → IsNetwork net → AreTops net tops count → (places : List ℕ) (pairs : List Pair) → AllZip (IsPairOf net g tops) places pairs → AllByRecursion (λ pair. (pair.top < count) × (pair.low < length net.complexes) × (pair.high < length net.complexes)) pairs
below_by net g tops count n t [] [] h = tt
below_by net g tops count n t [] (p ∷ pairs) h = absurd h
below_by net g tops count n t (r ∷ places) [] h = absurd h
below_by net g tops count n t (r ∷ places) (p ∷ pairs) h =
    let ends = inside_at (length net.complexes) net.reactions n.partial.apart p.low p.high (reaction_in net.reactions r (p.low, p.high) h.0.goes.0 h.0.goes.1) in
    ((t.below p.low p.top h.0.top, ends.0, ends.1), below_by net g tops count n t places pairs h.1)

pub shape_is : (net : Net) (g : List ℤ) (tops : List (Option ℕ)) (count : ℕ) (sides : List (List ℤ)) (pairs : List LinkedPair) → IsNetwork net → AreTops net tops count → AreSides net sides → AllZip (IsPairFor net g tops) sides pairs → IsShapeOf net g (shape_of net tops count pairs)
shape_is net g tops count sides pairs n t a h =
    let zipped = pairs_by net g tops a.places sides pairs (λ r i. (a.pairs.each r).0 i) a.marks h in
    record {
      shape = record { species = refl; complexes = refl; widths = widths (length net.names) net.complexes n.partial.vectors; tops = t.long; tops_below = tops_below net tops count t; pairs_below = below_by net g tops count n t a.places (map (pair_of net) pairs) zipped };
      tops = t;
      places = a.places;
      places_are = a.pairs;
      pairs = zipped;
    }

pub few : (net : Net) (g : List ℤ) (tops : List (Option ℕ)) (count : ℕ) (pairs : List LinkedPair) → IsNetwork net → IsRegular net → length g ≡ length net.complexes → IsShapeOf net g (shape_of net tops count pairs) → length pairs < length net.complexes
few net g tops count pairs n regular even sh =
    let h = few_pairs net g (shape_of net tops count pairs) n regular even sh in
    omega (arith, h, length-map pairs (pair_of net))

-- the parts of a shape of a regular network
pub parts_are : (net : Net) (g : List ℤ) (tops : List (Option ℕ)) (count : ℕ) (sides : List (List ℤ)) (pairs : List LinkedPair) → IsNetwork net → IsRegular net → length g ≡ length net.complexes → AreTops net tops count → count ≤ MAX_COMPLEXES → AreSides net sides → AllZip (IsPairFor net g tops) sides pairs → AllByRecursion (IsPairIn net) pairs → AreForShape net tops count pairs
parts_are net g tops count sides pairs n regular even t low a h small = record {
  tops_long = t.long;
  few = low;
  few_pairs = few net g tops count pairs n regular even (shape_is net g tops count sides pairs n t a h);
  pairs_in = small;
}

-- ---- the opposite sums

opposites : (net : Net) (pairs : List LinkedPair) → map (pair_of net) (map opposite_linked pairs) ≡ map opposite_pair (map (pair_of net) pairs)
opposites net [] = refl
opposites net (p ∷ pairs) = ap (λ (l : List Pair). opposite_pair (pair_of net p) ∷ l) (opposites net pairs)

-- the shape with them is the opposite shape
pub opposite_is : (net : Net) (tops : List (Option ℕ)) (count : ℕ) (pairs : List LinkedPair) → shape_of net tops count (map opposite_linked pairs) ≡ opposite_shape (shape_of net tops count pairs)
opposite_is net tops count pairs = ap (λ (l : List Pair). let s : Shape = record { species = length net.names; complexes = net.complexes; tops = tops; count = count; pairs = l } in s) (opposites net pairs)

pub pairs_opposite : (net : Net) (pairs : List LinkedPair) → AllByRecursion (IsPairIn net) pairs → AllByRecursion (IsPairIn net) (map opposite_linked pairs)
pairs_opposite net [] h = tt
pairs_opposite net (p ∷ pairs) h =
    let same : unsigned_abs (neg_ℤ p.sum) ≡ unsigned_abs p.sum = omega (arith, ints) in
    (record { inside = h.0.inside; small = omega (arith, h.0.small, same) }, pairs_opposite net pairs h.1)

pub parts_opposite : (net : Net) (tops : List (Option ℕ)) (count : ℕ) (pairs : List LinkedPair) → AreForShape net tops count pairs → AreForShape net tops count (map opposite_linked pairs)
parts_opposite net tops count pairs a = record {
  tops_long = a.tops_long;
  few = a.few;
  few_pairs = omega (arith, a.few_pairs, length-map pairs opposite_linked);
  pairs_in = pairs_opposite net pairs a.pairs_in;
}

pub sums_small : (net : Net) (pairs : List LinkedPair) → AllByRecursion (IsPairIn net) pairs → AllByRecursion (λ p. unsigned_abs p.sum < 2 ^ 127) pairs
sums_small net [] h = tt
sums_small net (p ∷ pairs) h = (h.0.small, sums_small net pairs h.1)
