-- The shape of the negative of a vector.
use Rattle.crn_vec.proofs.Prelude.{ℕ, ◌<◌, List, [], ◌∷◌, length, map, ℤ, Option, AllZip, AllByRecursion, Net, IsOnSide, negative, Pair, IsPairOf, opposite_pair, NegativesHaveOppositeShapes}
use Rattle.crn_vec.proofs.Confluences.{negative_sum}

below_opposite : (count complexes : ℕ) (pairs : List Pair) → AllByRecursion (λ pair. (pair.top < count) × (pair.low < complexes) × (pair.high < complexes)) pairs → AllByRecursion (λ pair. (pair.top < count) × (pair.low < complexes) × (pair.high < complexes)) (map opposite_pair pairs)
below_opposite count complexes [] h = tt
below_opposite count complexes (pair ∷ pairs) h = (h.0, below_opposite count complexes pairs h.1)

pairs_opposite : (net : Net) (g : List ℤ) (tops : List (Option ℕ)) (places : List ℕ) (pairs : List Pair) → AllZip (IsPairOf net g tops) places pairs → AllZip (IsPairOf net (negative g) tops) places (map opposite_pair pairs)
pairs_opposite net g tops [] [] h = tt
pairs_opposite net g tops [] (pair ∷ pairs) h = absurd h
pairs_opposite net g tops (r ∷ places) [] h = absurd h
pairs_opposite net g tops (r ∷ places) (pair ∷ pairs) h =
    (record { goes = h.0.goes; top = h.0.top; sum = negative_sum g (IsOnSide net.reactions pair.low pair.high) pair.sum h.0.sum }, pairs_opposite net g tops places pairs h.1)

pub negatives_have_opposite_shapes : NegativesHaveOppositeShapes
negatives_have_opposite_shapes net g s sh =
    record {
      shape = record { species = sh.shape.species; complexes = sh.shape.complexes; widths = sh.shape.widths; tops = sh.shape.tops; tops_below = sh.shape.tops_below; pairs_below = below_opposite s.count (length s.complexes) s.pairs sh.shape.pairs_below };
      tops = sh.tops;
      places = sh.places;
      places_are = sh.places_are;
      pairs = pairs_opposite net g s.tops sh.places s.pairs sh.pairs;
    }
