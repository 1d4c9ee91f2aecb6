-- The answers on regularity, in the words of the definitions and of the tests.
use Rattle.crn_reg.proofs.Prelude.{◌≡◌, ◌⊎◌, ℕ, suc, ◌-◌, ◌≤◌, ◌&&◌, List, [], ◌∷◌, length, refl, sym, ap, subst, ◌∙◌, inl, inr, arith, ℤ, AllByRecursion, AllZip, range_with_len, KeptInts, KeptNums, IsIn, Net, IsNetwork, IsTerminalPair, IsCutPair, ArePairs, IsLabelled, HasOneTerminalEach, IsPositivelyDependent, IsFirstSplitClass, and_cases, all_from, zip_long, map_in, filter_from, Gap, Rests, Verdict, Strong, Yes, YesVec, NoVec, NoTerminal, NoDependence, NoCycle, Unknown, Sides, tight, Earlier, Q2, Q7, Q11, on, IsOpen, IsYes, IsNo, IsFrom, AreBits, AreStrongClasses, IsCycle, from_zero, AllHold, AreSideMarks, AreSides, linkage, linkage_count, exits, ends_at, is_within_terminal, is_least_of_pair, pair_places, side_tests, HaveOneEach, IsFirstSplit, IsTrueOrOpen, IsAnswer, GiveClasses, pair_places_are_pairs, range_bounds, sides_are_formed, HasSide, HasWayRound, pairs_to, is_pair, plain, by_dependence}
use Rattle.crn_reg.proofs.FirstPairs.{all_cut_pairs}

-- ---- pairs

-- the pairs by right strong classes are those of the definition
pub pairs_are : (net : Net) (strong_count terminal : ℕ) (labels exit_list : List ℕ) → IsNetwork net → AreStrongClasses net strong_count terminal labels exit_list → ArePairs net.reactions (from_zero (pairs_to net labels exit_list (length net.reactions)))
pairs_are net strong_count terminal labels exit_list n h =
    let ls : KeptNums = record { list = labels; spare = 0 } in
    let es : KeptNums = record { list = exit_list; spare = 0 } in
    let own : Earlier = (Q2, Strong strong_count terminal ls es) ∷ [] in
    pair_places_are_pairs net own n h

-- and those that earlier verdicts give
places_same : (net : Net) (earlier : Earlier) (links : List ℕ) (count : ℕ) (labels exit_list : List ℕ) → GiveClasses earlier links count labels exit_list → pair_places net earlier ≡ pairs_to net labels exit_list (length net.reactions)
places_same net earlier links count labels exit_list g =
    let r = length net.reactions in
    let one : pair_places net earlier ≡ pairs_to net labels (exits earlier) r = ap (λ (ls : List ℕ). pairs_to net ls (exits earlier) r) g.strong_are in
    one ∙ ap (λ (es : List ℕ). pairs_to net labels es r) g.exits_are

-- each reaction of the pairs is one of the network
pub pairs_inside : (net : Net) (labels exit_list : List ℕ) (r : ℕ) → IsIn r (pairs_to net labels exit_list (length net.reactions)) → IsFrom 1 (length net.reactions) r
pairs_inside net labels exit_list r i =
    let b = range_bounds r 1 (length net.reactions) (filter_from (is_pair net labels exit_list) (range_with_len 1 (length net.reactions)) r i).0 in
    (b.0, omega (arith, b.1))

pub pairs_from : (net : Net) (labels exit_list pairs : List ℕ) → pairs ≡ pairs_to net labels exit_list (length net.reactions) → AllByRecursion (IsFrom 1 (length net.reactions)) pairs
pairs_from net labels exit_list pairs e =
    all_from (IsFrom 1 (length net.reactions)) pairs (λ r i. pairs_inside net labels exit_list r (subst (λ (rs : List ℕ). IsIn r rs) e i))

-- ---- sides

side_tests_hold : (net : Net) (earlier : Earlier) (links : List ℕ) (part : ℕ) (rs : List ℕ) (sides : List (List ℤ)) → linkage earlier ≡ links → IsLabelled net links → AllZip (HasSide net) rs sides → AllHold (side_tests net earlier part rs sides)
side_tests_hold net earlier links part [] sides e l h = tt
side_tests_hold net earlier links part (r ∷ rs) [] e l h = absurd h
side_tests_hold net earlier links part (r ∷ rs) (m ∷ sides) e l h =
    (subst (λ (ls : List ℕ). AreSideMarks net ls r m) (sym e) (h.0.tested links l.long l.right), side_tests_hold net earlier links (suc part) rs sides e l h.1)

side_bits : (net : Net) (rs : List ℕ) (sides : List (List ℤ)) → AllZip (HasSide net) rs sides → AllByRecursion (AreBits (length net.complexes)) sides
side_bits net [] [] h = tt
side_bits net [] (m ∷ sides) h = absurd h
side_bits net (r ∷ rs) [] h = absurd h
side_bits net (r ∷ rs) (m ∷ sides) h = (h.0.bits, side_bits net rs sides h.1)

sides_are : (net : Net) (rs : List ℕ) (sides : List (List ℤ)) → AllZip (HasSide net) rs sides → AreSides net rs sides
sides_are net rs sides h = record { long = zip_long (HasSide net) rs sides h; each = side_bits net rs sides h }

-- ---- what is known when each linkage class has one terminal strong class

-- right classes, the pairs by them, and one terminal class each, which earlier verdicts give
pub record Ready (net : Net) (earlier : Earlier) (links labels exit_list pairs : List ℕ) (count : ℕ) (q7 : Verdict) : Type 0 where
  pub labelled : IsLabelled net links
  pub gives : GiveClasses earlier links count labels exit_list
  pub one : HasOneTerminalEach net
  pub each : HaveOneEach earlier
  pub list : pairs ≡ pairs_to net labels exit_list (length net.reactions)
  pub are : ArePairs net.reactions (from_zero pairs)
  pub seven : on earlier Q7 ≡ tight q7
  pub true_seven : IsTrueOrOpen net Q7 q7

pair_list : (net : Net) (earlier : Earlier) (links labels exit_list pairs : List ℕ) (count : ℕ) (q7 : Verdict) → Ready net earlier links labels exit_list pairs count q7 → pair_places net earlier ≡ pairs
pair_list net earlier links labels exit_list pairs count q7 k = places_same net earlier links count labels exit_list k.gives ∙ sym k.list

yes_answer : (net : Net) (budget : ℕ) (earlier : Earlier) (links labels exit_list pairs : List ℕ) (count : ℕ) (v : KeptInts) (sides : List (List ℤ)) → Ready net earlier links labels exit_list pairs count (YesVec v) → AllZip (HasSide net) pairs sides
    → IsAnswer net budget earlier Q11 (record { verdict = Yes; proof = Sides sides })
yes_answer net budget earlier links labels exit_list pairs count v sides k h =
    let e = pair_list net earlier links labels exit_list pairs count (YesVec v) k in
    let places : AllZip (HasSide net) (pair_places net earlier) sides = subst (λ (rs : List ℕ). AllZip (HasSide net) rs sides) (sym e) h in
    let yes : IsYes (on earlier Q7) = subst IsYes (sym k.seven) tt in
    record {
      formed = sides_are_formed net earlier sides (sides_are net (pair_places net earlier) sides places);
      valid = ((k.each, yes), side_tests_hold net earlier links 1 (pair_places net earlier) sides k.gives.labels_are k.labelled places);
      answered = record { terminal = k.one; dependent = (v.list, k.true_seven); cut_pairs = all_cut_pairs net pairs sides k.are h };
    }

rests : (net : Net) (budget : ℕ) (earlier : Earlier) (links labels exit_list pairs : List ℕ) (count : ℕ) (gap : Gap) (sides : List (List ℤ)) → Ready net earlier links labels exit_list pairs count (Unknown gap) → AllZip (HasSide net) pairs sides
    → IsAnswer net budget earlier Q11 (plain (Unknown (Rests 7)))
rests net budget earlier links labels exit_list pairs count gap sides k h =
    let open_seven : IsOpen (on earlier Q7) = subst IsOpen (sym k.seven) tt in
    record { formed = (record { head = ((omega arith, omega arith), tt); rows = tt; trees = tt }, (refl, refl)); valid = tt; answered = (refl, open_seven, (k.one, all_cut_pairs net pairs sides k.are h)) }

pub sides_answer : (net : Net) (budget : ℕ) (earlier : Earlier) (links labels exit_list pairs : List ℕ) (count : ℕ) (q7 : Verdict) (sides : List (List ℤ)) → Ready net earlier links labels exit_list pairs count q7 → (IsNo q7 → ⊥) → AllZip (HasSide net) pairs sides
    → IsAnswer net budget earlier Q11 (by_dependence q7 sides)
sides_answer net budget earlier links labels exit_list pairs count (YesVec v) sides k nay h = yes_answer net budget earlier links labels exit_list pairs count v sides k h
sides_answer net budget earlier links labels exit_list pairs count (Unknown gap) sides k nay h = rests net budget earlier links labels exit_list pairs count gap sides k h
sides_answer net budget earlier links labels exit_list pairs count (NoVec m) sides k nay h = absurd (nay tt)
sides_answer net budget earlier links labels exit_list pairs count q7 sides k nay h = absurd k.true_seven

-- ---- a pair that is no cut pair

yes_or_open : (net : Net) (q7 : Verdict) → IsTrueOrOpen net Q7 q7 → (IsNo q7 → ⊥) → IsYes (tight q7) ⊎ IsOpen (tight q7)
yes_or_open net (YesVec v) h nay = inl tt
yes_or_open net (Unknown gap) h nay = inr tt
yes_or_open net (NoVec m) h nay = absurd (nay tt)
yes_or_open net q7 h nay = absurd h

cycle_is : (net : Net) (pairs walk : List ℕ) (r : ℕ) → ArePairs net.reactions (from_zero pairs) → IsIn r pairs → HasWayRound net r walk → IsCycle net r walk
cycle_is net pairs walk r are i h =
    let f = (are.each (r - 1)).0 (map_in (λ (q : ℕ). q - 1) pairs r i) in
    let w = h.way in
    let first : (f.a, f.b) ≡ (w.y, w.z) = sym f.goes.1 ∙ w.goes.1.1 in
    let second : (h.y, h.z) ≡ (w.y, w.z) = sym h.goes.1.1 ∙ w.goes.1.1 in
    record {
      y = w.y;
      z = w.z;
      goes = w.goes;
      pair = subst (λ (p : ℕ × ℕ). IsTerminalPair net.reactions p.0 p.1) first f.pair;
      no_cut_pair = subst (λ (p : ℕ × ℕ). IsCutPair net.reactions p.0 p.1 → ⊥) second h.no_pair;
      shown = w.leads;
    }

pub cycle_answer : (net : Net) (budget : ℕ) (earlier : Earlier) (links labels exit_list pairs : List ℕ) (count : ℕ) (q7 : Verdict) (r : ℕ) (walk : KeptNums) → Ready net earlier links labels exit_list pairs count q7 → (IsNo q7 → ⊥) → IsIn r pairs → HasWayRound net r walk.list
    → IsAnswer net budget earlier Q11 (plain (NoCycle r walk))
cycle_answer net budget earlier links labels exit_list pairs count q7 r walk k nay i h =
    let e = pair_list net earlier links labels exit_list pairs count q7 k in
    let place : IsIn r (pair_places net earlier) = subst (λ (rs : List ℕ). IsIn r rs) (sym e) i in
    let f = filter_from (λ r. is_within_terminal earlier (ends_at net r) && is_least_of_pair net r) (range_with_len 1 (length net.reactions)) r place in
    let b = range_bounds r 1 (length net.reactions) f.0 in
    let most : r ≤ length net.reactions = omega (arith, b.1) in
    let within = (and_cases (is_within_terminal earlier (ends_at net r)) (is_least_of_pair net r) f.1).0 in
    let seven : IsYes (on earlier Q7) ⊎ IsOpen (on earlier Q7) = subst (λ (v : Verdict). IsYes v ⊎ IsOpen v) (sym k.seven) (yes_or_open net q7 k.true_seven nay) in
    record {
      formed = (
        record { head = ((b.0, most), tt); rows = (h.listed, tt); trees = tt },
        (refl, refl),
      );
      valid = ((k.each, seven, (b.0, most, within)), (h.way, tt));
      answered = (k.one, cycle_is net pairs walk.list r k.are i h);
    }

-- ---- the first two conditions

pub split_answer : (net : Net) (budget : ℕ) (earlier : Earlier) (class number : ℕ) → IsFrom 1 (linkage_count earlier) class → IsFrom 2 (length net.complexes) number → IsFirstSplit earlier class number → IsFirstSplitClass net class number
    → IsAnswer net budget earlier Q11 (plain (NoTerminal class number))
split_answer net budget earlier class number place many tests split = record { formed = (record { head = (place, (many, tt)); rows = tt; trees = tt }, (refl, refl)); valid = (tests, tt); answered = split }

pub dependence_answer : (net : Net) (budget : ℕ) (earlier : Earlier) → HasOneTerminalEach net → HaveOneEach earlier → IsNo (on earlier Q7) → (IsPositivelyDependent net → ⊥) → IsAnswer net budget earlier Q11 (plain NoDependence)
dependence_answer net budget earlier one each fails none = record { formed = (record { head = tt; rows = tt; trees = tt }, (refl, refl)); valid = ((each, fails), tt); answered = (one, none) }

-- a true or open verdict that gives no multipliers is not a no
pub not_a_no : (net : Net) (q7 : Verdict) → IsTrueOrOpen net Q7 q7 → ((m : KeptInts) → q7 ≡ NoVec m → ⊥) → IsNo q7 → ⊥
not_a_no net (NoVec m) h other i = other m refl
not_a_no net (YesVec v) h other i = i
not_a_no net (Unknown gap) h other i = i
not_a_no net q7 h other i = h
