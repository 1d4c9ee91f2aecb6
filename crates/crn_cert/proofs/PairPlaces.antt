-- The pairs that are computed from true strong classes are the linked pairs of terminal classes, each by its least reaction.
use Rattle.crn_cert.proofs.Prelude.{◌≡◌, ℕ, ◌+◌, ◌-◌, ◌<◌, ◌≤◌, Bool, true, false, List, [], ◌∷◌, length, get_or, refl, sym, ap, subst, ◌∙◌, inl, inr, arith, ◌==◌, ◌&&◌, ◌||◌, not, range_with_len, list_any, cases_Bool, eq-eqb, eqb-true, IsIn, IsAscending, Net, IsNetwork, IsBetween, IsFirstOfPair, reaction_in, inside_at, in_range, filter_from, filter_has, range_above, range_bounds, filter_above, above_ascending, and_cases, and_true, or_right, not_true, any_has, Earlier, Q2, on, count_of, from_zero, of_class, strong, exits, ends_at, is_within_terminal, is_same_pair, is_least_of_pair, pair_places, PairPlacesArePairs}
use Rattle.crn_cert.proofs.Filters.{some_place, or_either}
use Rattle.crn_cert.proofs.Known.{StrongKnown, strong_known}
use Rattle.crn_cert.proofs.RankLaws.{from_zero_ascending}

-- ---- lists

or_left : (a b : Bool) → a ≡ true → (a || b) ≡ true
or_left true b e = refl
or_left false b e = cc

into_zero : (rs : List ℕ) (r : ℕ) → IsIn r rs → IsIn (r - 1) (from_zero rs)
into_zero [] r i = absurd i
into_zero (s ∷ rs) r (inl e) = inl (ap (λ (k : ℕ). k - 1) e)
into_zero (s ∷ rs) r (inr i) = inr (into_zero rs r i)

out_of_zero : (rs : List ℕ) (k : ℕ) → ((r : ℕ) → IsIn r rs → 1 ≤ r) → IsIn k (from_zero rs) → IsIn (k + 1) rs
out_of_zero [] k h i = absurd i
out_of_zero (r ∷ rs) k h (inl e) = inl (let le = h r (inl refl) in omega (arith, e, le))
out_of_zero (r ∷ rs) k h (inr i) = inr (out_of_zero rs k (λ q j. h q (inr j)) i)

-- ---- the two tests

pub same_pair : (q r : ℕ × ℕ) → IsBetween r.0 r.1 q.0 q.1 → is_same_pair q r ≡ true
same_pair q r (inl e) = or_left ((q.0 == r.0) && (q.1 == r.1)) ((q.0 == r.1) && (q.1 == r.0)) (and_true (q.0 == r.0) (q.1 == r.1) (eq-eqb q.0 r.0 e.0) (eq-eqb q.1 r.1 e.1))
same_pair q r (inr e) = or_right ((q.0 == r.0) && (q.1 == r.1)) ((q.0 == r.1) && (q.1 == r.0)) (and_true (q.0 == r.1) (q.1 == r.0) (eq-eqb q.0 r.1 e.0) (eq-eqb q.1 r.0 e.1))

pub pair_same : (q r : ℕ × ℕ) → is_same_pair q r ≡ true → IsBetween r.0 r.1 q.0 q.1
pair_same q r e = elim (or_either ((q.0 == r.0) && (q.1 == r.1)) ((q.0 == r.1) && (q.1 == r.0)) e) as (λ _. IsBetween r.0 r.1 q.0 q.1) [
  | inl h ↦ let p = and_cases (q.0 == r.0) (q.1 == r.1) h in inl (eqb-true q.0 r.0 p.0, eqb-true q.1 r.1 p.1)
  | inr h ↦ let p = and_cases (q.0 == r.1) (q.1 == r.0) h in inr (eqb-true q.0 r.1 p.0, eqb-true q.1 r.0 p.1)
]

-- ---- the law

abbrev tests : Net → Earlier → ℕ → Bool
tests net earlier r = is_within_terminal earlier (ends_at net r) && is_least_of_pair net r

place_range : (net : Net) (earlier : Earlier) (r : ℕ) → IsIn r (pair_places net earlier) → (1 ≤ r) × (r < 1 + length net.reactions)
place_range net earlier r i = range_bounds r 1 (length net.reactions) (filter_from (tests net earlier) (range_with_len 1 (length net.reactions)) r i).0

first_of : (net : Net) (earlier : Earlier) → IsNetwork net → StrongKnown net (count_of (on earlier Q2)) (strong earlier) (exits earlier) → (k : ℕ) → IsIn (k + 1) (pair_places net earlier) → IsFirstOfPair net.reactions k
first_of net earlier n known k i =
    let rs = net.reactions in
    let s = known.is in
    let f = filter_from (tests net earlier) (range_with_len 1 (length rs)) (k + 1) i in
    let lt : k < length rs = let b = range_bounds (k + 1) 1 (length rs) f.0 in omega (arith, b.1) in
    let p : ℕ × ℕ = get_or rs k (0, 0) in
    let at : ends_at net (k + 1) ≡ p = ap (λ (j : ℕ). get_or rs j (0, 0)) (omega arith) in
    let t = and_cases (is_within_terminal earlier (ends_at net (k + 1))) (is_least_of_pair net (k + 1)) f.1 in
    let w : is_within_terminal earlier p ≡ true = ap (is_within_terminal earlier) (sym at) ∙ t.0 in
    let u = and_cases (get_or (strong earlier) p.0 0 == get_or (strong earlier) p.1 0) (of_class (strong earlier) (exits earlier) p.0 == 0) w in
    let ends = inside_at (length net.complexes) rs n.partial.apart p.0 p.1 (reaction_in rs k p lt refl) in
    let l0 : p.0 < length (strong earlier) = omega (arith, ends.0, s.places) in
    let l1 : p.1 < length (strong earlier) = omega (arith, ends.1, s.places) in
    record {
      a = p.0;
      b = p.1;
      goes = (lt, refl);
      pair = record {
        linked = inl (reaction_in rs k p lt refl);
        within = s.right.same p.0 p.1 l0 l1 (eqb-true (get_or (strong earlier) p.0 0) (get_or (strong earlier) p.1 0) u.0);
        terminal = (s.exits_are.terminal p.0 l0).0 (eqb-true (of_class (strong earlier) (exits earlier) p.0) 0 u.1);
      };
      first = λ q y z less goes between.
          let q_at : ends_at net (q + 1) ≡ (y, z) = ap (λ (j : ℕ). get_or rs j (0, 0)) (omega arith) ∙ goes.1 in
          let same : is_same_pair (ends_at net (q + 1)) (ends_at net (k + 1)) ≡ true = ap (λ (e : ℕ × ℕ). is_same_pair e (ends_at net (k + 1))) q_at ∙ ap (λ (e : ℕ × ℕ). is_same_pair (y, z) e) at ∙ same_pair (y, z) p between in
          not_true (list_any (λ j. is_same_pair (ends_at net j) (ends_at net (k + 1))) (range_with_len 1 (k + 1 - 1))) t.1
          (any_has (λ j. is_same_pair (ends_at net j) (ends_at net (k + 1))) (range_with_len 1 (k + 1 - 1)) (q + 1) (in_range (q + 1) 1 (k + 1 - 1) (omega arith) (omega (arith, less))) same);
    }

place_of_first : (net : Net) (earlier : Earlier) → IsNetwork net → StrongKnown net (count_of (on earlier Q2)) (strong earlier) (exits earlier) → (k : ℕ) → IsFirstOfPair net.reactions k → IsIn (k + 1) (pair_places net earlier)
place_of_first net earlier n known k f =
    let rs = net.reactions in
    let s = known.is in
    let at : ends_at net (k + 1) ≡ (f.a, f.b) = ap (λ (j : ℕ). get_or rs j (0, 0)) (omega arith) ∙ f.goes.1 in
    let ends = inside_at (length net.complexes) rs n.partial.apart f.a f.b (reaction_in rs k (f.a, f.b) f.goes.0 f.goes.1) in
    let la : f.a < length (strong earlier) = omega (arith, ends.0, s.places) in
    let lb : f.b < length (strong earlier) = omega (arith, ends.1, s.places) in
    let within : is_within_terminal earlier (ends_at net (k + 1)) ≡ true = ap (is_within_terminal earlier) at
    ∙ and_true (get_or (strong earlier) f.a 0 == get_or (strong earlier) f.b 0) (of_class (strong earlier) (exits earlier) f.a == 0)
    (eq-eqb (get_or (strong earlier) f.a 0) (get_or (strong earlier) f.b 0) (s.right.together f.a f.b la lb f.pair.within))
    (eq-eqb (of_class (strong earlier) (exits earlier) f.a) 0 ((s.exits_are.terminal f.a la).1 f.pair.terminal)) in
    let least : is_least_of_pair net (k + 1) ≡ true = elim (cases_Bool (list_any (λ j. is_same_pair (ends_at net j) (ends_at net (k + 1))) (range_with_len 1 (k + 1 - 1)))) as (λ _. is_least_of_pair net (k + 1) ≡ true) [
      | inr none ↦ ap not none
      | inl some ↦
          let q = some_place (λ j. is_same_pair (ends_at net j) (ends_at net (k + 1))) 1 (k + 1 - 1) some in
          let less : q.0 - 1 < k = omega (arith, q.1, q.2) in
          let between : IsBetween f.a f.b (ends_at net q.0).0 (ends_at net q.0).1 = pair_same (ends_at net q.0) (f.a, f.b) (ap (λ (e : ℕ × ℕ). is_same_pair (ends_at net q.0) e) (sym at) ∙ q.3) in
          absurd (f.first (q.0 - 1) (ends_at net q.0).0 (ends_at net q.0).1 less (omega (arith, less, f.goes.0), refl) between)
    ] in
    filter_has (tests net earlier) (range_with_len 1 (length rs)) (k + 1) (in_range (k + 1) 1 (length rs) (omega arith) (let lt = f.goes.0 in omega (arith, lt)))
    (and_true (is_within_terminal earlier (ends_at net (k + 1))) (is_least_of_pair net (k + 1)) within least)

pub pair_places_are_pairs : PairPlacesArePairs
pair_places_are_pairs net earlier n h =
    let known = strong_known net (on earlier Q2) h in
    let positive : (r : ℕ) → IsIn r (pair_places net earlier) → 1 ≤ r = λ r i. (place_range net earlier r i).0 in
    let ascending : IsAscending (pair_places net earlier) = above_ascending 0 (pair_places net earlier) (filter_above (tests net earlier) 0 (range_with_len 1 (length net.reactions)) (range_above 0 1 (length net.reactions) (omega arith))) in
    record {
      ascending = from_zero_ascending (pair_places net earlier) positive ascending;
      each = λ r. (
        λ i. first_of net earlier n known r (out_of_zero (pair_places net earlier) r positive i),
        λ f. subst (λ (k : ℕ). IsIn k (from_zero (pair_places net earlier))) (omega arith) (into_zero (pair_places net earlier) (r + 1) (place_of_first net earlier n known r f)),
      );
    }
