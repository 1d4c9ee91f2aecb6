-- Formed answers have short verdicts, so their reports are short.
use Rattle.crn_render.proofs.Prelude.{◌≡◌, ◌⊎◌, ◌+◌, ◌-◌, ◌*◌, ◌^◌, ◌≤◌, ◌==◌, ◌++◌, ◌&&◌, ℕ, zero, suc, inl, inr, List, [], ◌∷◌, length, get_or, refl, ap, ◌∙◌, arith, min, ℤ, pos, ◌*ℤ◌, unsigned_abs, AllByRecursion, range_with_len, cases_Bool, eqb-true, ints, length-map, length-range_with_len, suc-mul, Net, IsNetwork, IsAmount, IsVector, minus, reaction_vector, entry, dot, column, vectors, all_from, all_given, entry-column, filter_few, length-column, lt_or, past_end, product_within, range_bounds, sum_within, vector_at, vectors_count, Earlier, Question, Q1, Q2, Q3, Q4, Q5, Q6, Q7, Q8, Q9, Q10, Q11, Q12, Q13, Q14, Q15, number, on, count_of, terminal_of, has_vector, IsFrom, IsNarrow, AreFrom, AreFree, IsTurn, linkage, linkage_count, class_places, pair_places, ends_at, is_within_terminal, is_least_of_pair, Num, IsBasisOf, sizes_of, FitsHead, AreSignalRows, HeadMayBe, IsWideGap, AreFormed, IsBaseList, ListsMayBe, formed_answers_have_formed_verdicts, verdicts_of, tight, built, Gap, Wide, Budget, Rests, Verdict, Classes, Strong, Rank, Deficiency, Yes, YesWeak, YesVec, YesSignal, No, NoReaction, NoVec, NoNumber, NoTerminal, NoClass, NoSum, NoDependence, NoCycle, NoPair, NotRegular, OnlyZero, Plane, NotApplicable, Unknown, Answer, sigma, ReportsAreShort}
use Rattle.std.proofs.Common.{true, map}
use Rattle.crn_cert.specs.declared.head_kind.HeadKind.TheVariants as head
use Rattle.crn_render.proofs.SumEntries.{sigma_count, sigma_entry}
use Rattle.crn_render.proofs.Lengths.{AreShort, AreShortCounts, IsShort, IsShortGap, IsShortNumber, short_reports}

-- ---- bounds

record Bounds (net : Net) : Type 0 where
  species : length net.names ≤ 60
  complexes : length net.complexes ≤ 160
  reactions : length net.reactions ≤ 240

bounds : (net : Net) → IsNetwork net → Bounds net
bounds net n = let p = n.partial in record { species = p.species_limit; complexes = p.complexes_limit; reactions = p.reactions_limit }

-- the numbers of classes that earlier verdicts say are no more than the complexes may be
record IsCounted (earlier : Earlier) : Type 0 where
  linkage : linkage_count earlier ≤ 160
  terminal : terminal_of (on earlier Q2) ≤ 160

below_all : (least greatest : ℕ) (xs : List ℕ) → greatest ≤ 1000 → AllByRecursion (λ x. (least ≤ x) × (x ≤ greatest)) xs → AllByRecursion (λ n. n ≤ 1000) xs
below_all least greatest [] few h = tt
below_all least greatest (x ∷ xs) few h = (omega (arith, few, h.0.1), below_all least greatest xs few h.1)

from_short : (count least greatest : ℕ) (xs : List ℕ) → count ≤ 400 → greatest ≤ 1000 → AreFrom count least greatest xs → AreShortCounts xs
from_short count least greatest xs few most h = let long = h.long in record { few = omega (arith, long, few); each = below_all least greatest xs most h.each }

narrow_all : (xs : List ℤ) → AllByRecursion IsNarrow xs → AllByRecursion IsShortNumber xs
narrow_all [] h = tt
narrow_all (x ∷ xs) h = (let lt = h.0 in omega (arith, lt), narrow_all xs h.1)

free_short : (count : ℕ) (xs : List ℤ) → count ≤ 400 → AreFree count xs → AreShort xs
free_short count xs few h = let long = h.long in record { few = omega (arith, long, few); each = narrow_all xs h.each }

basis_short : (columns rows index : ℕ) (basis : List ℕ) → columns ≤ 400 → columns + rows ≤ 1000 → IsBasisOf columns rows index basis → (index ≤ 1000) × AreShortCounts basis
basis_short columns rows index basis few all h = let at = h.coordinate in (omega (arith, at.1, all), from_short columns 1 (columns + rows) basis few all h.members)

-- ---- sums of reaction vectors

minus_most : (xs ys : List ℤ) (s : ℕ) → AllByRecursion IsAmount xs → AllByRecursion IsAmount ys → unsigned_abs (entry (minus xs ys) s) ≤ 99
minus_most [] ys s a b = omega arith
minus_most (x ∷ xs) [] s a b = omega arith
minus_most (x ∷ xs) (y ∷ ys) zero a b = omega (arith, ints, a.0.0, a.0.1, b.0.0, b.0.1)
minus_most (x ∷ xs) (y ∷ ys) (suc s) a b = minus_most xs ys s a.1 b.1

amounts_of : (n c : ℕ) (xs : List (List ℤ)) → AllByRecursion (IsVector n) xs → AllByRecursion IsAmount (get_or xs c [])
amounts_of n c [] h = tt
amounts_of n zero (x ∷ xs) h = h.0.1
amounts_of n (suc c) (x ∷ xs) h = amounts_of n c xs h.1

entry_most : (net : Net) → IsNetwork net → (s r : ℕ) → unsigned_abs (entry (column (vectors net) s) r) ≤ 99
entry_most net n s r = elim (lt_or r (length net.reactions)) as (λ _. unsigned_abs (entry (column (vectors net) s) r) ≤ 99) [
  | inl lt ↦
      let p = n.partial in
      let q = get_or net.reactions r (0, 0) in
      let e : entry (column (vectors net) s) r ≡ entry (reaction_vector net q) s = entry-column (vectors net) s r ∙ ap (λ (v : List ℤ). entry v s) (vector_at net r lt) in
      let most = minus_most (get_or net.complexes q.1 []) (get_or net.complexes q.0 []) s (amounts_of (length net.names) q.1 net.complexes p.vectors) (amounts_of (length net.names) q.0 net.complexes p.vectors) in
      omega (arith, most, ap unsigned_abs e)
  | inr past ↦ let e = past_end (column (vectors net) s) r (omega (arith, past, length-column (vectors net) s, vectors_count net)) in omega (arith, ap unsigned_abs e)
]

dot_most : (xs ys : List ℤ) → ((k : ℕ) → unsigned_abs (entry xs k) ≤ 99) → AllByRecursion IsNarrow ys → unsigned_abs (dot xs ys) ≤ length ys * (99 * 2 ^ 72)
dot_most [] ys a b = omega arith
dot_most (x ∷ xs) [] a b = omega arith
dot_most (x ∷ xs) (y ∷ ys) a b =
    let lt = b.0 in
    let product = product_within x y 99 (2 ^ 72) (a 0) (omega (arith, lt)) in
    let more = dot_most xs ys (λ k. a (suc k)) b.1 in
    let both = sum_within (x *ℤ y) (dot xs ys) (99 * 2 ^ 72) (length ys * (99 * 2 ^ 72)) product more in
    omega (arith, both, suc-mul (length ys) (99 * 2 ^ 72))

sigma_short : (net : Net) → IsNetwork net → (weights : List ℤ) → AreFree (length net.reactions) weights → AreShort (sigma net weights)
sigma_short net n weights w =
    let few = bounds net n in
    let long = w.long in
    record {
      few = omega (arith, few.species, sigma_count net weights);
      each = all_given IsShortNumber (sigma net weights) (pos 0) (λ s lt.
          let most = dot_most (column (vectors net) s) weights (entry_most net n s) w.each in
          let e = ap unsigned_abs (sigma_entry net weights s (omega (arith, lt, sigma_count net weights))) in
          omega (arith, few.reactions, long, most, e));
    }

-- ---- lists of verdicts

rank_short : (net : Net) → IsNetwork net → (rank : ℕ) (base : List ℕ) → IsFrom 1 (min (length net.names) (length net.reactions)) rank → IsBaseList net rank base → (rank ≤ 1000) × AreShortCounts base
rank_short net n rank base h r =
    let few = bounds net n in
    let long = r.long in
    let most : rank ≤ 240 = omega (arith, few.reactions, h.1) in (
      omega (arith, most),
      record {
        few = omega (arith, long, most);
        each = all_from (λ k. k ≤ 1000) base (λ k i. let b = range_bounds k 1 (length net.reactions) (r.from k i) in omega (arith, few.reactions, b.1));
      },
    )

turn_short : (turn : ℤ) → IsTurn turn → IsShortNumber turn
turn_short turn (inl e) = let f = ap unsigned_abs e in omega (arith, f)
turn_short turn (inr e) = let f = ap unsigned_abs e in omega (arith, f)

signal_short : (net : Net) → IsNetwork net → (earlier : Earlier) → IsCounted earlier → (turn : ℤ) (shelves mu : List ℤ) (m : ℤ) (weights : List ℤ) → IsTurn turn → AreSignalRows net earlier shelves mu m weights
    → IsShortNumber turn × (length shelves ≤ 400) × AreShort mu × IsShortNumber m
signal_short net n earlier c turn shelves mu m weights h r =
    let few = bounds net n in
    let k = c.terminal in
    let s = r.shelves_are in
    let long = s.long in
    let level = r.level_is in
    (turn_short turn h, omega (arith, k, long), free_short (length net.names) mu (omega (arith, few.species)) r.mu_is, omega (arith, level))

pair_short : (net : Net) → IsNetwork net → (alpha weights : List ℤ) → AreFree (length net.reactions) alpha × AreFree (length net.reactions) weights → AreShort (sigma net weights) × AreShort alpha
pair_short net n alpha weights r = let few = bounds net n in (sigma_short net n weights r.1, free_short (length net.reactions) alpha (omega (arith, few.reactions)) r.0)

-- ---- reasons of open verdicts

wide_13 : (net : Net) → IsNetwork net → (earlier : Earlier) → IsCounted earlier → (system class index : ℕ) (basis : List ℕ)
    → ((system ≡ 2) × (class ≡ 0) × IsBasisOf (length net.reactions) (length net.names) index basis)
    ⊎ ((system ≡ 5) × (class ≡ 0) × (has_vector (on earlier Q12) ≡ true) × IsBasisOf (length net.names + 1) (length net.complexes + length (pair_places net earlier)) index basis)
    → (system ≤ 1000) × (class ≤ 1000) × (index ≤ 1000) × AreShortCounts basis
wide_13 net n earlier c system class index basis (inl h) = let few = bounds net n in let x = basis_short (length net.reactions) (length net.names) index basis (omega (arith, few.reactions)) (omega (arith, few.species, few.reactions)) h.2 in (omega (arith, h.0), omega (arith, h.1), x.0, x.1)
wide_13 net n earlier c system class index basis (inr h) = let few = bounds net n in let places = filter_few (λ r. is_within_terminal earlier (ends_at net r) && is_least_of_pair net r) (range_with_len 1 (length net.reactions)) in let x = basis_short (length net.names + 1) (length net.complexes + length (pair_places net earlier)) index basis (omega (arith, few.species)) (omega (arith, few.species, few.complexes, few.reactions, places, length-range_with_len 1 (length net.reactions))) h.3 in (omega (arith, h.0), omega (arith, h.1), x.0, x.1)

wide_short : (net : Net) → IsNetwork net → (earlier : Earlier) → IsCounted earlier → (q : Question) (system class index : ℕ) (basis : List ℕ) → IsWideGap net earlier q system class index basis → (system ≤ 1000) × (class ≤ 1000) × (index ≤ 1000) × AreShortCounts basis
wide_short net n earlier c Q5 system class index basis h = let few = bounds net n in let x = basis_short (length net.names) (length net.reactions) index basis (omega (arith, few.species, few.reactions)) (omega (arith, few.species, few.reactions)) h.0.2 in (omega (arith, h.0.0), omega (arith, h.0.1), x.0, x.1)
wide_short net n earlier c Q6 system class index basis h = let few = bounds net n in let k = c.linkage in let places = filter_few (λ r. get_or (linkage earlier) (get_or net.reactions (r - 1) (0, 0)).0 0 == class) (range_with_len 1 (length net.reactions)) in let x = basis_short (length net.names) (length (class_places net earlier class)) index basis (omega (arith, few.species)) (omega (arith, few.species, few.reactions, places, length-range_with_len 1 (length net.reactions))) h.0.2 in (omega (arith, h.0.0), omega (arith, k, h.0.1.1), x.0, x.1)
wide_short net n earlier c Q7 system class index basis h = let few = bounds net n in let x = basis_short (length net.reactions) (length net.names) index basis (omega (arith, few.species, few.reactions)) (omega (arith, few.species, few.reactions)) h.0.2 in (omega (arith, h.0.0), omega (arith, h.0.1), x.0, x.1)
wide_short net n earlier c Q8 system class index basis h = let few = bounds net n in let x = basis_short (length net.names) (length net.reactions) index basis (omega (arith, few.species, few.reactions)) (omega (arith, few.species, few.reactions)) h.0.2 in (omega (arith, h.0.0), omega (arith, h.0.1), x.0, x.1)
wide_short net n earlier c Q12 system class index basis h = let few = bounds net n in let k = c.linkage in let x = basis_short (length net.complexes) (length net.names + linkage_count earlier) index basis (omega (arith, few.complexes)) (omega (arith, few.species, few.complexes, k)) h.0.2 in (omega (arith, h.0.0), omega (arith, h.0.1), x.0, x.1)
wide_short net n earlier c Q13 system class index basis h = wide_13 net n earlier c system class index basis h.0
wide_short net n earlier c Q14 system class index basis h = let few = bounds net n in let x = basis_short (length net.reactions) (length net.names) index basis (omega (arith, few.species, few.reactions)) (omega (arith, few.species, few.reactions)) h.0.2 in (omega (arith, h.0.0), omega (arith, h.0.1), x.0, x.1)
wide_short net n earlier c Q15 system class index basis h = let few = bounds net n in let x = basis_short (length net.reactions) (length net.names) index basis (omega (arith, few.species, few.reactions)) (omega (arith, few.species, few.reactions)) h.0.2 in (omega (arith, h.0.0), omega (arith, h.0.1), x.0, x.1)
wide_short net n earlier c q system class index basis h = absurd h

budget_short : (net : Net) (earlier : Earlier) (q : Question) (nodes : ℕ) → FitsHead q (sizes_of net earlier) head.Budget (Num nodes ∷ []) → nodes ≤ 100000
budget_short net earlier Q13 nodes h = h.0.1
budget_short net earlier Q14 nodes h = h.0.1
budget_short net earlier Q15 nodes h = h.0.1
budget_short net earlier q nodes h = absurd h

rests_short : (net : Net) (earlier : Earlier) (q : Question) (j : ℕ) → FitsHead q (sizes_of net earlier) head.Rests (Num j ∷ []) → j ≤ 1000
rests_short net earlier Q6 j h = let most = h.0.1 in omega (arith, most)
rests_short net earlier Q9 j h = let most = h.0.1 in omega (arith, most)
rests_short net earlier Q10 j h = let most = h.0.1 in omega (arith, most)
rests_short net earlier Q11 j h = let most = h.0.1 in omega (arith, most)
rests_short net earlier Q12 j h = let most = h.0.1 in omega (arith, most)
rests_short net earlier Q13 j h = let most = h.0.1 in omega (arith, most)
rests_short net earlier q j h = absurd h

gap_short : (net : Net) → IsNetwork net → (earlier : Earlier) → IsCounted earlier → (q : Question) (gap : Gap) → HeadMayBe net earlier q (Unknown gap) → IsShortGap gap
gap_short net n earlier c q (Wide system class index basis) h = wide_short net n earlier c q system class index basis.list h
gap_short net n earlier c q (Budget nodes) h = budget_short net earlier q nodes h
gap_short net n earlier c q (Rests question) h = rests_short net earlier q question h

-- ---- questions

short_1 : (net : Net) → IsNetwork net → (earlier : Earlier) → IsCounted earlier → (v : Verdict) → HeadMayBe net earlier Q1 v → ListsMayBe net earlier Q1 v → IsShort net v
short_1 net n earlier c (Classes count label) h r = let few = bounds net n in omega (arith, few.complexes, h.0.1)
short_1 net n earlier c (Unknown gap) h r = gap_short net n earlier c Q1 gap h
short_1 net n earlier c v h r = absurd h

short_2 : (net : Net) → IsNetwork net → (earlier : Earlier) → IsCounted earlier → (v : Verdict) → HeadMayBe net earlier Q2 v → ListsMayBe net earlier Q2 v → IsShort net v
short_2 net n earlier c (Strong count terminal label exit) h r = let few = bounds net n in (omega (arith, few.complexes, h.0.0.1), omega (arith, few.complexes, h.0.0.1, h.0.1.1))
short_2 net n earlier c (Unknown gap) h r = gap_short net n earlier c Q2 gap h
short_2 net n earlier c v h r = absurd h

short_3 : (net : Net) → IsNetwork net → (earlier : Earlier) → IsCounted earlier → (v : Verdict) → HeadMayBe net earlier Q3 v → ListsMayBe net earlier Q3 v → IsShort net v
short_3 net n earlier c Yes h r = tt
short_3 net n earlier c (NoReaction reaction) h r = let few = bounds net n in omega (arith, few.reactions, h.0.1)
short_3 net n earlier c (Unknown gap) h r = gap_short net n earlier c Q3 gap h
short_3 net n earlier c v h r = absurd h

short_4 : (net : Net) → IsNetwork net → (earlier : Earlier) → IsCounted earlier → (v : Verdict) → HeadMayBe net earlier Q4 v → ListsMayBe net earlier Q4 v → IsShort net v
short_4 net n earlier c Yes h r = tt
short_4 net n earlier c (NoReaction reaction) h r = let few = bounds net n in omega (arith, few.reactions, h.0.1)
short_4 net n earlier c (Unknown gap) h r = gap_short net n earlier c Q4 gap h
short_4 net n earlier c v h r = absurd h

short_5 : (net : Net) → IsNetwork net → (earlier : Earlier) → IsCounted earlier → (v : Verdict) → HeadMayBe net earlier Q5 v → ListsMayBe net earlier Q5 v → IsShort net v
short_5 net n earlier c (Rank rank base) h r = rank_short net n rank base.list h.0 r
short_5 net n earlier c (Unknown gap) h r = gap_short net n earlier c Q5 gap h
short_5 net n earlier c v h r = absurd h

short_6 : (net : Net) → IsNetwork net → (earlier : Earlier) → IsCounted earlier → (v : Verdict) → HeadMayBe net earlier Q6 v → ListsMayBe net earlier Q6 v → IsShort net v
short_6 net n earlier c (Deficiency total classes) h r = let few = bounds net n in let k = c.linkage in (omega (arith, few.complexes, h.0.0.1), from_short (linkage_count earlier) 0 (length net.complexes) classes.list (omega (arith, k)) (omega (arith, few.complexes)) h.0.1)
short_6 net n earlier c (Unknown gap) h r = gap_short net n earlier c Q6 gap h
short_6 net n earlier c v h r = absurd h

short_7 : (net : Net) → IsNetwork net → (earlier : Earlier) → IsCounted earlier → (v : Verdict) → HeadMayBe net earlier Q7 v → ListsMayBe net earlier Q7 v → IsShort net v
short_7 net n earlier c (YesVec vector) h r = let few = bounds net n in free_short (length net.reactions) vector.list (omega (arith, few.reactions)) r
short_7 net n earlier c (NoVec multipliers) h r = let few = bounds net n in free_short (length net.names) multipliers.list (omega (arith, few.species)) r
short_7 net n earlier c (Unknown gap) h r = gap_short net n earlier c Q7 gap h
short_7 net n earlier c v h r = absurd h

short_8 : (net : Net) → IsNetwork net → (earlier : Earlier) → IsCounted earlier → (v : Verdict) → HeadMayBe net earlier Q8 v → ListsMayBe net earlier Q8 v → IsShort net v
short_8 net n earlier c (YesVec vector) h r = let few = bounds net n in free_short (length net.names) vector.list (omega (arith, few.species)) r
short_8 net n earlier c (NoVec multipliers) h r = let few = bounds net n in free_short (length net.reactions) multipliers.list (omega (arith, few.reactions)) r
short_8 net n earlier c (Unknown gap) h r = gap_short net n earlier c Q8 gap h
short_8 net n earlier c v h r = absurd h

short_9 : (net : Net) → IsNetwork net → (earlier : Earlier) → IsCounted earlier → (v : Verdict) → HeadMayBe net earlier Q9 v → ListsMayBe net earlier Q9 v → IsShort net v
short_9 net n earlier c (YesWeak weak) h r = tt
short_9 net n earlier c (NoNumber number) h r = let few = bounds net n in omega (arith, few.complexes, h.0.1)
short_9 net n earlier c (Unknown gap) h r = gap_short net n earlier c Q9 gap h
short_9 net n earlier c v h r = absurd h

short_10 : (net : Net) → IsNetwork net → (earlier : Earlier) → IsCounted earlier → (v : Verdict) → HeadMayBe net earlier Q10 v → ListsMayBe net earlier Q10 v → IsShort net v
short_10 net n earlier c Yes h r = tt
short_10 net n earlier c (NoTerminal class count) h r = let few = bounds net n in let k = c.linkage in (omega (arith, k, h.0.1), omega (arith, few.complexes, h.1.0.1))
short_10 net n earlier c (NoClass class number) h r = let few = bounds net n in let k = c.linkage in (omega (arith, k, h.0.1), omega (arith, few.complexes, h.1.0.1))
short_10 net n earlier c (NoSum total) h r = let few = bounds net n in omega (arith, few.complexes, h.0.1)
short_10 net n earlier c (Unknown gap) h r = gap_short net n earlier c Q10 gap h
short_10 net n earlier c v h r = absurd h

short_11 : (net : Net) → IsNetwork net → (earlier : Earlier) → IsCounted earlier → (v : Verdict) → HeadMayBe net earlier Q11 v → ListsMayBe net earlier Q11 v → IsShort net v
short_11 net n earlier c Yes h r = tt
short_11 net n earlier c (NoTerminal class count) h r = let few = bounds net n in let k = c.linkage in (omega (arith, k, h.0.1), omega (arith, few.complexes, h.1.0.1))
short_11 net n earlier c NoDependence h r = tt
short_11 net n earlier c (NoCycle reaction walk) h r = let few = bounds net n in let most = r.few in (omega (arith, few.reactions, h.0.1), omega (arith, few.complexes, most))
short_11 net n earlier c (Unknown gap) h r = gap_short net n earlier c Q11 gap h
short_11 net n earlier c v h r = absurd h

short_12 : (net : Net) → IsNetwork net → (earlier : Earlier) → IsCounted earlier → (v : Verdict) → HeadMayBe net earlier Q12 v → ListsMayBe net earlier Q12 v → IsShort net v
short_12 net n earlier c (YesVec vector) h r = let few = bounds net n in free_short (length net.complexes) vector.list (omega (arith, few.complexes)) r
short_12 net n earlier c NotRegular h r = tt
short_12 net n earlier c OnlyZero h r = tt
short_12 net n earlier c (Plane first second one two) h r = let few = bounds net n in (free_short (length net.complexes) one.list (omega (arith, few.complexes)) r.0, free_short (length net.complexes) two.list (omega (arith, few.complexes)) r.1)
short_12 net n earlier c (Unknown gap) h r = gap_short net n earlier c Q12 gap h
short_12 net n earlier c v h r = absurd h

short_13 : (net : Net) → IsNetwork net → (earlier : Earlier) → IsCounted earlier → (v : Verdict) → HeadMayBe net earlier Q13 v → ListsMayBe net earlier Q13 v → IsShort net v
short_13 net n earlier c (YesSignal turn shelves mu m weights) h r = signal_short net n earlier c turn shelves.list mu.list m weights.list h.0 r
short_13 net n earlier c No h r = tt
short_13 net n earlier c NotApplicable h r = tt
short_13 net n earlier c (Unknown gap) h r = gap_short net n earlier c Q13 gap h
short_13 net n earlier c v h r = absurd h

short_14 : (net : Net) → IsNetwork net → (earlier : Earlier) → IsCounted earlier → (v : Verdict) → HeadMayBe net earlier Q14 v → ListsMayBe net earlier Q14 v → IsShort net v
short_14 net n earlier c Yes h r = tt
short_14 net n earlier c (NoPair alpha weights) h r = pair_short net n alpha.list weights.list r
short_14 net n earlier c (Unknown gap) h r = gap_short net n earlier c Q14 gap h
short_14 net n earlier c v h r = absurd h

short_15 : (net : Net) → IsNetwork net → (earlier : Earlier) → IsCounted earlier → (v : Verdict) → HeadMayBe net earlier Q15 v → ListsMayBe net earlier Q15 v → IsShort net v
short_15 net n earlier c Yes h r = tt
short_15 net n earlier c (NoPair alpha weights) h r = pair_short net n alpha.list weights.list r
short_15 net n earlier c (Unknown gap) h r = gap_short net n earlier c Q15 gap h
short_15 net n earlier c v h r = absurd h

short_of : (net : Net) → IsNetwork net → (earlier : Earlier) → IsCounted earlier → (q : Question) (v : Verdict) → HeadMayBe net earlier q v → ListsMayBe net earlier q v → IsShort net v
short_of net n earlier c Q1 v h r = short_1 net n earlier c v h r
short_of net n earlier c Q2 v h r = short_2 net n earlier c v h r
short_of net n earlier c Q3 v h r = short_3 net n earlier c v h r
short_of net n earlier c Q4 v h r = short_4 net n earlier c v h r
short_of net n earlier c Q5 v h r = short_5 net n earlier c v h r
short_of net n earlier c Q6 v h r = short_6 net n earlier c v h r
short_of net n earlier c Q7 v h r = short_7 net n earlier c v h r
short_of net n earlier c Q8 v h r = short_8 net n earlier c v h r
short_of net n earlier c Q9 v h r = short_9 net n earlier c v h r
short_of net n earlier c Q10 v h r = short_10 net n earlier c v h r
short_of net n earlier c Q11 v h r = short_11 net n earlier c v h r
short_of net n earlier c Q12 v h r = short_12 net n earlier c v h r
short_of net n earlier c Q13 v h r = short_13 net n earlier c v h r
short_of net n earlier c Q14 v h r = short_14 net n earlier c v h r
short_of net n earlier c Q15 v h r = short_15 net n earlier c v h r

-- ---- all questions

-- the verdict on a question after one more
on_more : (earlier : Earlier) (q r : Question) (v : Verdict) → (on (earlier ++ (q, v) ∷ []) r ≡ on earlier r) ⊎ ((number q ≡ number r) × (on (earlier ++ (q, v) ∷ []) r ≡ v))
on_more [] q r v = elim (cases_Bool (number q == number r)) as (λ _. (on ((q, v) ∷ []) r ≡ on [] r) ⊎ ((number q ≡ number r) × (on ((q, v) ∷ []) r ≡ v))) [
  | inl hit ↦ inr (eqb-true (number q) (number r) hit, rw hit refl)
  | inr miss ↦ inl (rw miss refl)
]
on_more (e ∷ earlier) q r v = elim (cases_Bool (number e.0 == number r)) as (λ _. (on ((e ∷ earlier) ++ (q, v) ∷ []) r ≡ on (e ∷ earlier) r) ⊎ ((number q ≡ number r) × (on ((e ∷ earlier) ++ (q, v) ∷ []) r ≡ v))) [
  | inl hit ↦ inl (rw hit refl)
  | inr miss ↦ rw miss (on_more earlier q r v)
]

counted_first : (net : Net) → IsNetwork net → (earlier : Earlier) (q : Question) (v : Verdict) → number q ≡ 1 → HeadMayBe net earlier q v → count_of v ≤ 160
counted_first net n earlier Q1 (Classes count label) e h = let few = bounds net n in omega (arith, few.complexes, h.0.1)
counted_first net n earlier Q1 (Strong count terminal label exit) e h = absurd h
counted_first net n earlier Q1 v e h = omega arith
counted_first net n earlier q v e h = absurd (omega (arith, e))

terminal_second : (net : Net) → IsNetwork net → (earlier : Earlier) (q : Question) (v : Verdict) → number q ≡ 2 → HeadMayBe net earlier q v → terminal_of v ≤ 160
terminal_second net n earlier Q2 (Strong count terminal label exit) e h = let few = bounds net n in omega (arith, few.complexes, h.0.0.1, h.0.1.1)
terminal_second net n earlier Q2 v e h = omega arith
terminal_second net n earlier q v e h = absurd (omega (arith, e))

tight_counts : (v : Verdict) → (count_of (tight v) ≡ count_of v) × (terminal_of (tight v) ≡ terminal_of v)
tight_counts (Classes count label) = (refl, refl)
tight_counts v = (refl, refl)

counted_more : (net : Net) → IsNetwork net → (earlier : Earlier) (q : Question) (v : Verdict) → IsCounted earlier → HeadMayBe net earlier q v → IsCounted (earlier ++ (q, tight v) ∷ [])
counted_more net n earlier q v c h =
    let next = earlier ++ (q, tight v) ∷ [] in
    let same = tight_counts v in
    let k = c.linkage in
    let t = c.terminal in
    record {
      linkage = elim (on_more earlier q Q1 (tight v)) as (λ _. linkage_count next ≤ 160) [
        | inl e ↦ let f = ap count_of e in omega (arith, k, f)
        | inr e ↦ let f = ap count_of e.1 in omega (arith, f, same.0, counted_first net n earlier q v e.0 h)
      ];
      terminal = elim (on_more earlier q Q2 (tight v)) as (λ _. terminal_of (on next Q2) ≤ 160) [
        | inl e ↦ let f = ap terminal_of e in omega (arith, t, f)
        | inr e ↦ let f = ap terminal_of e.1 in omega (arith, f, same.1, terminal_second net n earlier q v e.0 h)
      ];
    }

formed_short : (net : Net) → IsNetwork net → (earlier : Earlier) (qs : List Question) (answers : List Answer) → IsCounted earlier → AreFormed net earlier qs answers → AllByRecursion (IsShort net) (verdicts_of answers)
formed_short net n earlier [] [] c h = tt
formed_short net n earlier [] (a ∷ answers) c h = absurd h
formed_short net n earlier (q ∷ qs) [] c h = absurd h
formed_short net n earlier (q ∷ qs) (a ∷ answers) c h =
    let f = formed_answers_have_formed_verdicts net earlier q a.verdict a.proof h.0 in
    (short_of net n earlier c q a.verdict f.0 f.1, formed_short net n (earlier ++ (q, tight a.verdict) ∷ []) qs answers (counted_more net n earlier q a.verdict c f.0) h.1)

as_many : (net : Net) (earlier : Earlier) (qs : List Question) (answers : List Answer) → AreFormed net earlier qs answers → length answers ≡ length qs
as_many net earlier [] [] h = refl
as_many net earlier [] (a ∷ answers) h = absurd h
as_many net earlier (q ∷ qs) [] h = absurd h
as_many net earlier (q ∷ qs) (a ∷ answers) h = ap suc (as_many net (earlier ++ (q, tight a.verdict) ∷ []) qs answers h.1)

-- the verdicts of formed answers to the questions that are built are short, and there are 15
pub verdicts_short : (net : Net) (answers : List Answer) → IsNetwork net → AreFormed net [] built answers → AllByRecursion (IsShort net) (verdicts_of answers) × (length (verdicts_of answers) ≡ 15)
verdicts_short net answers n h = (
  formed_short net n [] built answers (record { linkage = omega arith; terminal = omega arith }) h,
  length-map answers (λ (a : Answer). a.verdict) ∙ as_many net [] built answers h,
)

pub reports_are_short : ReportsAreShort
reports_are_short net answers n h =
    let short = verdicts_short net answers n h in
    short_reports net built (verdicts_of answers) n (omega arith) (omega (arith, short.1)) short.0
