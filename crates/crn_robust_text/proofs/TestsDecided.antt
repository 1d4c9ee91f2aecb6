-- The tests of a document on robustness are decided, whatever its records hold.
use Rattle.crn_robust_text.proofs.Prelude.{◌≡◌, ◌≢◌, ◌≤◌, ◌<◌, ◌+◌, ◌-◌, ℕ, List, [], length, sym, ◌∙◌, inl, inr, arith, ℤ, slice_index_or, Net, IsNetwork, IsTerminal, entry, past_end, lt_or, Verdict, Unknown, Earlier, Q5, IsOpen, on, rank_of, IsDecided, both_decided, one_decided, not_decided, if_decided, moved, nat_decided, lt_decided, le_decided, int_decided, each_below, left_decided, terminal_decided, Robust, Yes, Number, None, Rests, DifferAt, IsRobustPair, IsNoLater, IsLeastPair, HasNoPair, IsDeficiencyBy, SaysLineBy, IsCaseBy}

-- ---- pairs

differ_decided : (one two : List ℤ) (s : ℕ) → IsDecided (DifferAt one two s)
differ_decided one two s =
    moved {P = (s < length one) × ((entry one s ≢ entry two s) × ((t : ℕ) → t < length one + length two → t ≢ s → entry one t ≡ entry two t))}
    (λ h. record { inside = h.0; differ = h.1.0; others = λ t ne. elim (lt_or t (length one + length two)) [ inl lt ↦ h.1.1 t lt ne | inr past ↦ past_end one t (omega (arith, past)) ∙ sym (past_end two t (omega (arith, past))) ] })
    (λ h. (h.inside, (h.differ, λ t lt ne. let o = h.others in o t ne)))
    (both_decided (lt_decided s (length one)) (both_decided (not_decided (int_decided (entry one s) (entry two s)))
    (each_below (λ t. t ≢ s → entry one t ≡ entry two t) (λ t. if_decided (not_decided (nat_decided t s)) (int_decided (entry one t) (entry two t))) (length one + length two))))

pair_decided : (net : Net) → IsNetwork net → (s c d : ℕ) → IsDecided (IsRobustPair net s c d)
pair_decided net n s c d = elim (lt_or c d) [
  | inl lc ↦ elim (lt_or d (length net.complexes)) [
    | inl ld ↦
        moved {P = ((IsTerminal net.reactions c → ⊥) × (IsTerminal net.reactions d → ⊥)) × DifferAt (slice_index_or net.complexes c []) (slice_index_or net.complexes d []) s}
        (λ h. record { before = lc; inside = ld; first = h.0.0; second = h.0.1; species = h.1 }) (λ h. ((h.first, h.second), h.species))
        (both_decided (both_decided (not_decided (terminal_decided net n c (omega (arith, lc, ld)))) (not_decided (terminal_decided net n d ld))) (differ_decided (slice_index_or net.complexes c []) (slice_index_or net.complexes d []) s))
    | inr past ↦ inr (λ p. let i = p.inside in omega (arith, i, past))
  ]
  | inr past ↦ inr (λ p. let b = p.before in omega (arith, b, past))
]

later_decided : (c d x y : ℕ) → IsDecided (IsNoLater c d x y)
later_decided c d x y = one_decided (lt_decided c x) (both_decided (nat_decided c x) (le_decided d y))

-- what holds of each pair
each_pair : (net : Net) → IsNetwork net → (P : ℕ → ℕ → Type 0) → ((x y : ℕ) → IsDecided (P x y)) → IsDecided ((t x y : ℕ) → IsRobustPair net t x y → P x y)
each_pair net n P each =
    moved {P = (y : ℕ) → y < length net.complexes → (x : ℕ) → x < y → (t : ℕ) → t < length (slice_index_or net.complexes x []) → IsRobustPair net t x y → P x y}
    (λ h t x y p. h y p.inside x p.before t (let s = p.species in s.inside) p) (λ h y ly x lx t lt p. h t x y p)
    (each_below (λ y. (x : ℕ) → x < y → (t : ℕ) → t < length (slice_index_or net.complexes x []) → IsRobustPair net t x y → P x y) (λ y.
    each_below (λ x. (t : ℕ) → t < length (slice_index_or net.complexes x []) → IsRobustPair net t x y → P x y) (λ x.
    each_below (λ t. IsRobustPair net t x y → P x y) (λ t. if_decided (pair_decided net n t x y) (each x y)) (length (slice_index_or net.complexes x []))) y) (length net.complexes))

least_decided : (net : Net) → IsNetwork net → (s c d : ℕ) → IsDecided (IsLeastPair net s c d)
least_decided net n s c d =
    moved {P = IsRobustPair net s c d × ((t x y : ℕ) → IsRobustPair net t x y → IsNoLater c d x y)} (λ h. record { pair = h.0; least = h.1 }) (λ h. (h.pair, h.least))
    (both_decided (pair_decided net n s c d) (each_pair net n (λ x y. IsNoLater c d x y) (λ x y. later_decided c d x y)))

none_decided : IsDecided ⊥
none_decided = inr (λ n. n)

no_pair_decided : (net : Net) → IsNetwork net → IsDecided (HasNoPair net)
no_pair_decided net n = each_pair net n (λ x y. ⊥) (λ x y. none_decided)

-- ---- the tests

open_decided : (v : Verdict) → IsDecided (IsOpen v)
open_decided (Unknown gap) = inl tt
open_decided v = none_decided

deficiency_by_decided : (net : Net) (earlier : Earlier) (d : ℕ) → IsDecided (IsDeficiencyBy net earlier d)
deficiency_by_decided net earlier d = left_decided net earlier d (rank_of (on earlier Q5))

pub line_decided : (net : Net) (earlier : Earlier) (b : ℕ) → IsDecided (SaysLineBy net earlier b)
line_decided net earlier b = both_decided (if_decided (nat_decided b 1) (deficiency_by_decided net earlier 1)) (if_decided (deficiency_by_decided net earlier 1) (nat_decided b 1))

pub case_decided : (net : Net) → IsNetwork net → (earlier : Earlier) (said : Robust) → IsDecided (IsCaseBy net earlier said)
case_decided net n earlier (Yes species first second) =
    moved {P = IsDeficiencyBy net earlier 1 × ((1 ≤ species) × ((1 ≤ first) × ((1 ≤ second) × IsLeastPair net (species - 1) (first - 1) (second - 1))))}
    (λ h. (h.0, h.1.0, h.1.1.0, h.1.1.1.0, h.1.1.1.1)) (λ h. (h.0, (h.1, (h.2, (h.3, h.4)))))
    (both_decided (deficiency_by_decided net earlier 1) (both_decided (le_decided 1 species) (both_decided (le_decided 1 first) (both_decided (le_decided 1 second) (least_decided net n (species - 1) (first - 1) (second - 1))))))
case_decided net n earlier (Number d) = both_decided (deficiency_by_decided net earlier d) (not_decided (nat_decided d 1))
case_decided net n earlier None = both_decided (deficiency_by_decided net earlier 1) (no_pair_decided net n)
case_decided net n earlier Rests = open_decided (on earlier Q5)
