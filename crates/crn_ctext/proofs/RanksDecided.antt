-- The tests of ranks, of deficiencies and of positive vectors are decided, whatever the records hold.
use Rattle.crn_ctext.proofs.Prelude.{◌≡◌, ◌≤◌, ◌+◌, ℕ, zero, suc, true, List, [], ◌∷◌, ◌++◌, length, refl, inl, inr, arith, ℤ, pos, negsuc, ◌≤ℤ◌, ◌≢◌, ◌*ℤ◌, slice_index_or, Option, Some, None, IsSome, cases_lt, ints, Net, entry, dot, column, combination_at, vectors, IsPositive, IsPositiveDependence, IsConservationLaw, past_end, dot_zero, RankProof, Earlier, Claim, IsDual, IsComb, vector_of, vectors_of, outside, dual_tests, comb_tests, rank_tests, RuleOutDependence, RuleOutConservation, class_places, class_rank_tests, IsLeft, IsClassNumber, AreClassNumbers}
use Rattle.std.specs.Prelude.{drop}
use Rattle.crn_ctext.proofs.Decided.{IsDecided, both_decided, not_decided, if_decided, moved, nat_decided, le_decided, bool_decided, int_decided, int_le_decided, all_decided, some_decided}
use Rattle.crn_ctext.proofs.TestsDecided.{each_below, some_below}
use Rattle.crn_ctext.proofs.Settled.{AllDecided}

-- ---- places past the ends of vectors

-- as many places as the vectors have together
abbrev pub places : List (List ℤ) → ℕ
places [] = 0
places (v ∷ vs) = length v + places vs

column_past : (vs : List (List ℤ)) (s i : ℕ) → places vs ≤ s → entry (column vs s) i ≡ pos 0
column_past [] s i h = past_end [] i (omega arith)
column_past (v ∷ vs) s zero h = past_end v s (omega (arith, h))
column_past (v ∷ vs) s (suc i) h = column_past vs s i (omega (arith, h))

times_none : (x y : ℤ) → y ≡ pos 0 → x *ℤ y ≡ pos 0
times_none x y e = rw e (omega (arith, ints))

-- past the ends of all vectors each combination is zero
pub past_places : (vs : List (List ℤ)) (c : List ℤ) (s : ℕ) → places vs ≤ s → combination_at c vs s ≡ pos 0
past_places vs c s h = dot_zero c (column vs s) (λ i. times_none (entry c i) (entry (column vs s) i) (column_past vs s i h))

-- each number, if those from a bound on have the property
pub each_number : (P : ℕ → Type 0) → ((k : ℕ) → IsDecided (P k)) → (n : ℕ) → ((k : ℕ) → n ≤ k → P k) → IsDecided ((k : ℕ) → P k)
each_number P each n past = moved (λ h k. elim (cases_lt k n) [ inl less ↦ h k less | inr more ↦ past k more ]) (λ h k less. h k) (each_below P each n)

-- some number, if those from a bound on have not
pub some_number : (P : ℕ → Type 0) → ((k : ℕ) → IsDecided (P k)) → (n : ℕ) → ((k : ℕ) → n ≤ k → P k → ⊥) → IsDecided ((k : ℕ) × P k)
some_number P each n past = moved (λ h. (h.0, h.2)) (λ h. elim (cases_lt h.0 n) [ inl less ↦ (h.0, less, h.1) | inr more ↦ absurd (past h.0 more h.1) ]) (some_below P each n)

-- ---- ranks

dual_decided : (vs : List (List ℤ)) (i : ℕ) (dual : List ℤ) → IsDecided (IsDual vs i dual)
dual_decided vs i dual = moved (λ h. record { own = h.0; others = h.1 }) (λ h. (h.own, h.others)) (both_decided (not_decided (int_decided (dot dual (slice_index_or vs i [])) (pos 0)))
    (each_below (λ j. i ≢ j → dot dual (slice_index_or vs j []) ≡ pos 0) (λ j. if_decided (not_decided (nat_decided i j)) (int_decided (dot dual (slice_index_or vs j [])) (pos 0))) (length vs)))

-- past the ends of all vectors a multiple of a vector is their combination
comb_past : (vs : List (List ℤ)) (v comb : List ℤ) (s : ℕ) → length v + places vs ≤ s → entry comb 0 *ℤ entry v s ≡ combination_at (drop 1 comb) vs s
comb_past vs v comb s h = rw (past_end v s (omega (arith, h)), past_places vs (drop 1 comb) s (omega (arith, h))) (times_none (entry comb 0) (pos 0) refl)

comb_decided : (vs : List (List ℤ)) (v comb : List ℤ) → IsDecided (IsComb vs v comb)
comb_decided vs v comb = moved (λ h. record { positive = h.0; is = h.1 }) (λ h. (h.positive, h.is)) (both_decided (int_le_decided (pos 1) (entry comb 0))
    (each_number (λ s. entry comb 0 *ℤ entry v s ≡ combination_at (drop 1 comb) vs s) (λ s. int_decided (entry comb 0 *ℤ entry v s) (combination_at (drop 1 comb) vs s)) (length v + places vs) (comb_past vs v comb)))

duals_decided : (vs : List (List ℤ)) (part i : ℕ) (duals : List (List ℤ)) → AllDecided (dual_tests vs part i duals)
duals_decided vs part i [] = tt
duals_decided vs part i (dual ∷ duals) = (dual_decided vs i dual, duals_decided vs (suc part) (suc i) duals)

combs_decided : (net : Net) (vs : List (List ℤ)) (part : ℕ) (rs : List ℕ) (combs : List (List ℤ)) → AllDecided (comb_tests net vs part rs combs)
combs_decided net vs part [] combs = tt
combs_decided net vs part (r ∷ rs) [] = (inr (λ h. h), tt)
combs_decided net vs part (r ∷ rs) (comb ∷ combs) = (comb_decided vs (vector_of net r) comb, combs_decided net vs (suc part) rs combs)

two_decided : (xs ys : List {1} Claim) → AllDecided xs → AllDecided ys → AllDecided (xs ++ ys)
two_decided [] ys p q = q
two_decided (x ∷ xs) ys p q = (p.0, two_decided xs ys p.1 q)

pub rank_decided : (net : Net) (members : List ℕ) (part : ℕ) (base : List ℕ) (duals combs : List (List ℤ)) → AllDecided (rank_tests net members part base duals combs)
rank_decided net members part base duals combs =
    two_decided (dual_tests (vectors_of net base) (part + 1) 0 duals) (comb_tests net (vectors_of net base) (part + 1 + length base) (outside base members) combs) (duals_decided (vectors_of net base) (part + 1) 0 duals) (combs_decided net (vectors_of net base) (part + 1 + length base) (outside base members) combs)

pub class_ranks_decided : (net : Net) (earlier : Earlier) (part k : ℕ) (ps : List RankProof) → AllDecided (class_rank_tests net earlier part k ps)
class_ranks_decided net earlier part k [] = tt
class_ranks_decided net earlier part k (p ∷ ps) =
    two_decided (rank_tests net (class_places net earlier k) part p.base.list p.duals p.combs) (class_rank_tests net earlier (part + 1 + length p.duals + length p.combs) (suc k) ps)
    (rank_decided net (class_places net earlier k) part p.base.list p.duals p.combs) (class_ranks_decided net earlier (part + 1 + length p.duals + length p.combs) (suc k) ps)

-- ---- deficiencies

pub some_rank_decided : (rank : Option ℕ) → IsDecided (IsSome rank)
some_rank_decided None = bool_decided _ true
some_rank_decided (Some s) = inl refl

pub left_decided : (net : Net) (earlier : Earlier) (total : ℕ) (rank : Option ℕ) → IsDecided (IsLeft net earlier total rank)
left_decided net earlier total None = inr (λ h. h)
left_decided net earlier total (Some s) = nat_decided _ (length net.complexes)

class_number_decided : (net : Net) (earlier : Earlier) (k d : ℕ) → IsDecided (IsClassNumber net earlier k d)
class_number_decided net earlier k d = both_decided (le_decided _ _) (le_decided _ _)

pub class_numbers_decided : (net : Net) (earlier : Earlier) (k : ℕ) (ds : List ℕ) → IsDecided (AreClassNumbers net earlier k ds)
class_numbers_decided net earlier k [] = inl tt
class_numbers_decided net earlier k (d ∷ ds) = both_decided (class_number_decided net earlier k d) (class_numbers_decided net earlier (suc k) ds)

-- ---- positive vectors

positive_decided : (v : List ℤ) → IsDecided (IsPositive v)
positive_decided v = all_decided (λ x. pos 1 ≤ℤ x) (λ x. int_le_decided (pos 1) x) v

pub dependence_decided : (net : Net) (a : List ℤ) → IsDecided (IsPositiveDependence net a)
dependence_decided net a = moved (λ h. record { long = h.0; positive = h.1.0; zero_sum = h.1.1 }) (λ h. (h.long, (h.positive, h.zero_sum))) (both_decided (nat_decided (length a) (length net.reactions)) (both_decided (positive_decided a)
    (each_number (λ s. combination_at a (vectors net) s ≡ pos 0) (λ s. int_decided (combination_at a (vectors net) s) (pos 0)) (places (vectors net)) (past_places (vectors net) a))))

pub no_dependence_decided : (net : Net) (u : List ℤ) → IsDecided (RuleOutDependence net u)
no_dependence_decided net u = moved (λ h. record { long = h.0; falls = h.1.0; some = h.1.1 }) (λ h. (h.long, (h.falls, h.some))) (both_decided (nat_decided (length u) (length net.names)) (both_decided
    (all_decided (λ v. dot u v ≤ℤ pos 0) (λ v. int_le_decided (dot u v) (pos 0)) (vectors net)) (some_decided (λ v. dot u v ≤ℤ negsuc 0) (λ v. int_le_decided (dot u v) (negsuc 0)) (vectors net))))

pub law_decided : (net : Net) (x : List ℤ) → IsDecided (IsConservationLaw net x)
law_decided net x = moved (λ h. record { long = h.0; positive = h.1.0; conserved = h.1.1 }) (λ h. (h.long, (h.positive, h.conserved))) (both_decided (nat_decided (length x) (length net.names)) (both_decided (positive_decided x)
    (all_decided (λ v. dot x v ≡ pos 0) (λ v. int_decided (dot x v) (pos 0)) (vectors net))))

-- past all places a combination is not above zero
not_above : (x : ℤ) → x ≡ pos 0 → x ≤ℤ pos 0
not_above x e = rw e (omega (arith, ints))

pub no_law_decided : (net : Net) (u : List ℤ) → IsDecided (RuleOutConservation net u)
no_law_decided net u = moved (λ h. record { long = h.0; falls = h.1.0; some = h.1.1 }) (λ h. (h.long, (h.falls, h.some))) (both_decided (nat_decided (length u) (length net.reactions)) (both_decided
    (each_number (λ s. combination_at u (vectors net) s ≤ℤ pos 0) (λ s. int_le_decided (combination_at u (vectors net) s) (pos 0)) (places (vectors net)) (λ s h. not_above (combination_at u (vectors net) s) (past_places (vectors net) u s h)))
    (some_number (λ s. combination_at u (vectors net) s ≢ pos 0) (λ s. not_decided (int_decided (combination_at u (vectors net) s) (pos 0))) (places (vectors net)) (λ s h other. other (past_places (vectors net) u s h)))))
