-- The answers on positive dependence and conservation that decisions and stops give.
use Rattle.crn_solve.proofs.Prelude.{◌≡◌, ℕ, ◌<◌, inl, inr, List, [], length, get_or, refl, sym, ap, subst, ◌∙◌, arith, ℤ, pos, negsuc, ◌≤ℤ◌, ints, KeptNums, Net, IsNetwork, dot, column, combination_at, vectors, IsPositiveDependence, IsConservationLaw, species_system, reaction_system, positive_kinds, at_in, dot-comm, lt_or, all_given, Answer, Earlier, Q7, Q8, AreFree, RuleOutDependence, RuleOutConservation, IsFormed, IsWideGap, IsValid, valid_answers_are_true, Decision, Feasible, Infeasible, Result, Ok, Err, MatchResult, Mat, Kind, IsLawDecision, IsLawStop, Stop, Wide, NoMemory, IsDecision, IsStop, IsAnswer, vector_answer, vectors_count, row_is, rows_count, column_is, combined_past, wide_basis, plain, WideGap, Unknown}
use Rattle.crn_solve.proofs.PositiveKinds.{IsPositiveSolution, positive_solution, IsPositiveCut, positive_cut}

-- ---- positive dependence

dependence : (net : Net) (x : List ℤ) → IsNetwork net → IsPositiveSolution (reaction_system net) x → IsPositiveDependence net x
dependence net x n s = record {
  long = s.free.long;
  positive = s.positive;
  zero_sum = λ k. elim (lt_or k (length net.names)) as (λ _. combination_at x (vectors net) k ≡ pos 0) [
    | inl lt ↦ dot-comm x (column (vectors net) k) ∙ ap (λ (row : List ℤ). dot row x) (sym (row_is net k lt)) ∙ s.rows k (omega (arith, lt, rows_count net))
    | inr le ↦ combined_past net n x k le
  ];
}

no_dependence : (net : Net) (u : List ℤ) → IsNetwork net → IsPositiveCut (reaction_system net) u → RuleOutDependence net u
no_dependence net u n c = record {
  long = c.free.long ∙ rows_count net;
  falls = all_given (λ v. dot u v ≤ℤ pos 0) (vectors net) [] (λ r lt.
      let l : r < length net.reactions = omega (arith, lt, vectors_count net) in
      subst (λ (v : List ℤ). dot u v ≤ℤ pos 0) (column_is net n r l) (c.falls r l));
  some = (get_or (vectors net) c.some [], at_in (vectors net) c.some [] (omega (arith, c.inside, vectors_count net)), subst (λ (v : List ℤ). dot u v ≤ℤ negsuc 0) (column_is net n c.some c.inside) c.below);
}

pub dependence_decided : (net : Net) (budget : ℕ) (earlier : Earlier) (d : Decision) → IsNetwork net → IsDecision (reaction_system net) (positive_kinds (reaction_system net)) d → IsAnswer net budget earlier Q7 (vector_answer d)
dependence_decided net budget earlier (Feasible x) n h =
    let s = positive_solution (reaction_system net) x.list h in
    let answer : Answer = vector_answer (Feasible x) in
    let formed : IsFormed net earlier Q7 answer = (record { head = tt; rows = (s.free, tt); trees = tt }, (refl, refl)) in
    let valid : IsValid net earlier Q7 answer = (dependence net x.list n s, tt) in
    record { formed = formed; valid = valid; answered = valid_answers_are_true Q7 net earlier answer n tt tt formed valid }
dependence_decided net budget earlier (Infeasible u) n h =
    let c = positive_cut (reaction_system net) u.list h in
    let answer : Answer = vector_answer (Infeasible u) in
    let formed : IsFormed net earlier Q7 answer = (record { head = tt; rows = (subst (λ (m : ℕ). AreFree m u.list) (rows_count net) c.free, tt); trees = tt }, (refl, refl)) in
    let valid : IsValid net earlier Q7 answer = (no_dependence net u.list n c, tt) in
    record { formed = formed; valid = valid; answered = valid_answers_are_true Q7 net earlier answer n tt tt formed valid }

pub dependence_wide : (net : Net) (budget : ℕ) (earlier : Earlier) (index : ℕ) (basis : KeptNums) → IsStop (reaction_system net) (positive_kinds (reaction_system net)) (Wide index basis) → IsAnswer net budget earlier Q7 (plain (Unknown (WideGap 2 0 index basis)))
dependence_wide net budget earlier index basis h =
    let gap : IsWideGap net earlier Q7 2 0 index basis.list = ((refl, refl, wide_basis (reaction_system net) (length net.reactions) (length net.names) index basis.list refl (rows_count net) h.0), tt) in
    record { formed = (record { head = gap; rows = tt; trees = tt }, (refl, refl)); valid = tt; answered = (gap, (h.2, h.0)) }

-- ---- conservation

law : (net : Net) (x : List ℤ) → IsPositiveSolution (species_system net) x → IsConservationLaw net x
law net x s = record {
  long = s.free.long;
  positive = s.positive;
  conserved = all_given (λ v. dot x v ≡ pos 0) (vectors net) [] (λ r lt. dot-comm x (get_or (vectors net) r []) ∙ s.rows r lt);
}

no_law : (net : Net) (u : List ℤ) → IsNetwork net → IsPositiveCut (species_system net) u → RuleOutConservation net u
no_law net u n c = record {
  long = c.free.long ∙ vectors_count net;
  falls = λ s. elim (lt_or s (length net.names)) as (λ _. combination_at u (vectors net) s ≤ℤ pos 0) [
    | inl lt ↦ c.falls s lt
    | inr le ↦ omega (arith, ints, combined_past net n u s le)
  ];
  some = (c.some, λ e. omega (arith, ints, c.below, e));
}

pub law_decided : (net : Net) (budget : ℕ) (earlier : Earlier) (d : Decision) → IsNetwork net → IsDecision (species_system net) (positive_kinds (species_system net)) d → IsAnswer net budget earlier Q8 (vector_answer d)
law_decided net budget earlier (Feasible x) n h =
    let s = positive_solution (species_system net) x.list h in
    let answer : Answer = vector_answer (Feasible x) in
    let formed : IsFormed net earlier Q8 answer = (record { head = tt; rows = (s.free, tt); trees = tt }, (refl, refl)) in
    let valid : IsValid net earlier Q8 answer = (law net x.list s, tt) in
    record { formed = formed; valid = valid; answered = valid_answers_are_true Q8 net earlier answer n tt tt formed valid }
law_decided net budget earlier (Infeasible u) n h =
    let c = positive_cut (species_system net) u.list h in
    let answer : Answer = vector_answer (Infeasible u) in
    let formed : IsFormed net earlier Q8 answer = (record { head = tt; rows = (subst (λ (m : ℕ). AreFree m u.list) (vectors_count net) c.free, tt); trees = tt }, (refl, refl)) in
    let valid : IsValid net earlier Q8 answer = (no_law net u.list n c, tt) in
    record { formed = formed; valid = valid; answered = valid_answers_are_true Q8 net earlier answer n tt tt formed valid }

pub law_wide : (net : Net) (budget : ℕ) (earlier : Earlier) (index : ℕ) (basis : KeptNums) → IsStop (species_system net) (positive_kinds (species_system net)) (Wide index basis) → IsAnswer net budget earlier Q8 (plain (Unknown (WideGap 1 0 index basis)))
law_wide net budget earlier index basis h =
    let gap : IsWideGap net earlier Q8 1 0 index basis.list = ((refl, refl, wide_basis (species_system net) (length net.names) (length net.reactions) index basis.list refl (vectors_count net) h.0), tt) in
    record { formed = (record { head = gap; rows = tt; trees = tt }, (refl, refl)); valid = tt; answered = (gap, (h.2, h.0)) }

-- ---- conservation alone

law_by : (net : Net) (d : Decision) → IsNetwork net → IsDecision (species_system net) (positive_kinds (species_system net)) d → IsLawDecision net d
law_by net (Feasible x) n h = let s = positive_solution (species_system net) x.list h in (s.free, law net x.list s)
law_by net (Infeasible u) n h = let c = positive_cut (species_system net) u.list h in (subst (λ (m : ℕ). AreFree m u.list) (vectors_count net) c.free, no_law net u.list n c)

stop_by : (net : Net) (kinds : List Kind) (s : Stop) → IsStop (species_system net) kinds s → IsLawStop net s
stop_by net kinds (Wide index basis) h = h.0
stop_by net kinds NoMemory h = tt

pub law_or_stop : (net : Net) (a : Mat) (r : Result Decision Stop) → IsNetwork net → a ≡ species_system net → MatchResult r (λ d. IsDecision a (positive_kinds a) d) (λ s. IsStop a (positive_kinds a) s) → MatchResult r (λ d. IsLawDecision net d) (λ s. IsLawStop net s)
law_or_stop net a (Ok d) n e h = law_by net d n (subst (λ (m : Mat). IsDecision m (positive_kinds m) d) e h)
law_or_stop net a (Err s) n e h = stop_by net (positive_kinds (species_system net)) s (subst (λ (m : Mat). IsStop m (positive_kinds m) s) e h)
