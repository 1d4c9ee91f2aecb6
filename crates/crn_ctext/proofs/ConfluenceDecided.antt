-- The tests of regularity and of confluence vectors are decided, whatever the records and the earlier verdicts say.
use Rattle.crn_ctext.proofs.Prelude.{◌≡◌, ◌≤◌, ◌<◌, ◌-◌, ℕ, suc, true, List, [], ◌∷◌, length, sym, subst, inl, inr, arith, ◌≢◌, ℤ, pos, ◌≤ℤ◌, unsigned_abs, slice_index, ◌∣◌, dvd-zero, le_of_dvd, dvd_of_mod-eq-zero, mod-eq-zero_of_dvd, Net, entry, dot, combination_at, ReactsTo, IsAlong, IsBetween, IsFreeStep, IsPrimitive, IsNonzero, LeadsPositive, label_marks, past_end, positive_some, abs_some, Verdict, Unknown, Earlier, Q4, on, IsNo, IsOpen, WalkLeads, from_zero, AreSideMarks, IsWayRound, IsInSpace, DoTerminalsGather, tie_at, IsTie, tie_tests, linkage, linkage_count, strong, exits, ends_at, is_within_terminal, IsWithinTerminal, side_tests, IsNormal, IsApartAt}
use Rattle.std.specs.Prelude.{◌⊎◌}
use Rattle.crn_cert.specs.declared.answer.Verdict.TheVariants.{NoVec, NoTerminal, NoDependence, NoCycle}
use Rattle.crn_ctext.proofs.Decided.{IsDecided, both_decided, one_decided, not_decided, if_decided, moved, nat_decided, le_decided, bool_decided, int_decided, int_le_decided, all_decided}
use Rattle.crn_ctext.proofs.TestsDecided.{each_below, each_reaction, reacts_decided, named_decided}
use Rattle.crn_ctext.proofs.RanksDecided.{places, past_places, each_number, some_number}
use Rattle.crn_ctext.proofs.TheoremsDecided.{three_decided, yes_decided}
use Rattle.crn_ctext.proofs.Settled.{AllDecided}

-- ---- earlier verdicts

pub no_decided : (v : Verdict) → IsDecided (IsNo v)
no_decided (NoVec multipliers) = inl tt
no_decided (NoTerminal class count) = inl tt
no_decided NoDependence = inl tt
no_decided (NoCycle reaction walk) = inl tt
no_decided v = inr (λ h. h)

pub open_decided : (v : Verdict) → IsDecided (IsOpen v)
open_decided (Unknown gap) = inl tt
open_decided v = inr (λ h. h)

pub within_decided : (net : Net) (earlier : Earlier) (r : ℕ) → IsDecided (IsWithinTerminal net earlier r)
within_decided net earlier r = three_decided (le_decided 1 r) (le_decided r (length net.reactions)) (bool_decided (is_within_terminal earlier (ends_at net r)) true)

-- ---- sides and walks

four_decided : {P Q R S : Type 0} → IsDecided P → IsDecided Q → IsDecided R → IsDecided S → IsDecided (P × Q × R × S)
four_decided a b c d = moved (λ h. (h.0, h.1.0, h.1.1.0, h.1.1.1)) (λ h. (h.0, (h.1, (h.2, h.3)))) (both_decided a (both_decided b (both_decided c d)))

between_decided : (a b y z : ℕ) → IsDecided (IsBetween a b y z)
between_decided a b y z = one_decided (both_decided (nat_decided y a) (nat_decided z b)) (both_decided (nat_decided y b) (nat_decided z a))

-- the complexes of other classes have no mark
abbrev Outside : Net → List ℕ → List ℤ → ℕ → Type 0
Outside net labels marks y = (c : ℕ) → c < length net.complexes → slice_index labels c ≢ slice_index labels y → entry marks c ≡ pos 0

-- links between others than these two join equal marks
abbrev Equal : Net → List ℤ → ℕ → ℕ → Type 0
Equal net marks y z = (a b : ℕ) → ReactsTo net.reactions a b → IsBetween y z a b ⊎ (entry marks a ≡ entry marks b)

outside_decided : (net : Net) (labels : List ℕ) (marks : List ℤ) (y : ℕ) → IsDecided (Outside net labels marks y)
outside_decided net labels marks y =
    each_below (λ c. slice_index labels c ≢ slice_index labels y → entry marks c ≡ pos 0) (λ c. if_decided (not_decided (nat_decided (slice_index labels c) (slice_index labels y))) (int_decided (entry marks c) (pos 0))) (length net.complexes)

equal_decided : (net : Net) (marks : List ℤ) (y z : ℕ) → IsDecided (Equal net marks y z)
equal_decided net marks y z = each_reaction (λ a b. IsBetween y z a b ⊎ (entry marks a ≡ entry marks b)) (λ a b. one_decided (between_decided y z a b) (int_decided (entry marks a) (entry marks b))) net.reactions

marks_decided : (net : Net) (labels : List ℕ) (r : ℕ) (marks : List ℤ) → IsDecided (AreSideMarks net labels r marks)
marks_decided net labels r marks = moved
    (λ h. record { y = h.0; z = h.1; goes = h.2; from = h.3.0; to = h.3.1; outside = h.3.2; equal = h.3.3 }) (λ h. (h.y, h.z, h.goes, (h.from, h.to, h.outside, h.equal)))
    (named_decided net r (λ y z. (entry marks y ≡ pos 0) × (entry marks z ≡ pos 1) × Outside net labels marks y × Equal net marks y z)
    (λ y z. four_decided (int_decided (entry marks y) (pos 0)) (int_decided (entry marks z) (pos 1)) (outside_decided net labels marks y) (equal_decided net marks y z)))

pub sides_decided : (net : Net) (earlier : Earlier) (part : ℕ) (pairs : List ℕ) (sides : List (List ℤ)) → AllDecided (side_tests net earlier part pairs sides)
sides_decided net earlier part [] sides = tt
sides_decided net earlier part (r ∷ rs) [] = (inr (λ h. h), tt)
sides_decided net earlier part (r ∷ rs) (marks ∷ sides) = (marks_decided net (linkage earlier) r marks, sides_decided net earlier (suc part) rs sides)

free_decided : (reactions : List (ℕ × ℕ)) (a b y z : ℕ) → IsDecided (IsFreeStep reactions a b y z)
free_decided reactions a b y z = both_decided (one_decided (reacts_decided reactions y z) (reacts_decided reactions z y)) (not_decided (between_decided a b y z))

along_decided : (Step : ℕ → ℕ → Type 0) → ((y z : ℕ) → IsDecided (Step y z)) → (y : ℕ) (xs : List ℕ) (z : ℕ) → IsDecided (IsAlong Step y xs z)
along_decided Step each y [] z = nat_decided y z
along_decided Step each y (x ∷ xs) z = both_decided (each y x) (along_decided Step each x xs z)

leads_decided : (Step : ℕ → ℕ → Type 0) → ((y z : ℕ) → IsDecided (Step y z)) → (y : ℕ) (walk : List ℕ) (z : ℕ) → IsDecided (WalkLeads Step y walk z)
leads_decided Step each y [] z = inr (λ h. h)
leads_decided Step each y (x ∷ xs) z = three_decided (nat_decided x (suc y)) (all_decided (λ k. 1 ≤ k) (λ k. le_decided 1 k) xs) (along_decided Step each y (from_zero xs) z)

pub way_decided : (net : Net) (r : ℕ) (walk : List ℕ) → IsDecided (IsWayRound net r walk)
way_decided net r walk = moved (λ h. record { y = h.0; z = h.1; goes = h.2; leads = h.3 }) (λ h. (h.y, h.z, h.goes, h.leads))
    (named_decided net r (λ y z. WalkLeads (IsFreeStep net.reactions y z) y walk z) (λ y z. leads_decided (IsFreeStep net.reactions y z) (free_decided net.reactions y z) y walk z))

-- ---- vectors over the complexes

space_decided : (net : Net) (labels : List ℕ) (count : ℕ) (g : List ℤ) → IsDecided (IsInSpace net labels count g)
space_decided net labels count g = moved
    (λ h. record { balance = h.0; classes = λ k some most. h.1 k (omega (arith, most)) some }) (λ h. (h.balance, λ k lt some. let c = h.classes in c k some (omega (arith, lt)))) (both_decided
    (each_number (λ s. combination_at g net.complexes s ≡ pos 0) (λ s. int_decided (combination_at g net.complexes s) (pos 0)) (places net.complexes) (past_places net.complexes g))
    (each_below (λ k. 1 ≤ k → dot (label_marks labels k) g ≡ pos 0) (λ k. if_decided (le_decided 1 k) (int_decided (dot (label_marks labels k) g) (pos 0))) (suc count)))

pub nonzero_decided : (g : List ℤ) → IsDecided (IsNonzero g)
nonzero_decided g = some_number (λ k. entry g k ≢ pos 0) (λ k. not_decided (int_decided (entry g k) (pos 0))) (length g) (λ k h other. other (past_end g k h))

gathers_decided : (labels exits_are : List ℕ) (g : List ℤ) → IsDecided (DoTerminalsGather labels exits_are g)
gathers_decided labels exits_are g =
    each_below (λ m. slice_index exits_are m ≡ 0 → pos 0 ≤ℤ dot (label_marks labels (suc m)) g) (λ m. if_decided (nat_decided (slice_index exits_are m) 0) (int_le_decided (pos 0) (dot (label_marks labels (suc m)) g))) (length exits_are)

divides_decided : (d n : ℕ) → IsDecided (d ∣ n)
divides_decided d n = moved (λ e. dvd_of_mod-eq-zero d e) (λ h. mod-eq-zero_of_dvd d h) (nat_decided _ 0)

-- each entry is a multiple of d
abbrev DividesAll : List ℤ → ℕ → Type 0
DividesAll g d = (k : ℕ) → d ∣ unsigned_abs (entry g k)

divides_none : (d : ℕ) (x : ℤ) → x ≡ pos 0 → d ∣ unsigned_abs x
divides_none d x e = subst (λ (z : ℤ). d ∣ unsigned_abs z) (sym e) (dvd-zero d)

divides_all_decided : (g : List ℤ) (d : ℕ) → IsDecided (DividesAll g d)
divides_all_decided g d = each_number (λ k. d ∣ unsigned_abs (entry g k)) (λ k. divides_decided d (unsigned_abs (entry g k))) (length g) (λ k h. divides_none d (entry g k) (past_end g k h))

primitive_decided : (g : List ℤ) → IsDecided (IsPrimitive g)
primitive_decided g = by (nonzero_decided g)
  where
    all_zero : (IsNonzero g → ⊥) → (k : ℕ) → entry g k ≡ pos 0
    all_zero none k = elim (int_decided (entry g k) (pos 0)) [ inl none_here ↦ none_here | inr other ↦ absurd (none (k, other)) ]

    by : IsDecided (IsNonzero g) → IsDecided (IsPrimitive g)
    by (inr none) = inr (λ h. let two : 2 ≡ 1 = h 2 (λ k. divides_none 2 (entry g k) (all_zero none k)) in omega (arith, two))
    by (inl some) =
        let n = unsigned_abs (entry g some.0) in
        let size : 0 < n = omega (arith, abs_some (entry g some.0) some.1) in
        each_number (λ d. DividesAll g d → d ≡ 1) (λ d. if_decided (divides_all_decided g d) (nat_decided d 1)) (suc n) (λ d past all. absurd (let le : d ≤ n = le_of_dvd size (all some.0) in omega (arith, le, past)))

-- the entry is the first that is not zero, and is positive
abbrev LeadsAt : List ℤ → ℕ → Type 0
LeadsAt g k = (pos 1 ≤ℤ entry g k) × ((j : ℕ) → j < k → entry g j ≡ pos 0)

positive_decided : (g : List ℤ) → IsDecided (LeadsPositive g)
positive_decided g = moved (λ h. (h.0, h.1.0, h.1.1)) (λ h. (h.0, (h.1, h.2))) (some_number (LeadsAt g)
    (λ k. both_decided (int_le_decided (pos 1) (entry g k)) (each_below (λ j. entry g j ≡ pos 0) (λ j. int_decided (entry g j) (pos 0)) k)) (length g) (λ k h l. positive_some (entry g k) l.0 (past_end g k h)))

pub normal_decided : (net : Net) (earlier : Earlier) (g : List ℤ) → IsDecided (IsNormal net earlier g)
normal_decided net earlier g = moved
    (λ h. record { space = h.0; some = h.1.0; gathers = h.1.1.0; primitive = h.1.1.1.0; leads = h.1.1.1.1 }) (λ h. (h.space, (h.some, (h.gathers, (h.primitive, h.leads)))))
    (both_decided (space_decided net (linkage earlier) (linkage_count earlier) g) (both_decided (nonzero_decided g) (both_decided (gathers_decided (strong earlier) (exits earlier) g) (both_decided (primitive_decided g)
    (if_decided (yes_decided (on earlier Q4)) (positive_decided g))))))

pub apart_decided : (net : Net) (earlier : Earlier) (c d : ℕ) (g : List ℤ) → IsDecided (IsApartAt net earlier c d g)
apart_decided net earlier c d g =
    three_decided (space_decided net (linkage earlier) (linkage_count earlier) g) (not_decided (int_decided (entry g (c - 1)) (pos 0))) (int_decided (entry g (d - 1)) (pos 0))

-- ---- ties

tie_decided : (net : Net) (labels : List ℕ) (count : ℕ) (spared : ℕ → Type 0) → ((d : ℕ) → IsDecided (spared d)) → (c : ℕ) (tie : List ℤ) → IsDecided (IsTie net labels count spared c tie)
tie_decided net labels count spared each c tie = moved (λ h. record { own = h.0; others = h.1 }) (λ h. (h.own, h.others))
    (both_decided (not_decided (int_decided (tie_at net labels count tie c) (pos 0)))
    (each_below (λ d. d ≢ c → spared d ⊎ (tie_at net labels count tie d ≡ pos 0)) (λ d. if_decided (not_decided (nat_decided d c)) (one_decided (each d) (int_decided (tie_at net labels count tie d) (pos 0)))) (length net.complexes)))

pub ties_decided : (net : Net) (labels : List ℕ) (count : ℕ) (spared : ℕ → Type 0) → ((d : ℕ) → IsDecided (spared d)) → (part : ℕ) (cs : List ℕ) (ties : List (List ℤ)) → AllDecided (tie_tests net labels count spared part cs ties)
ties_decided net labels count spared each part [] ties = tt
ties_decided net labels count spared each part (c ∷ cs) [] = (inr (λ h. h), tt)
ties_decided net labels count spared each part (c ∷ cs) (tie ∷ ties) = (tie_decided net labels count spared each c tie, ties_decided net labels count spared each (suc part) cs ties)
