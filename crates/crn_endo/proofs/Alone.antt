-- The problem with the least part B: its laws, and what its search says of the problem itself.
use Rattle.crn_endo.proofs.Prelude.{length-replicate, List, [], ◌∷◌, ◌++◌, length, map, replicate, zero, suc, refl, ◌∙◌, arith, lit<, lit≤, ℕ, ◌≡◌, ◌<◌, Bool, inl, inr, ℤ, pos, neg_ℤ, unsigned_abs, ◌∣◌, length-map, dvd-zero, dvd_refl, WIDE_ENTRY, Sign, Zero, Plus, Minus, Free, IsPrimitive, IsWide, NamesWide, width, IsNetwork, Net, IsFeasible, IsLawful, entry, Passes, Visits, begun, below, ended, fallen, opened, over, past, cuts_exclude_solutions, Both, IsValid, Level, Plan, RulesA, RulesB, Three, slope_kinds, slope_matrix, slopes, free_solution, slopes_are_lawful, solution_long, bare, slopes_alone}

pub alone_is_lawful : (net : Net) (r : ℕ) → IsNetwork net → IsLawful (slopes_alone net r)
alone_is_lawful net r n =
    let w = slopes_are_lawful net r n in
    record {
      long_a = w.long_a;
      long_b = λ p le. length-replicate (width bare) Free;
      shorter_a = w.shorter_a;
      shorter_b = λ p rest x le s. s;
      mirrored_a = w.mirrored_a;
      mirrored_b = λ p x le s. free_solution bare (map neg_ℤ x) (length-map x neg_ℤ ∙ solution_long bare (replicate (width bare) Free) x s);
      longer_closed = w.longer_closed;
      mirror_closed = w.mirror_closed;
      few_a = w.few_a;
      few_b = λ p le. lit≤ tt;
    }

-- a prefix is feasible in one of the two if it is in the other
feasible_on : (net : Net) (r : ℕ) (p : List Sign) → IsFeasible (slopes_alone net r) p → IsFeasible (slopes net r) p
feasible_on net r p h =
    let x = h.part_a.0 in
    record { opened = h.opened; part_a = h.part_a; part_b = (x, free_solution (slope_matrix net r) x (solution_long (slope_matrix net r) (slope_kinds net r p) x h.part_a.1)) }

feasible_back : (net : Net) (r : ℕ) (p : List Sign) → IsFeasible (slopes net r) p → IsFeasible (slopes_alone net r) p
feasible_back net r p h = record { opened = h.opened; part_a = h.part_a; part_b = (pos 0 ∷ [], free_solution bare (pos 0 ∷ []) refl) }

pub visits_on : (net : Net) (r : ℕ) (due visits : List (List Sign)) (found : Bool) → Visits (slopes_alone net r) due visits found → Visits (slopes net r) due visits found
visits_on net r due visits found over = over
visits_on net r due visits found (fallen n v) = fallen (λ f. n (feasible_back net r _ f)) (visits_on net r _ _ _ v)
visits_on net r due visits found (ended f full) = ended (feasible_on net r _ f) full
visits_on net r due visits found (opened f o v) = opened (feasible_on net r _ f) o (visits_on net r _ _ _ v)

pub passes_on : (net : Net) (r : ℕ) (due : List (List Sign)) (n : ℕ) → Passes (slopes_alone net r) due n → Passes (slopes net r) due n
passes_on net r due k begun = begun
passes_on net r due k (past n v) = past (λ f. n (feasible_back net r _ f)) (passes_on net r _ _ v)
passes_on net r due k (below f o v) = below (feasible_on net r _ f) o (passes_on net r _ _ v)

pub valid_on : (net : Net) (r : ℕ) (p : List Sign) (tree : Plan) → IsValid (slopes_alone net r) p tree → IsValid (slopes net r) p tree
valid_on net r p (Both t u) h = (h.0, h.1, valid_on net r (p ++ Zero ∷ []) t h.2, valid_on net r (p ++ Plus ∷ []) u h.3)
valid_on net r p (Three t u v) h = (h.0, h.1, valid_on net r (p ++ Zero ∷ []) t h.2, valid_on net r (p ++ Plus ∷ []) u h.3, valid_on net r (p ++ Minus ∷ []) v h.4)
valid_on net r p (RulesA u) h = h
valid_on net r p (RulesB u) h = absurd (cuts_exclude_solutions bare (replicate (width bare) Free) u (pos 0 ∷ []) h (free_solution bare (pos 0 ∷ []) refl))
valid_on net r p Level h = h

own_divides : (x : ℤ) (k : ℕ) → unsigned_abs x ∣ unsigned_abs (entry (x ∷ []) k)
own_divides x zero = dvd_refl (unsigned_abs x)
own_divides x (suc k) = dvd-zero (unsigned_abs x)

-- a list of one number that is 1 or -1 has no wide entry
one_small : (x : ℤ) (k : ℕ) → unsigned_abs x ≡ 1 → unsigned_abs (entry (x ∷ []) k) < WIDE_ENTRY
one_small x zero one = let le : 1 < WIDE_ENTRY = lit< tt in omega (arith, one, le)
one_small x (suc k) one = let le : 0 < WIDE_ENTRY = lit< tt in omega (arith, le)

-- a primitive list of one number is not wide
one_narrow : (v : List ℤ) → length v ≡ 1 → IsPrimitive v → IsWide v → ⊥
one_narrow [] long primitive wide = absurd (omega (arith, long))
one_narrow (x ∷ y ∷ v) long primitive wide = absurd (omega (arith, long))
one_narrow (x ∷ []) long primitive wide = omega (arith, wide.1, one_small x wide.0 (primitive (unsigned_abs x) (own_divides x)))

-- so no vector of the least part B is wide
pub bare_is_narrow : (index : ℕ) (basis : List ℕ) → NamesWide bare index basis → ⊥
bare_is_narrow index basis h =
    let v = h.wide.0 in
    let n = h.wide.1 in
    elim n.named as (λ _. ⊥) [
      | inl c ↦ one_narrow v c.space.long n.primitive h.wide.2
      | inr w ↦ one_narrow v w.space.long n.primitive h.wide.2
    ]
