-- What the search for a slope against one reaction gives.
use Rattle.crn_endo.proofs.Prelude.{◌≡◌, ℕ, zero, suc, ◌<◌, List, [], ◌∷◌, ◌++◌, map, take, sym, ap, subst, ◌∙◌, arith, to_z, of_z, ℤ, pos, negsuc, neg_ℤ, ◌-ℤ◌, unsigned_abs, FitsSigned, w128, AllByRecursion, ints, fits_signed_from_abs, WIDE_SOLUTION, Sign, Zero, Plus, Minus, Kind, KeptInts, Mat, entry, Net, IsNetwork, held, IsNarrow, Plan, count_places, IsSmallSolution, IsSearchEnd, Found, No, NamesReaction, IsAgainst, slopes, slope_by, slopes_feasible, IsDecidedAt, RefutedBy, Ended, root, places, slopes_alone, true, false}
use Rattle.crn_sign.specs.declared.end.SearchEnd.TheVariants.{Refuted}
use Rattle.crn_endo.proofs.Alone.{valid_on, visits_on}

narrow_prefix : (n : ℕ) (v : List ℤ) → ((k : ℕ) → unsigned_abs (entry v k) < WIDE_SOLUTION) → AllByRecursion IsNarrow (take n v)
narrow_prefix zero [] h = tt
narrow_prefix zero (x ∷ v) h = tt
narrow_prefix (suc n) [] h = tt
narrow_prefix (suc n) (x ∷ v) h = (h 0, narrow_prefix n v (λ k. h (suc k)))

pub solution_narrow : (a : Mat) (kinds : List Kind) (x : List ℤ) → IsSmallSolution a kinds x → AllByRecursion IsNarrow x
solution_narrow a kinds x s = subst (AllByRecursion IsNarrow) s.solves.columns (narrow_prefix a.cols s.v s.small)

negative_narrow : (v : List ℤ) → AllByRecursion IsNarrow v → AllByRecursion IsNarrow (map neg_ℤ v)
negative_narrow [] h = tt
negative_narrow (pos n ∷ v) h = (omega (arith, ints, h.0), negative_narrow v h.1)
negative_narrow (negsuc n ∷ v) h = (omega (arith, ints, h.0), negative_narrow v h.1)

-- ---- negatives as the program holds them

pub negative_held : (x : ℤ) → IsNarrow x → FitsSigned w128 (pos 0 -ℤ to_z w128 (of_z w128 x))
negative_held x small =
    let kept : to_z w128 (of_z w128 x) ≡ x = held x (omega (arith, small)) in
    subst (λ (y : ℤ). FitsSigned w128 (pos 0 -ℤ y)) (sym kept) (fits_signed_from_abs w128 (pos 0 -ℤ x) (omega (arith, ints, small)))

pub negative_is : (x : ℤ) → IsNarrow x → to_z w128 (of_z w128 (pos 0 -ℤ to_z w128 (of_z w128 x))) ≡ neg_ℤ x
negative_is x small =
    let kept : to_z w128 (of_z w128 x) ≡ x = held x (omega (arith, small)) in
    ap (λ (y : ℤ). to_z w128 (of_z w128 (pos 0 -ℤ y))) kept ∙ held (pos 0 -ℤ x) (omega (arith, ints, small)) ∙ (let e : pos 0 -ℤ x ≡ neg_ℤ x = omega (arith, ints) in e)

-- ---- slopes

slope_narrow : (q : List Sign) (x : List ℤ) → AllByRecursion IsNarrow x → AllByRecursion IsNarrow (slope_by q x)
slope_narrow [] x h = h
slope_narrow (Zero ∷ q) x h = h
slope_narrow (Plus ∷ q) x h = negative_narrow x h
slope_narrow (Minus ∷ q) x h = h

-- a feasible prefix with its solutions names a slope against the reaction
pub found_is : (net : Net) (r left budget reaction : ℕ) (q : List Sign) (a b slope : KeptInts) → IsNetwork net → NamesReaction net reaction r → IsSearchEnd (slopes_alone net r) left (Found q a b)
    → slope.list ≡ slope_by q a.list → IsDecidedAt net r left budget (Ended (No reaction slope))
found_is net r left budget reaction q a b slope n number e is =
    let solved : IsSmallSolution (slopes net r).matrix_a ((slopes net r).kinds_a q) a.list = e.0.part_a in
    let against = (slopes_feasible net r n number.inside).named q a.list e.0.full e.0.opened (solved.v, solved.solves) in (
      number,
      subst (λ (w : List ℤ). IsAgainst net r w) (sym is) against,
      subst (AllByRecursion IsNarrow) (sym is) (slope_narrow q a.list (solution_narrow (slopes net r).matrix_a ((slopes net r).kinds_a q) a.list solved)),
      e.1 ++ q ∷ [],
      visits_on net r root (e.1 ++ q ∷ []) true e.2,
      e.3,
    )

pub refuted_is : (net : Net) (r left budget : ℕ) (tree : Plan) → IsSearchEnd (slopes_alone net r) left (Refuted tree) → IsDecidedAt net r left budget (RefutedBy tree)
refuted_is net r left budget tree e = (
  record { valid = valid_on net r [] tree e.0.valid; narrow = e.0.narrow },
  visits_on net r root (places [] tree) false e.1,
  omega (arith, e.2, count_places [] tree),
)
