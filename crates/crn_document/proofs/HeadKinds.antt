-- The kind of a head by its place, and verdicts by their kind.
use Rattle.crn_document.proofs.Prelude.{◌≡◌, ◌≤◌, ◌-◌, ◌++◌, ◌∙◌, ℕ, zero, suc, List, [], ◌∷◌, length, refl, sym, subst, ap, arith, ℤ, slice_index_or, Net, tests_by_heads, Verdict, HeadKind, Classes, Strong, Rank, Deficiency, YesWeak, YesSignal, NoReaction, NoVec, NoNumber, NoTerminal, NoClass, NoSum, NoDependence, NoCycle, NoPair, NotRegular, OnlyZero, Plane, NotApplicable, Budget, Rests, bare, Earlier, Question, AllHold, head_tests, tight, decided, kind_at, open_kinds, verdict_by}
use Rattle.crn_cert.specs.declared.head_kind.HeadKind.TheVariants.{Yes, YesVec, No, Wide}

later_kind : (xs ys : List HeadKind) (i : ℕ) → length xs ≤ i → slice_index_or ys (i - length xs) Rests ≡ slice_index_or (xs ++ ys) i Rests
later_kind [] ys i le = ap (λ (k : ℕ). slice_index_or ys k Rests) (omega arith)
later_kind (x ∷ xs) ys zero le = absurd (omega (arith, le))
later_kind (x ∷ xs) ys (suc i) le = ap (λ (k : ℕ). slice_index_or ys k Rests) (omega arith) ∙ later_kind xs ys i (omega (arith, le))

pub open_kind : (q : Question) (place : ℕ) → (place ≡ 0 → ⊥) → length (decided q) ≤ place - 1 → slice_index_or open_kinds (place - 1 - length (decided q)) Rests ≡ kind_at q place
open_kind q zero some le = absurd (some refl)
open_kind q (suc i) some le = ap (λ (k : ℕ). slice_index_or open_kinds k Rests) (omega arith) ∙ later_kind (decided q) open_kinds i (omega (arith, le))

-- a verdict is as it is kept, and without its lists it is that of its head
pub tight_and_bare : (kind : HeadKind) (n : List ℤ) (r : List (List ℤ)) → (tight (verdict_by kind n r) ≡ verdict_by kind n r) × (bare (verdict_by kind n r) ≡ verdict_by kind n [])
tight_and_bare Classes n r = (refl, refl)
tight_and_bare kind n r = (refl, refl)

-- the tests of a head do not look at the lists
pub heads_hold : (net : Net) (earlier : Earlier) (q : Question) (kind : HeadKind) (n : List ℤ) (r : List (List ℤ)) → AllHold (head_tests net earlier q (verdict_by kind n [])) → AllHold (head_tests net earlier q (verdict_by kind n r))
heads_hold net earlier q kind n r h =
    subst AllHold (sym (tests_by_heads net earlier q (verdict_by kind n r))) (subst (λ (v : Verdict). AllHold (head_tests net earlier q v)) (sym (tight_and_bare kind n r).1) h)
