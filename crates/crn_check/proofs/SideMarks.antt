-- The marks of the side of a pair, by its reaction, and the tests of sides and ties in order.
use Rattle.crn_check.proofs.Prelude.{◌≡◌, ℕ, suc, ◌+◌, ◌-◌, List, [], ◌∷◌, refl, ap, ◌∙◌, ℤ, Net, Earlier, Test, test, AreSideMarks, IsTie, tie_tests, linkage, side_tests, ordered_tests, BadVector}

-- ---- tests in order

pub sides_ordered : (net : Net) (e : Earlier) (part : ℕ) (rs : List ℕ) (sides : List (List ℤ)) → side_tests net e part rs sides ≡ ordered_tests (AreSideMarks net (linkage e)) part rs sides
sides_ordered net e part [] sides = refl
sides_ordered net e part (r ∷ rs) [] = refl
sides_ordered net e part (r ∷ rs) (marks ∷ sides) = ap (λ (ts : List Test). test part BadVector (AreSideMarks net (linkage e) r marks) ∷ ts) (sides_ordered net e (suc part) rs sides)

pub ties_ordered : (net : Net) (labels : List ℕ) (count : ℕ) (spared : ℕ → Type 0) (part : ℕ) (cs : List ℕ) (ties : List (List ℤ)) → tie_tests net labels count spared part cs ties ≡ ordered_tests (IsTie net labels count spared) part cs ties
ties_ordered net labels count spared part [] ties = refl
ties_ordered net labels count spared part (c ∷ cs) [] = refl
ties_ordered net labels count spared part (c ∷ cs) (tie ∷ ties) = ap (λ (ts : List Test). test part BadVector (IsTie net labels count spared c tie) ∷ ts) (ties_ordered net labels count spared (suc part) cs ties)
