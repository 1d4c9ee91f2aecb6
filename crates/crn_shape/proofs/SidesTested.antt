-- Sides that pass the tests of question 11 are those of the linked pairs within terminal classes.
use Rattle.crn_shape.proofs.Prelude.{◌≡◌, ◌∙◌, ◌-◌, ◌⊎◌, inl, inr, ℕ, suc, List, [], ◌∷◌, length, arith, sym, ℤ, pos, AllByRecursion, AllZip, Net, IsNetwork, IsOnSide, IsLabelled, AreMarks, all_at, one_ne_zero, AreSideMarks, AreFormedSides, Earlier, Q2, on, AreBits, IsTrueOf, from_zero, AllHold, linkage, pair_places, side_tests, pair_places_are_pairs, tested_marks_are_sides, IsSideOf, AreSides}

-- marks that are 0 or 1 and pass the test
marks_right : (net : Net) (labels : List ℕ) (r : ℕ) (marks : List ℤ) → IsNetwork net → IsLabelled net labels → AreBits (length net.complexes) marks → (m : AreSideMarks net labels r marks) → AreMarks (IsOnSide net.reactions m.y m.z) marks
marks_right net labels r marks n l bits m y lt =
    let sides = (tested_marks_are_sides net labels r marks n l bits.long m).1 y in
    elim (all_at (λ x. (x ≡ pos 0) ⊎ (x ≡ pos 1)) marks y (pos 0) bits.each lt) [
      | inl zero ↦ inr ((λ on_side. one_ne_zero (sym (sides.0 on_side) ∙ zero)), zero)
      | inr one ↦ inl (sides.1 one, one)
    ]

side_of : (net : Net) (labels : List ℕ) (r : ℕ) (marks : List ℤ) → IsNetwork net → IsLabelled net labels → AreBits (length net.complexes) marks → AreSideMarks net labels r marks → IsSideOf net (r - 1) marks
side_of net labels r marks n l bits m = record { y = m.y; z = m.z; goes = m.goes.1; long = bits.long; right = marks_right net labels r marks n l bits m }

sides_of : (net : Net) (e : Earlier) (part : ℕ) (rs : List ℕ) (sides : List (List ℤ)) → IsNetwork net → IsLabelled net (linkage e) → length sides ≡ length rs → AllByRecursion (AreBits (length net.complexes)) sides → AllHold (side_tests net e part rs sides) → AllZip (IsSideOf net) (from_zero rs) sides
sides_of net e part [] [] n l long bits t = tt
sides_of net e part [] (marks ∷ sides) n l long bits t = absurd (omega (arith, long))
sides_of net e part (r ∷ rs) [] n l long bits t = absurd (omega (arith, long))
sides_of net e part (r ∷ rs) (marks ∷ sides) n l long bits t = (side_of net (linkage e) r marks n l bits.0 t.0, sides_of net e (suc part) rs sides n l (omega (arith, long)) bits.1 t.1)

pub tested_sides : (net : Net) (e : Earlier) (part : ℕ) (sides : List (List ℤ)) → IsNetwork net → IsTrueOf net Q2 (on e Q2) → IsLabelled net (linkage e) → AreFormedSides net (pair_places net e) sides → AllHold (side_tests net e part (pair_places net e) sides) → AreSides net sides
tested_sides net e part sides n strong l f t =
    record { places = from_zero (pair_places net e); pairs = pair_places_are_pairs net e n strong; marks = sides_of net e part (pair_places net e) sides n l f.long f.each t }
