-- Sides and walks that pass the tests show cut pairs, and that a pair is none.
use Rattle.crn_cert.proofs.Prelude.{◌≡◌, ℕ, ◌<◌, List, [], ◌∷◌, length, get_or, sym, inl, inr, arith, ℤ, ints, cases_eq, Net, IsNetwork, SameClass, LeadsTo, AreRightStrongLabels, AreExits, IsFreeStep, IsCutPair, IsMarking, IsLabelled, lt_or, past_end, class_then, class_link, marking_is_cut, marks_are_sides, WalkLeads, IsCycle, from_zero, of_class, AreSideMarks, IsWayRound, TestedMarksAreSides}
use Rattle.crn_cert.proofs.ClassesRight.{named_in, named_inside}

-- marks that pass the test are a marking
pub marking_by_tests : (net : Net) → IsNetwork net → (labels : List ℕ) (r : ℕ) (marks : List ℤ) → IsLabelled net labels → length marks ≡ length net.complexes → (m : AreSideMarks net labels r marks) → IsMarking net.reactions m.y m.z marks
marking_by_tests net network labels r marks labelled long m =
    let rs = net.reactions in
    let i = named_in net r m.y m.z m.goes in
    let ends = named_inside net network r m.y m.z m.goes in
    record {
      from = m.from;
      to = m.to;
      equal = λ a b link. elim link [
        | inl h ↦ m.equal a b h
        | inr h ↦ elim (m.equal b a h) [ inl t ↦ inl (elim t [ inl p ↦ inr (p.1, p.0) | inr p ↦ inl (p.1, p.0) ]) | inr e ↦ inr (sym e) ]
      ];
      within = λ c one. elim (lt_or c (length net.complexes)) [
        | inr past ↦ absurd (let none = past_end marks c (omega (arith, long, past)) in omega (arith, ints, none, one))
        | inl lt ↦ elim (cases_eq (get_or labels c 0) (get_or labels m.y 0)) [
          | inr ne ↦ absurd (let none = m.outside c lt ne in omega (arith, ints, none, one))
          | inl e ↦
              let yc : SameClass rs m.y c = labelled.right.same m.y c (omega (arith, ends.0, labelled.long)) (omega (arith, lt, labelled.long)) (sym e) in
              class_then rs m.z m.y c (class_link rs m.z m.y (inr i)) yc
        ]
      ];
    }

pub cut_by_tests : (net : Net) → IsNetwork net → (labels : List ℕ) (r : ℕ) (marks : List ℤ) → IsLabelled net labels → length marks ≡ length net.complexes → (m : AreSideMarks net labels r marks) → IsCutPair net.reactions m.y m.z
cut_by_tests net network labels r marks labelled long m =
    marking_is_cut net.reactions m.y m.z marks (marking_by_tests net network labels r marks labelled long m) (inl (named_in net r m.y m.z m.goes))

walk_free : (S : ℕ → ℕ → Type 0) (y z : ℕ) (walk : List ℕ) → WalkLeads S y walk z → LeadsTo S y z
walk_free S y z [] h = absurd h
walk_free S y z (x ∷ xs) h = (from_zero xs, h.2)

-- a way round a pair of a terminal class shows a cycle
pub cycle_by_tests : (net : Net) → IsNetwork net → (strong exits : List ℕ) (r : ℕ) (walk : List ℕ) → length strong ≡ length net.complexes → AreRightStrongLabels net.reactions strong → AreExits net.reactions strong exits
    → (w : IsWayRound net r walk) → get_or strong w.y 0 ≡ get_or strong w.z 0 → of_class strong exits w.y ≡ 0 → IsCycle net r walk
cycle_by_tests net network strong exits r walk long right out w same none =
    let ends = named_inside net network r w.y w.z w.goes in
    let ly : w.y < length strong = omega (arith, ends.0, long) in
    let lz : w.z < length strong = omega (arith, ends.1, long) in
    record {
      y = w.y;
      z = w.z;
      goes = w.goes;
      pair = record { linked = inl (named_in net r w.y w.z w.goes); within = right.same w.y w.z ly lz same; terminal = (out.terminal w.y ly).0 none };
      no_cut_pair = λ c. c.cut (walk_free (IsFreeStep net.reactions w.y w.z) w.y w.z walk w.leads);
      shown = w.leads;
    }

pub tested_marks_are_sides : TestedMarksAreSides
tested_marks_are_sides net labels r marks network labelled long m =
    marks_are_sides net.reactions m.y m.z marks (inl (named_in net r m.y m.z m.goes)) (marking_by_tests net network labels r marks labelled long m)
