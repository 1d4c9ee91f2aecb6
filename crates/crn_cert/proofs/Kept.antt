-- The tests of confluence vectors and ties, against the definitions.
use Rattle.crn_cert.proofs.Prelude.{◌≡◌, ◌≢◌, ℕ, zero, suc, ◌-◌, ◌<◌, List, [], ◌∷◌, length, get_or, map, refl, sym, ap, subst, ◌∙◌, inl, inr, arith, ℤ, pos, ◌≤ℤ◌, AllByRecursion, range_with_len, Net, SameClass, IsLabelCount, entry, dot, column, SameStrong, AreRightStrongLabels, AreExits, SumsTo, label_marks, IsLabelled, InConfluenceSpace, HasConfluenceLine, HasNoConfluence, IsNonzero, IsConfluenceVector, confluence_system, by_species, lt_or, past_end, dot-comm, dots, label_sum, label_sum_is, all_append, all_range, IsInSpace, DoTerminalsGather, IsTie}
use Rattle.crn_cert.proofs.Ties.{IsKept, AreTied, zero_by_tie, one_line}

-- ---- lists

dots_none : (rows : List (List ℤ)) (g : List ℤ) → AllByRecursion (λ r. dot r g ≡ pos 0) rows → (k : ℕ) → entry (dots rows g) k ≡ pos 0
dots_none [] g h k = refl
dots_none (r ∷ rows) g h zero = h.0
dots_none (r ∷ rows) g h (suc k) = dots_none rows g h.1 k

-- ---- the space, by labels

-- what passes the tests is orthogonal to every row of the confluence system
pub kept_by_tests : (net : Net) (linkage : List ℕ) (count : ℕ) (g : List ℤ) → length g ≡ length net.complexes → IsInSpace net linkage count g → IsKept net linkage count g
kept_by_tests net linkage count g l t = (
  l,
  dots_none (confluence_system net linkage count).rows g
      (all_append (λ r. dot r g ≡ pos 0) (by_species net net.complexes) (map (label_marks linkage) (range_with_len 1 count))
      (all_range (λ r. dot r g ≡ pos 0) (column net.complexes) 0 (length net.names) (λ k a b. dot-comm (column net.complexes k) g ∙ t.balance k))
      (all_range (λ r. dot r g ≡ pos 0) (label_marks linkage) 1 count (λ k a b. t.classes k a (omega (arith, b))))),
)

-- right labels
pub record AreKnown (net : Net) (linkage : List ℕ) (count : ℕ) : Type 0 where
  pub labelled : IsLabelled net linkage
  pub count_is : IsLabelCount linkage count

-- a vector of the space passes the tests
pub tests_by_space : (net : Net) (linkage : List ℕ) (count : ℕ) (g : List ℤ) → AreKnown net linkage count → InConfluenceSpace net g → IsInSpace net linkage count g
tests_by_space net linkage count g known s =
    record {
      balance = s.balance;
      classes = λ k some most.
          let y = known.count_is.each k some most in
          let at : y.0 < length net.complexes = omega (arith, y.1, known.labelled.long) in
          ap (λ (j : ℕ). dot (label_marks linkage j) g) (sym y.2)
          ∙ label_sum_is (SameClass net.reactions) linkage g y.0 (pos 0) known.labelled.right (known.labelled.long ∙ sym s.long) y.1 (s.classes y.0 at);
    }

-- what passes the tests is in the space
pub space_by_tests : (net : Net) (linkage : List ℕ) (count : ℕ) (g : List ℤ) → AreKnown net linkage count → length g ≡ length net.complexes → IsInSpace net linkage count g → InConfluenceSpace net g
space_by_tests net linkage count g known l t =
    record {
      long = l;
      balance = t.balance;
      classes = λ y at.
          let ly : y < length linkage = omega (arith, at, known.labelled.long) in
          let some = known.labelled.right.positive y ly in
          let most = known.count_is.most y ly in
          subst (λ (x : ℤ). SumsTo g (SameClass net.reactions y) x) (t.classes (get_or linkage y 0) some most)
          (label_sum (SameClass net.reactions) linkage g y known.labelled.right (known.labelled.long ∙ sym l) ly);
    }

-- ---- the line

-- ties at all complexes but one, where a vector of the space is not zero, show a line
pub line_by_ties : (net : Net) (linkage : List ℕ) (count c0 : ℕ) (g : List ℤ) → AreKnown net linkage count → InConfluenceSpace net g → c0 < length net.complexes → entry g c0 ≢ pos 0 → AreTied net linkage count c0 → HasConfluenceLine net
line_by_ties net linkage count c0 g known s lt some tied =
    let kept : (h : List ℤ) → InConfluenceSpace net h → IsKept net linkage count h = λ h sh. kept_by_tests net linkage count h sh.long (tests_by_space net linkage count h known sh) in
    record { some = (g, s, (c0, some)); one = λ h e sh se. one_line net linkage count c0 g h e lt some tied (kept g s) (kept h sh) (kept e se) }

-- a tie at each complex shows that only zero is there
pub zero_by_ties : (net : Net) (linkage : List ℕ) (count : ℕ) → AreKnown net linkage count → ((c : ℕ) → c < length net.complexes → (tie : List ℤ) × IsTie net linkage count (λ d. ⊥) c tie) → HasNoConfluence net
zero_by_ties net linkage count known ties g s k = elim (lt_or k (length net.complexes)) [
  | inr past ↦ past_end g k (omega (arith, s.long, past))
  | inl lt ↦ let t = ties k lt in zero_by_tie net linkage count k t.0 g lt t.1 (kept_by_tests net linkage count g s.long (tests_by_space net linkage count g known s))
]

-- ---- confluence vectors

-- what passes the tests is a confluence vector
pub vector_by_tests : (net : Net) (linkage strong exits : List ℕ) (count : ℕ) (g : List ℤ) → AreKnown net linkage count → length strong ≡ length net.complexes → AreRightStrongLabels net.reactions strong → IsLabelCount strong (length exits)
    → AreExits net.reactions strong exits → length g ≡ length net.complexes → IsInSpace net linkage count g → IsNonzero g → DoTerminalsGather strong exits g → IsConfluenceVector net g
vector_by_tests net linkage strong exits count g known ls right counted out l t some gather =
    record {
      space = space_by_tests net linkage count g known l t;
      some = some;
      gathers = λ y at term.
          let ly : y < length strong = omega (arith, at, ls) in
          let m = get_or strong y 0 in
          let positive = right.positive y ly in
          let most = counted.most y ly in
          let none = (out.terminal y ly).1 term in
          let back : suc (m - 1) ≡ m = omega (arith, positive) in (
            dot (label_marks strong m) g,
            label_sum (SameStrong net.reactions) strong g y right (ls ∙ sym l) ly,
            subst (λ (k : ℕ). pos 0 ≤ℤ dot (label_marks strong k) g) back (gather (m - 1) (omega (arith, positive, most)) none),
          );
    }
