-- Strong classes that pass the tests are right, with the numbers of terminal ones.
use Rattle.crn_cert.proofs.Prelude.{◌≡◌, ℕ, ◌-◌, ◌<◌, Bool, true, List, length, get_or, refl, sym, ap, subst, ◌∙◌, arith, ◌==◌, ◌&&◌, range_with_len, count_by, list_any, eq-eqb, eqb-true, list_any_at, length-range_with_len, get_or-range_with_len, Net, SameClass, IsLabelCount, IsNumberOf, SameStrong, IsTerminal, AreRightStrongLabels, AreExits, IsComplex, IsLabelled, HasTerminalClasses, strong_class, class_then, and_cases, and_true, AreStrongClasses, AreFromTrees, AreToTrees, DoLevelsFall, AreAllExits, zeros_in, is_terminal_in}
use Rattle.crn_cert.specs.ClassTests.{AreNumbered}
use Rattle.crn_cert.proofs.Filters.{some_place}
use Rattle.crn_cert.proofs.ClassesRight.{strong_labels_right, exits_right}
use Rattle.crn_cert.proofs.Counts.{classes_counted, zeros_by_places}

-- ---- all terminal classes

terminal_count : (net : Net) (strong exits : List ℕ) → length strong ≡ length net.complexes → AreRightStrongLabels net.reactions strong → IsLabelCount strong (length exits) → AreExits net.reactions strong exits
    → IsNumberOf (λ y. IsComplex net y × IsTerminal net.reactions y) (SameStrong net.reactions) (count_by (λ m. get_or exits (m - 1) 0 == 0) (range_with_len 1 (length exits)))
terminal_count net strong exits long right counted out =
    classes_counted (SameStrong net.reactions) (λ y. IsComplex net y × IsTerminal net.reactions y) strong (length exits) (λ m. get_or exits (m - 1) 0 == 0) right counted
    (λ y ly e. (omega (arith, ly, long), (out.terminal y ly).0 (eqb-true (get_or exits (get_or strong y 0 - 1) 0) 0 e)))
    (λ y has.
    let ly : y < length strong = omega (arith, has.0, long) in
    (ly, eq-eqb (get_or exits (get_or strong y 0 - 1) 0) 0 ((out.terminal y ly).1 has.1)))

pub strong_right : (net : Net) (count terminal : ℕ) (labels exits from from_depth to to_depth level : List ℕ) → length labels ≡ length net.complexes → length exits ≡ count
    → AreNumbered labels count → AreFromTrees net labels from from_depth → AreToTrees net labels to to_depth → DoLevelsFall net labels level → AreAllExits net labels exits → zeros_in exits ≡ terminal
    → AreStrongClasses net count terminal labels exits
strong_right net count terminal labels exits from from_depth to to_depth level long classes numbered from_tree to_tree falls out zeros =
    let right = strong_labels_right net count labels from from_depth to to_depth level long numbered from_tree to_tree falls in
    let counted : IsLabelCount labels (length exits) = subst (IsLabelCount labels) (sym classes) numbered.count_is in
    let exits_are = exits_right net labels exits level long right falls counted.most out in
    record {
      places = long;
      right = right;
      count_is = numbered.count_is;
      terminal_is = subst (λ (n : ℕ). IsNumberOf (λ y. IsComplex net y × IsTerminal net.reactions y) (SameStrong net.reactions) n) (sym (zeros_by_places exits) ∙ zeros) (terminal_count net labels exits long right counted exits_are);
      classes = classes;
      exits_are = exits_are;
    }

-- ---- terminal classes of one linkage class

pub class_terminals : (net : Net) (linkage strong exits : List ℕ) (y : ℕ) → IsLabelled net linkage → length strong ≡ length net.complexes → AreRightStrongLabels net.reactions strong → IsLabelCount strong (length exits)
    → AreExits net.reactions strong exits → IsComplex net y → HasTerminalClasses net y (count_by (is_terminal_in strong exits linkage (get_or linkage y 0)) (range_with_len 1 (length exits)))
class_terminals net linkage strong exits y labelled long right counted out ly =
    let rs = net.reactions in
    let k = get_or linkage y 0 in
    let in_linkage : (c : ℕ) → c < length net.complexes → c < length linkage = λ c l. omega (arith, l, labelled.long) in
    classes_counted (SameStrong rs) (λ z. IsComplex net z × SameClass rs y z × IsTerminal rs z) strong (length exits) (is_terminal_in strong exits linkage k) right counted
    (λ z lz e.
    let m = get_or strong z 0 in
    let parts = and_cases (get_or exits (m - 1) 0 == 0) (list_any (λ c. (get_or strong c 0 == m) && (get_or linkage c 0 == k)) (range_with_len 0 (length strong))) e in
    let at = some_place (λ c. (get_or strong c 0 == m) && (get_or linkage c 0 == k)) 0 (length strong) parts.1 in
    let c = at.0 in
    let lc : c < length strong = omega (arith, at.2) in
    let same = and_cases (get_or strong c 0 == m) (get_or linkage c 0 == k) at.3 in
    let to_z : SameClass rs c z = strong_class rs c z (right.same c z lc lz (eqb-true (get_or strong c 0) m same.0)) in
    let to_c : SameClass rs y c = labelled.right.same y c (in_linkage y ly) (omega (arith, lc, long, labelled.long)) (sym (eqb-true (get_or linkage c 0) k same.1)) in
    (omega (arith, lz, long), class_then rs y c z to_c to_z, (out.terminal z lz).0 (eqb-true (get_or exits (m - 1) 0) 0 parts.0)))
    (λ z has.
    let lz : z < length strong = omega (arith, has.0, long) in
    let m = get_or strong z 0 in
    let there : ((get_or strong z 0 == m) && (get_or linkage z 0 == k)) ≡ true =
    and_true (get_or strong z 0 == m) (get_or linkage z 0 == k) (eq-eqb m m refl) (eq-eqb (get_or linkage z 0) k (sym (labelled.right.together y z (in_linkage y ly) (in_linkage z has.0) has.1))) in
    let at : get_or (range_with_len 0 (length strong)) z 0 ≡ z = get_or-range_with_len 0 (length strong) z 0 lz ∙ omega arith in
    let test : ℕ → Bool = λ c. (get_or strong c 0 == m) && (get_or linkage c 0 == k) in (
      lz,
      and_true (get_or exits (m - 1) 0 == 0) (list_any test (range_with_len 0 (length strong)))
          (eq-eqb (get_or exits (m - 1) 0) 0 ((out.terminal z lz).1 has.2))
          (list_any_at test (range_with_len 0 (length strong)) z 0 (omega (arith, lz, length-range_with_len 0 (length strong))) (ap test at ∙ there)),
    ))
