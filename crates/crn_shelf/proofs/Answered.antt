-- The answers that the ends of the searches for signals, or their stops, give.
use Rattle.crn_shelf.proofs.Prelude.{◌≡◌, ◌⊎◌, ℕ, zero, suc, ◌+◌, ◌≤◌, Bool, true, inl, inr, List, [], ◌∷◌, ◌++◌, length, map, take, refl, sym, ap, ap₂, subst, ◌∙◌, arith, length-take-le, ℤ, pos, negsuc, Option, IsTrue, IsSome, IsSomeAnd, AllByRecursion, length-append, length-map, MAX_BUDGET, Sign, Zero, Plus, Minus, KeptInts, KeptNums, Net, IsNetwork, Mat, entry, NamesWide, SameStrong, IsTerminal, IsWeaklyReversible, IsComplex, IsRegular, HasConfluenceLine, IsConfluenceVector, IsNormalVector, negative, reaction_system, Signed, sign, Pair, Shape, complex_row, pair_row, shelf_matrix, signals, IsSignalOf, HasNoSignal, IsShapeOf, opposite_pair, opposite_shape, all_at, length-scale, number_is_one, strong_back, strong_then, confluence_vectors_are_one, signals_are_steady, shapes_are_one, signals_feasible, signals_are_of_shape, negatives_have_opposite_shapes, rows_count, Answer, YesSignal, Earlier, Q2, Q12, Q13, on, vector_given, terminal_of, AreFree, IsNarrow, IsTrueOf, AreStrongClasses, IsTurn, IsShelf, by_turn, AllHold, Plan, Both, Three, RulesA, RulesB, Level, node_count, IsFormedTree, Said, Fits, tree_tests, IsWideGap, IsSignalTree, AreSignalRows, IsSignalNode, IsNodeOf, HasVector, pair_places, IsSignalWide, PassForSignals, IsAnswer, tests_decide_valid_trees, leaves_nothing, shapes_exist, tops_are_counted, hold_append, hold_parts, count_places, formed_tree, signal_trees_fit, vector_is_given, wide_basis, none_at_all, Found, Refuted, SearchStop, WideA, WideB, NoMemory, HasFewNodes, IsSearchStop, AreClassesBy, GiveVector, ListSignalVisits, ListsVisitsFor, EndsFor, StopsFor, shelf_number, IsFoundAnswer, one_answer, two_answer, IsStopAnswer, solution_free, plain, Budget, Wide, Unknown}

-- ---- tests of trees

-- tests of nodes that follow from others hold with them
holds_too : (H K : List Sign → Said → Type 0) → ((p : List Sign) (said : Said) → H p said → K p said) → (part : ℕ) (p : List Sign) (t : Plan) → AllHold (tree_tests H part p t) → AllHold (tree_tests K part p t)
holds_too H K f part p (Both z q) h =
    let s = hold_parts (tree_tests H (part + 1) (p ++ Zero ∷ []) z) (tree_tests H (part + 1 + node_count z) (p ++ Plus ∷ []) q) h.1 in (
      f p _ h.0,
      hold_append (tree_tests K (part + 1) (p ++ Zero ∷ []) z) (tree_tests K (part + 1 + node_count z) (p ++ Plus ∷ []) q)
          (holds_too H K f (part + 1) (p ++ Zero ∷ []) z s.0) (holds_too H K f (part + 1 + node_count z) (p ++ Plus ∷ []) q s.1),
    )
holds_too H K f part p (Three z q m) h =
    let last = part + 1 + node_count z + node_count q in
    let s = hold_parts (tree_tests H (part + 1) (p ++ Zero ∷ []) z ++ tree_tests H (part + 1 + node_count z) (p ++ Plus ∷ []) q) (tree_tests H last (p ++ Minus ∷ []) m) h.1 in
    let r = hold_parts (tree_tests H (part + 1) (p ++ Zero ∷ []) z) (tree_tests H (part + 1 + node_count z) (p ++ Plus ∷ []) q) s.0 in (
      f p _ h.0,
      hold_append (tree_tests K (part + 1) (p ++ Zero ∷ []) z ++ tree_tests K (part + 1 + node_count z) (p ++ Plus ∷ []) q) (tree_tests K last (p ++ Minus ∷ []) m)
          (hold_append (tree_tests K (part + 1) (p ++ Zero ∷ []) z) (tree_tests K (part + 1 + node_count z) (p ++ Plus ∷ []) q)
          (holds_too H K f (part + 1) (p ++ Zero ∷ []) z r.0) (holds_too H K f (part + 1 + node_count z) (p ++ Plus ∷ []) q r.1))
          (holds_too H K f last (p ++ Minus ∷ []) m s.1),
    )
holds_too H K f part p (RulesA u) h = (f p _ h.0, tt)
holds_too H K f part p (RulesB u) h = (f p _ h.0, tt)
holds_too H K f part p Level h = (f p _ h.0, tt)

-- ---- sizes of a shape

-- a shape of the network has as many terminal classes and pairs as earlier verdicts give
record Sizes (net : Net) (earlier : Earlier) (s : Shape) : Type 0 where
  count : s.count ≡ terminal_of (on earlier Q2)
  pairs : length s.pairs ≡ length (pair_places net earlier)
  rows : length (shelf_matrix s).rows ≡ length net.complexes + length (pair_places net earlier)

sizes : (net : Net) (earlier : Earlier) (g : List ℤ) (s : Shape) → IsNetwork net → IsTrueOf net Q2 (on earlier Q2) → length g ≡ length net.complexes → IsShapeOf net g s → Sizes net earlier s
sizes net earlier g s n known even sh =
    let x = shapes_exist net earlier g n known even in
    let same : s ≡ x.shape = shapes_are_one net g s x.shape sh x.is in
    let count : s.count ≡ terminal_of (on earlier Q2) = ap (λ (u : Shape). u.count) same ∙ x.count in
    let pairs : length s.pairs ≡ length (pair_places net earlier) = ap (λ (u : Shape). length u.pairs) same ∙ x.pairs in
    record {
      count = count;
      pairs = pairs;
      rows = length-append (map complex_row s.complexes) (map (pair_row s) s.pairs)
          ∙ ap₂ (λ (a b : ℕ). a + b) (length-map s.complexes complex_row ∙ ap length sh.shape.complexes) (length-map s.pairs (pair_row s) ∙ pairs);
    }

-- ---- trees

formed_as : (p : List Sign) (t : Plan) (a b c x y z : ℕ) → a ≡ x → b ≡ y → c ≡ z → IsFormedTree a b c p t → IsFormedTree x y z p t
formed_as p t a b c x y z e f h k =
    subst (λ (i : ℕ). IsFormedTree i y z p t) e (subst (λ (i : ℕ). IsFormedTree a i z p t) f (subst (λ (i : ℕ). IsFormedTree a b i p t) h k))

record TreeFor (net : Net) (earlier : Earlier) (g : List ℤ) (t : Plan) : Type 0 where
  formed : IsSignalTree net earlier t
  tests : (part : ℕ) → AllHold (tree_tests (IsSignalNode net g) part [] t)

tree_for : (net : Net) (earlier : Earlier) (g : List ℤ) (budget : ℕ) (tree : Plan) → IsNetwork net → IsTrueOf net Q2 (on earlier Q2) → length g ≡ length net.complexes → EndsFor net g budget (Refuted tree) → TreeFor net earlier g tree
tree_for net earlier g budget tree n known even e =
    let s = e.0 in
    let m = reaction_system net in
    let w : Signed = signals s m in
    let z = sizes net earlier g s n known even e.1 in
    let at = e.2.0 in
    let formed = formed_tree w [] tree at.valid at.narrow in
    record {
      formed = formed_as [] tree (s.count + s.species) (length (shelf_matrix s).rows) (length m.rows) (terminal_of (on earlier Q2) + length net.names) (length net.complexes + length (pair_places net earlier)) (length net.names)
          (ap₂ (λ (a b : ℕ). a + b) z.count e.1.shape.species) z.rows (rows_count net) formed;
      tests = λ part. holds_too (Fits w) (IsSignalNode net g) (λ p said f. (s, e.1, f)) part [] tree
          ((tests_decide_valid_trees w (length (shelf_matrix s).rows) (length m.rows) part [] tree formed).1 at.valid);
    }

pub no_signal : (net : Net) (g : List ℤ) (budget : ℕ) (tree : Plan) → IsNetwork net → IsRegular net → EndsFor net g budget (Refuted tree) → HasNoSignal net g
no_signal net g budget tree n regular e shelves mu level weights sg =
    let m = reaction_system net in
    let at = signals_feasible net g e.0 n regular e.1 shelves mu level weights sg in
    leaves_nothing (signals e.0 m) (signals_are_steady e.0 m) tree [] at.0 e.2.0.valid at.1 at.2

-- ---- what earlier verdicts give

given : (net : Net) (earlier : Earlier) (g : List ℤ) (weak : Bool) (Has : List ℤ → Type 0) → GiveVector net earlier g weak → Has g → IsSomeAnd (vector_given (on earlier Q12)) Has
given net earlier g weak Has v h = subst (λ (o : Option (List ℤ)). IsSomeAnd o Has) (sym v.vector_is) h

has_vector : (net : Net) (earlier : Earlier) (g : List ℤ) (weak : Bool) → GiveVector net earlier g weak → HasVector earlier
has_vector net earlier g weak v = subst (λ (o : Option (List ℤ)). IsSome o) (sym v.vector_is) refl

nodes_of : (net : Net) (earlier : Earlier) (g : List ℤ) (weak : Bool) (turn : ℤ) (part : ℕ) (t : Plan) → GiveVector net earlier g weak → AllHold (tree_tests (IsSignalNode net (by_turn turn g)) part [] t) → AllHold (tree_tests (IsNodeOf net earlier turn) part [] t)
nodes_of net earlier g weak turn part t v h =
    holds_too (IsSignalNode net (by_turn turn g)) (IsNodeOf net earlier turn) (λ p said f. given net earlier g weak (λ x. IsSignalNode net (by_turn turn x) p said) v f) part [] t h

-- ---- no

pub one_is : (net : Net) (earlier : Earlier) (g : List ℤ) (weak : Bool) (budget : ℕ) (tree : Plan) → IsNetwork net → IsRegular net → HasConfluenceLine net → IsNormalVector net g → (IsWeaklyReversible net.reactions → IsTrue weak) → (IsTrue weak → ⊥) → GiveVector net earlier g weak → EndsFor net g budget (Refuted tree)
    → IsAnswer net budget earlier Q13 (one_answer tree)
one_is net earlier g weak budget tree n regular line normal to not v e =
    let t = tree_for net earlier g budget tree n v.strong_is normal.confluence.space.long e in
    record {
      formed = (record { head = tt; rows = tt; trees = signal_trees_fit net earlier (tree ∷ []) ((λ yes. not (v.weak_is.0 yes)), t.formed) }, (refl, refl));
      valid = (has_vector net earlier g weak v, nodes_of net earlier g weak (pos 1) 1 tree v (t.tests 1));
      answered = (regular, line, none_at_all net g n regular line normal.confluence (no_signal net g budget tree n regular e) (λ w. absurd (not (to w))));
    }

pub two_is : (net : Net) (earlier : Earlier) (g : List ℤ) (budget : ℕ) (tree second : Plan) → IsNetwork net → IsRegular net → HasConfluenceLine net → IsNormalVector net g → GiveVector net earlier g true → EndsFor net g budget (Refuted tree) → EndsFor net (negative g) budget (Refuted second)
    → IsAnswer net budget earlier Q13 (two_answer tree second)
two_is net earlier g budget tree second n regular line normal v e f =
    let t = tree_for net earlier g budget tree n v.strong_is normal.confluence.space.long e in
    let u = tree_for net earlier (negative g) budget second n v.strong_is (length-scale (negsuc 0) g ∙ normal.confluence.space.long) f in
    let last = 1 + node_count tree in
    record {
      formed = (record { head = tt; rows = tt; trees = signal_trees_fit net earlier (tree ∷ second ∷ []) (v.weak_is.1 refl, t.formed, u.formed) }, (refl, refl));
      valid = (
        has_vector net earlier g true v,
        hold_append (tree_tests (IsNodeOf net earlier (pos 1)) 1 [] tree) (tree_tests (IsNodeOf net earlier (negsuc 0)) last [] second)
            (nodes_of net earlier g true (pos 1) 1 tree v (t.tests 1)) (nodes_of net earlier g true (negsuc 0) last second v (u.tests last)),
      );
      answered = (regular, line, none_at_all net g n regular line normal.confluence (no_signal net g budget tree n regular e) (λ w. no_signal net (negative g) budget second n regular f));
    }

-- ---- open

pub spent_is : (net : Net) (earlier : Earlier) (g : List ℤ) (weak : Bool) (budget : ℕ) → 1 ≤ budget → budget ≤ MAX_BUDGET → GiveVector net earlier g weak
    → PassForSignals net g budget ⊎ (IsWeaklyReversible net.reactions × HasNoSignal net g × PassForSignals net (negative g) budget)
    → IsAnswer net budget earlier Q13 (plain (Unknown (Budget budget)))
spent_is net earlier g weak budget low high v p = record {
  formed = (record { head = ((low, high), tt); rows = tt; trees = tt }, (refl, refl));
  valid = tt;
  answered = (refl, given net earlier g weak (λ x. PassForSignals net x budget ⊎ (IsWeaklyReversible net.reactions × HasNoSignal net x × PassForSignals net (negative x) budget)) v p);
}

same_rows : (s : Shape) (ps : List Pair) → map (pair_row (opposite_shape s)) (map opposite_pair ps) ≡ map (pair_row s) ps
same_rows s [] = refl
same_rows s (p ∷ ps) = ap (λ (t : List (List ℤ)). pair_row s p ∷ t) (same_rows s ps)

-- system 5 does not depend on the sign of g
same_system : (s : Shape) → shelf_matrix (opposite_shape s) ≡ shelf_matrix s
same_system s = ap (λ (rows : List (List ℤ)). let a : Mat = record { cols = s.species + 1; rows = map complex_row s.complexes ++ rows } in a) (same_rows s s.pairs)

wide_five : (net : Net) (earlier : Earlier) (g : List ℤ) (weak : Bool) (budget index : ℕ) (basis : KeptNums) (s : Shape) → IsNetwork net → length g ≡ length net.complexes → GiveVector net earlier g weak → IsShapeOf net g s → NamesWide (shelf_matrix s) index basis.list
    → IsAnswer net budget earlier Q13 (plain (Unknown (Wide 5 0 index basis)))
wide_five net earlier g weak budget index basis s n even v sh h =
    let z = sizes net earlier g s n v.strong_is even sh in
    let b = wide_basis (shelf_matrix s) (length net.names + 1) (length net.complexes + length (pair_places net earlier)) index basis.list (ap (λ (k : ℕ). k + 1) sh.shape.species) z.rows h in
    let gap : IsWideGap net earlier Q13 5 0 index basis.list = (inr (refl, refl, vector_is_given (on earlier Q12) (has_vector net earlier g weak v), b), tt) in
    record {
      formed = (record { head = gap; rows = tt; trees = tt }, (refl, refl));
      valid = tt;
      answered = (gap, given net earlier g weak (λ x. IsSignalWide net x 5 basis.list index) v (inr (refl, (s, sh, h))));
    }

wide_two : (net : Net) (earlier : Earlier) (g : List ℤ) (weak : Bool) (budget index : ℕ) (basis : KeptNums) → GiveVector net earlier g weak → NamesWide (reaction_system net) index basis.list → IsAnswer net budget earlier Q13 (plain (Unknown (Wide 2 0 index basis)))
wide_two net earlier g weak budget index basis v h =
    let b = wide_basis (reaction_system net) (length net.reactions) (length net.names) index basis.list refl (rows_count net) h in
    let gap : IsWideGap net earlier Q13 2 0 index basis.list = (inl (refl, refl, b), tt) in
    record {
      formed = (record { head = gap; rows = tt; trees = tt }, (refl, refl));
      valid = tt;
      answered = (gap, given net earlier g weak (λ x. IsSignalWide net x 2 basis.list index) v (inl (refl, h)));
    }

pub stopped : (net : Net) (earlier : Earlier) (g : List ℤ) (weak : Bool) (budget : ℕ) (stop : SearchStop) (answer : Answer) → IsNetwork net → length g ≡ length net.complexes → GiveVector net earlier g weak → StopsFor net g stop → IsStopAnswer stop answer → IsAnswer net budget earlier Q13 answer
stopped net earlier g weak budget (WideA index basis) answer n even v h e = subst (IsAnswer net budget earlier Q13) (sym e) (wide_five net earlier g weak budget index basis h.0 n even v h.1 h.2)
stopped net earlier g weak budget (WideB index basis is_first) answer n even v h e = subst (IsAnswer net budget earlier Q13) (sym e) (wide_two net earlier g weak budget index basis v h)
stopped net earlier g weak budget NoMemory answer n even v h e = absurd e

-- what stops the search for the negative of g stops that for g
pub stops_negative : (net : Net) (earlier : Earlier) (g : List ℤ) (stop : SearchStop) → IsNetwork net → IsTrueOf net Q2 (on earlier Q2) → length g ≡ length net.complexes → StopsFor net (negative g) stop → StopsFor net g stop
stops_negative net earlier g (WideA index basis) n known even h =
    let x = shapes_exist net earlier g n known even in
    let same : h.0 ≡ opposite_shape x.shape = shapes_are_one net (negative g) h.0 (opposite_shape x.shape) h.1 (negatives_have_opposite_shapes net g x.shape x.is) in
    (x.shape, x.is, subst (λ (a : Mat). NamesWide a index basis.list) (ap shelf_matrix same ∙ same_system x.shape) h.2)
stops_negative net earlier g (WideB index basis is_first) n known even h = h
stops_negative net earlier g NoMemory n known even h = tt

-- ---- yes

shelf_signs : (q : List Sign) → map sign (map shelf_number q) ≡ q
shelf_signs [] = refl
shelf_signs (Zero ∷ q) = ap (λ (t : List Sign). Zero ∷ t) (shelf_signs q)
shelf_signs (Plus ∷ q) = ap (λ (t : List Sign). Plus ∷ t) (shelf_signs q)
shelf_signs (Minus ∷ q) = ap (λ (t : List Sign). Minus ∷ t) (shelf_signs q)

are_shelves : (q : List Sign) → AllByRecursion IsShelf (map shelf_number q)
are_shelves [] = tt
are_shelves (Zero ∷ q) = (inr (inl refl), are_shelves q)
are_shelves (Plus ∷ q) = (inl refl, are_shelves q)
are_shelves (Minus ∷ q) = (inr (inr refl), are_shelves q)

narrow_take : (n : ℕ) (xs : List ℤ) → AllByRecursion IsNarrow xs → AllByRecursion IsNarrow (take n xs)
narrow_take zero [] h = tt
narrow_take zero (x ∷ xs) h = tt
narrow_take (suc n) [] h = tt
narrow_take (suc n) (x ∷ xs) h = (h.0, narrow_take n xs h.1)

-- the number of terminal classes of a shape
counted : (net : Net) (g : List ℤ) (s : Shape) (count terminal : ℕ) (labels exits : List ℕ) → AreStrongClasses net count terminal labels exits → IsShapeOf net g s → terminal ≡ s.count
counted net g s count terminal labels exits strong sh =
    number_is_one (λ y. IsComplex net y × IsTerminal net.reactions y) (SameStrong net.reactions) (strong_back net.reactions) (strong_then net.reactions) terminal s.count strong.terminal_is (tops_are_counted net s.tops s.count sh.tops)

pub found_is : (net : Net) (earlier : Earlier) (g : List ℤ) (weak : Bool) (turn : ℤ) (budget count terminal : ℕ) (labels exits : List ℕ) (q : List Sign) (pattern : List Sign) (a b : KeptInts) (answer : Answer) → IsNetwork net → IsRegular net → HasConfluenceLine net → IsNormalVector net g → AreStrongClasses net count terminal labels exits
    → IsTurn turn → (turn ≡ negsuc 0 → IsTrue weak) → IsConfluenceVector net (by_turn turn g) → GiveVector net earlier g weak → q ≡ pattern
    → EndsFor net (by_turn turn g) budget (Found pattern a b) → IsFoundAnswer turn terminal (length net.names) q a.list b.list answer → IsAnswer net budget earlier Q13 answer
found_is net earlier g weak turn budget count terminal labels exits q pattern a b answer n regular line normal strong is_turn by_weak c v eq e f =
    let h = by_turn turn g in
    let s = e.0 in
    let sh = e.1 in
    let m = reaction_system net in
    let w : Signed = signals s m in
    let st = e.2.0 in
    let z = sizes net earlier h s n v.strong_is c.space.long sh in
    let many : terminal ≡ s.count = counted net h s count terminal labels exits strong sh in
    let free_a = solution_free (shelf_matrix s) (w.kinds_a pattern) a.list st.part_a in
    let free_b = solution_free m (w.kinds_b pattern) b.list st.part_b in
    let species = sh.shape.species in
    let shelves : f.shelves.list ≡ map shelf_number (take s.count pattern) = f.shelves_are ∙ ap₂ (λ (k : ℕ) (l : List Sign). map shelf_number (take k l)) many eq in
    let mu : f.mu.list ≡ take s.species a.list = f.mu_is ∙ ap (λ (k : ℕ). take k a.list) (sym species) in
    let named = (signals_are_of_shape net h s n regular c.space sh).named pattern a.list b.list st.full st.opened (st.part_a.v, st.part_a.solves) (st.part_b.v, st.part_b.solves) in
    let signal : IsSignalOf net h (map sign f.shelves.list) f.mu.list (entry a.list (length net.names)) f.weights.list =
    subst (λ (l : List Sign). IsSignalOf net h l f.mu.list (entry a.list (length net.names)) f.weights.list) (sym (ap (map sign) shelves ∙ shelf_signs (take s.count pattern)))
    (subst (λ (l : List ℤ). IsSignalOf net h (take s.count pattern) l (entry a.list (length net.names)) f.weights.list) (sym mu)
    (subst (λ (k : ℕ). IsSignalOf net h (take s.count pattern) (take s.species a.list) (entry a.list k) f.weights.list) species
    (subst (λ (l : List ℤ). IsSignalOf net h (take s.count pattern) (take s.species a.list) (entry a.list s.species) l) (sym f.weights_are) named))) in
    let rows : AreSignalRows net earlier f.shelves.list f.mu.list (entry a.list (length net.names)) f.weights.list = record {
      shelves_are = record {
        long = ap length shelves ∙ length-map (take s.count pattern) shelf_number ∙ length-take-le s.count pattern (omega (arith, st.full)) ∙ z.count;
        each = subst (AllByRecursion IsShelf) (sym shelves) (are_shelves (take s.count pattern));
      };
      mu_is = record {
        long = ap length mu ∙ length-take-le s.species a.list (omega (arith, free_a.long)) ∙ species;
        each = subst (AllByRecursion IsNarrow) (sym mu) (narrow_take s.species a.list free_a.each);
      };
      level_is = all_at IsNarrow a.list (length net.names) (pos 0) free_a.each (omega (arith, free_a.long, species));
      weights_are = subst (AreFree (length net.reactions)) (sym f.weights_are) free_b;
    } in
    let made : Answer = plain (YesSignal turn f.shelves f.mu (entry a.list (length net.names)) f.weights) in
    let done : IsAnswer net budget earlier Q13 made = record {
      formed = (record { head = (is_turn, tt); rows = (rows.shelves_are, (rows.mu_is, (rows.level_is, (rows.weights_are, tt)))); trees = tt }, (refl, refl));
      valid = ((has_vector net earlier g weak v, λ t. v.weak_is.1 (by_weak t)), (given net earlier g weak (λ x. IsSignalOf net (by_turn turn x) (map sign f.shelves.list) f.mu.list (entry a.list (length net.names)) f.weights.list) v signal, tt));
      answered = (regular, line, record { turn_is = is_turn; shelves_are = rows.shelves_are.each; g = g; normal = normal; confluence = c; signal = signal });
    } in
    subst (IsAnswer net budget earlier Q13) (sym f.is) done

-- a vector for which the search finds a prefix has a signal
pub found_has_signal : (net : Net) (g : List ℤ) (budget : ℕ) (q : List Sign) (a b : KeptInts) → IsNetwork net → IsRegular net → IsConfluenceVector net g → EndsFor net g budget (Found q a b) → HasNoSignal net g → ⊥
found_has_signal net g budget q a b n regular c e none =
    let s = e.0 in
    let st = e.2.0 in
    none (take s.count q) (take s.species a.list) (entry a.list s.species) b.list
    ((signals_are_of_shape net g s n regular c.space e.1).named q a.list b.list st.full st.opened (st.part_a.v, st.part_a.solves) (st.part_b.v, st.part_b.solves))

-- the negative of a confluence vector of a weakly reversible network is one
pub negative_too : (net : Net) (g : List ℤ) → IsNetwork net → IsRegular net → HasConfluenceLine net → IsWeaklyReversible net.reactions → IsConfluenceVector net g → IsConfluenceVector net (negative g)
negative_too net g n regular line weak c = ((confluence_vectors_are_one net n regular line).negative_too g c).1 weak

-- ---- nodes

pub few_one : (net : Net) (g : List ℤ) (budget : ℕ) (tree : Plan) → EndsFor net g budget (Refuted tree) → node_count tree ≤ budget
few_one net g budget tree e = omega (arith, e.2.2, count_places [] tree)

pub few_two : (net : Net) (g h : List ℤ) (budget : ℕ) (tree second : Plan) → EndsFor net g budget (Refuted tree) → EndsFor net h budget (Refuted second) → HasFewNodes budget (two_answer tree second).proof
few_two net g h budget tree second e f = (few_one net g budget tree e, few_one net h budget second f)

-- ---- visits

pub visits_one : (net : Net) (g : List ℤ) (budget : ℕ) (tree : Plan) → EndsFor net g budget (Refuted tree) → ListsVisitsFor net g tree
visits_one net g budget tree e = (e.0, e.1, e.2.1)

-- an answer without a tree
pub found_visits : (net : Net) (g : List ℤ) (turn : ℤ) (count species : ℕ) (q : List Sign) (a b : List ℤ) (answer : Answer) → IsFoundAnswer turn count species q a b answer → ListSignalVisits net g answer.proof
found_visits net g turn count species q a b answer f = subst (λ (x : Answer). ListSignalVisits net g x.proof) (sym f.is) tt

pub stop_visits : (net : Net) (g : List ℤ) (stop : SearchStop) (answer : Answer) → IsStopAnswer stop answer → ListSignalVisits net g answer.proof
stop_visits net g (WideA index basis) answer e = subst (λ (x : Answer). ListSignalVisits net g x.proof) (sym e) tt
stop_visits net g (WideB index basis is_first) answer e = subst (λ (x : Answer). ListSignalVisits net g x.proof) (sym e) tt
stop_visits net g NoMemory answer e = absurd e

-- ---- the shape

pub stops_for : (net : Net) (g : List ℤ) (s : Shape) (stop : SearchStop) → IsShapeOf net g s → IsSearchStop (signals s (reaction_system net)) stop → StopsFor net g stop
stops_for net g s (WideA index basis) sh h = (s, sh, h)
stops_for net g s (WideB index basis is_first) sh h = h
stops_for net g s NoMemory sh h = tt

pub classes_by : (net : Net) (count terminal : ℕ) (labels exits ls es : List ℕ) → ls ≡ labels → es ≡ exits → AreStrongClasses net count terminal labels exits → AreClassesBy net ls es
classes_by net count terminal labels exits ls es e f s =
    (count, terminal, subst (λ (l : List ℕ). AreStrongClasses net count terminal l es) (sym e) (subst (λ (l : List ℕ). AreStrongClasses net count terminal labels l) (sym f) s))
