-- A valid answer on signals is true.
use Rattle.crn_cert.proofs.Prelude.{◌≡◌, ℕ, ◌+◌, inl, inr, List, [], ◌∷◌, ◌++◌, refl, sym, subst, ◌∙◌, ℤ, pos, negsuc, IsSome, IsSomeAnd, Sign, Net, IsNetwork, IsWeaklyReversible, IsRegular, HasConfluenceLine, IsConfluenceVector, IsNormalVector, negative, reaction_system, Signed, sign, Shape, signals, IsSignalOf, IsShapeOf, HasNoSignal, length-scale, confluence_vectors_are_one, signals_are_steady, shapes_are_one, multiples_share_signals, signals_feasible, Verdict, YesVec, YesSignal, NotRegular, OnlyZero, Plane, NotApplicable, Unknown, Proof, One, Two, Earlier, Q4, Q12, Q13, on, vector_given, IsOpen, IsTrueOf, IsTurn, by_turn, AllHold, Plan, Both, Three, node_count, IsValid, IsFormedTree, Said, Fits, tree_tests, IsFormedOf, IsSignalNode, OfVector, signal_head, signal_rows, IsTrueOrOpen, ValidIsTrue}
use Rattle.std.specs.Prelude.{map}
use Rattle.crn_cert.specs.declared.answer.Verdict.TheVariants.{No}
use Rattle.crn_cert.proofs.FormedFacts.{bare_formed, signal_trees_formed}
use Rattle.crn_cert.proofs.Known.{weak_yes, weak_no}
use Rattle.crn_cert.proofs.TreeLaws.{leaves_nothing}
use Rattle.crn_cert.proofs.TreesRight.{tree_right}
use Rattle.crn_cert.proofs.TestLists.{hold_parts}

-- what question 12 says if it gives a vector with the property
record VectorKnown (net : Net) (Has : List ℤ → Type 0) : Type 0 where
  g : List ℤ
  regular : IsRegular net
  line : HasConfluenceLine net
  normal : IsNormalVector net g
  has : Has g

vector_known : (net : Net) (v : Verdict) (Has : List ℤ → Type 0) → IsTrueOrOpen net Q12 v → IsSomeAnd (vector_given v) Has → VectorKnown net Has
vector_known net (YesVec vector) Has h s = record { g = vector.list; regular = h.0; line = h.1; normal = h.2; has = s }
vector_known net v Has h s = absurd s

-- without a vector the hypotheses of a signal fail
none_known : (net : Net) (v : Verdict) → IsTrueOrOpen net Q12 v → (IsSome (vector_given v) → ⊥) → (IsOpen v → ⊥) → IsRegular net × HasConfluenceLine net → ⊥
none_known net (YesVec vector) h none open' r = none refl
none_known net (Unknown gap) h none open' r = open' tt
none_known net NotRegular h none open' r = h r.0
none_known net OnlyZero h none open' r = let some = r.1.some in some.2.1 (h.1 some.0 some.1 some.2.0)
none_known net (Plane first second one two) h none open' r = h.1.apart (r.1.one one.list two.list h.1.one h.1.two)
none_known net v h none open' r = absurd h

-- ---- trees for a vector

-- the first node names a shape
root_shape : (net : Net) (g : List ℤ) (part : ℕ) (p : List Sign) (tree : Plan) → AllHold (tree_tests (IsSignalNode net g) part p tree) → (s : Shape) × IsShapeOf net g s
root_shape net g part p (Both zero plus) t = (t.0.0, t.0.1)
root_shape net g part p (Three zero plus minus) t = (t.0.0, t.0.1)
root_shape net g part p tree t = (t.0.0, t.0.1)

-- all nodes are of this one
no_signal_by : (net : Net) (g : List ℤ) → IsNetwork net → IsRegular net → (choices rows_a rows_b part : ℕ) (tree : Plan) → IsFormedTree choices rows_a rows_b [] tree → AllHold (tree_tests (IsSignalNode net g) part [] tree) → HasNoSignal net g
no_signal_by net g n regular choices rows_a rows_b part tree f t shelves mu level weights sg =
    let shape = root_shape net g part [] tree t in
    let m = reaction_system net in
    let w : Signed = signals shape.0 m in
    let fits : (p : List Sign) (said : Said) → IsSignalNode net g p said → Fits w p said = λ p said h. subst (λ (s : Shape). Fits (signals s m) p said) (shapes_are_one net g h.0 shape.0 h.1 shape.1) h.2 in
    let valid : IsValid w [] tree = tree_right w (IsSignalNode net g) fits choices rows_a rows_b part [] tree f t in
    let at = signals_feasible net g shape.0 n regular shape.1 shelves mu level weights sg in
    leaves_nothing w (signals_are_steady shape.0 m) tree [] at.0 valid at.1 at.2

-- if g has no signal, and its negative has none in a weakly reversible network, no confluence vector has one
none_at_all : (net : Net) (g : List ℤ) → IsNetwork net → IsRegular net → HasConfluenceLine net → IsConfluenceVector net g → HasNoSignal net g → (IsWeaklyReversible net.reactions → HasNoSignal net (negative g))
    → (h : List ℤ) → IsConfluenceVector net h → HasNoSignal net h
none_at_all net g n regular line c none second h d shelves mu level weights sg =
    elim ((confluence_vectors_are_one net n regular line).one h g d c) [
      | inl m ↦ none shelves mu level weights (multiples_share_signals net h g (d.space.long ∙ sym c.space.long) m shelves mu level weights sg)
      | inr m ↦ second m.1 shelves mu level weights (multiples_share_signals net h (negative g) (d.space.long ∙ sym (length-scale (negsuc 0) g ∙ c.space.long)) m.0 shelves mu level weights sg)
    ]

-- ---- the answer

vector_by_turn : (net : Net) (g : List ℤ) (turn : ℤ) → IsNetwork net → IsRegular net → HasConfluenceLine net → IsConfluenceVector net g → IsTurn turn → (turn ≡ negsuc 0 → IsWeaklyReversible net.reactions) → IsConfluenceVector net (by_turn turn g)
vector_by_turn net g turn n regular line c (inl e) weak = subst (λ (x : ℤ). IsConfluenceVector net (by_turn x g)) (sym e) c
vector_by_turn net g turn n regular line c (inr e) weak = subst (λ (x : ℤ). IsConfluenceVector net (by_turn x g)) (sym e) (((confluence_vectors_are_one net n regular line).negative_too g c).1 (weak e))

-- what holds of each node for the given vector, for that vector
nodes_given : (v : Verdict) (turn : ℤ) (net : Net) (part : ℕ) (tree : Plan) → IsSome (vector_given v) → AllHold (tree_tests (λ p said. IsSomeAnd (vector_given v) (λ g. IsSignalNode net (by_turn turn g) p said)) part [] tree) → IsSomeAnd (vector_given v) (λ g. AllHold (tree_tests (IsSignalNode net (by_turn turn g)) part [] tree))
nodes_given (YesVec vector) turn net part tree s t = t
nodes_given v turn net part tree s t = absurd cc

-- and for two trees
both_given : (v : Verdict) (A B : List ℤ → Type 0) → IsSomeAnd (vector_given v) A → IsSomeAnd (vector_given v) B → IsSomeAnd (vector_given v) (λ g. A g × B g)
both_given (YesVec vector) A B a b = (a, b)
both_given v A B a b = absurd a

signal_law : (net : Net) (earlier : Earlier) → IsNetwork net → IsTrueOf net Q4 (on earlier Q4) → IsTrueOrOpen net Q12 (on earlier Q12) → (v : Verdict) (p : Proof) → IsFormedOf net earlier Q13 v p → AllHold (signal_head earlier v ++ signal_rows net earlier v p) → IsTrueOrOpen net Q13 v
signal_law net earlier n weak conf (Unknown gap) p f t = tt
signal_law net earlier n weak conf (YesSignal turn shelves mu level weights) p f t =
    let k = vector_known net (on earlier Q12) (λ g. IsSignalOf net (by_turn turn g) (map sign shelves.list) mu.list level weights.list) conf t.1.0 in (
      k.regular,
      k.line,
      record {
        turn_is = f.0.head.0;
        shelves_are = (bare_formed net earlier Q13 (YesSignal turn shelves mu level weights) p f.0.trees f.1.1 f).0.rows.0.each;
        g = k.g;
        normal = k.normal;
        confluence = vector_by_turn net k.g turn n k.regular k.line k.normal.confluence f.0.head.0 (λ e. weak_yes net (on earlier Q4) weak (t.0.1 e));
        signal = k.has;
      },
    )
signal_law net earlier n weak conf No (One tree) f t =
    let trees = signal_trees_formed net earlier (One tree) f.0.trees in
    let v = on earlier Q12 in
    let k = vector_known net v (λ g. AllHold (tree_tests (IsSignalNode net g) 1 [] tree)) conf (nodes_given v (pos 1) net 1 tree t.0 t.1) in
    let none = no_signal_by net k.g n k.regular _ _ _ 1 tree trees.1 k.has in
    (k.regular, k.line, none_at_all net k.g n k.regular k.line k.normal.confluence none (λ w. absurd (trees.0 (weak_no net (on earlier Q4) weak w))))
signal_law net earlier n weak conf No (Two tree second) f t =
    let trees = signal_trees_formed net earlier (Two tree second) f.0.trees in
    let v = on earlier Q12 in
    let last = 1 + node_count tree in
    let split = hold_parts (tree_tests (λ p said. OfVector earlier (pos 1) (λ g. IsSignalNode net g p said)) 1 [] tree) (tree_tests (λ p said. OfVector earlier (negsuc 0) (λ g. IsSignalNode net g p said)) last [] second) t.1 in
    let k = vector_known net v (λ g. AllHold (tree_tests (IsSignalNode net g) 1 [] tree) × AllHold (tree_tests (IsSignalNode net (negative g)) last [] second)) conf
    (both_given v (λ g. AllHold (tree_tests (IsSignalNode net g) 1 [] tree)) (λ g. AllHold (tree_tests (IsSignalNode net (negative g)) last [] second)) (nodes_given v (pos 1) net 1 tree t.0 split.0) (nodes_given v (negsuc 0) net last second t.0 split.1)) in
    let none = no_signal_by net k.g n k.regular _ _ _ 1 tree trees.1 k.has.0 in
    (k.regular, k.line, none_at_all net k.g n k.regular k.line k.normal.confluence none (λ w. no_signal_by net (negative k.g) n k.regular _ _ _ last second trees.2 k.has.1))
signal_law net earlier n weak conf NotApplicable p f t = none_known net (on earlier Q12) conf t.0.0 t.0.1
signal_law net earlier n weak conf No p f t = absurd (signal_trees_formed net earlier p f.0.trees)
signal_law net earlier n weak conf v p f t = absurd f.0.head

pub signal_valid : ValidIsTrue (Q4 ∷ []) (Q12 ∷ []) Q13
signal_valid net earlier answer n known rests f t = signal_law net earlier n known.0 rests.0 answer.verdict answer.proof f t
