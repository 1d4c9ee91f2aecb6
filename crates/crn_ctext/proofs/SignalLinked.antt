-- Answers on signals that have trees, one or two, and their records.
use Rattle.crn_ctext.proofs.Prelude.{◌≡◌, ◌⊎◌, ◌<◌, ◌+◌, ◌++◌, ◌∙◌, ℕ, Bool, true, false, List, [], ◌∷◌, length, refl, sym, ap, ap₂, subst, inl, inr, arith, ℤ, pos, negsuc, Option, Some, None, IsSomeAnd, append-nil, Net, reaction_system, Shape, signals, IsShapeOf, Sign, Verdict, Unknown, Proof, Nothing, One, Two, Earlier, Q2, Q4, Q12, Q13, on, terminal_of, vector_given, IsYes, AllHold, Plan, node_count, Said, Splits, Flats, CutsA, CutsB, FitsNode, tree_tests, IsTrueOf, by_turn, IsFormedOf, IsSignalTree, AreSignalTrees, IsSignalNode, IsNodeOf, IsValid, shape_count, hold_append, hold_parts, signal_trees_formed, Record, Problem, IsTree, AreTrees, IsGoodLeaf, proof_nodes, records, nodes, Known, is_yes, shapes_of, signal_problem, signal_problems, meaning}
use Rattle.crn_cert.specs.declared.answer.Gap.TheVariants.{Rests}
use Rattle.crn_cert.specs.declared.answer.Verdict.TheVariants.{Yes, YesVec, No}
use Rattle.crn_ctext.specs.Documents as documents
use Rattle.crn_ctext.proofs.Shown.{shown}
use Rattle.crn_ctext.proofs.KnownBefore.{IsStrong}
use Rattle.crn_ctext.proofs.RecordsDerived.{bare}
use Rattle.crn_ctext.proofs.Joined.{parts, answer}
use Rattle.crn_ctext.proofs.TreesRead.{valid_tree_is_formed}
use Rattle.crn_ctext.proofs.AnswersApart.{tree_apart}
use Rattle.crn_ctext.proofs.TreeRecords.{FormedAt, AreLeafTests, tree_formed, tree_good, tree_true, tests_true, true_tests, from_some_leaf, plans_one}
use Rattle.crn_ctext.proofs.TablesLinked.{at_root, some_nodes}

-- ---- yes and vectors

pub yes_is : (v : Verdict) → IsYes v → is_yes v ≡ true
yes_is Yes y = refl
yes_is (YesVec vector) y = refl
yes_is v y = absurd y

pub no_is : (v : Verdict) → (IsYes v → ⊥) → is_yes v ≡ false
no_is Yes n = absurd (n tt)
no_is (YesVec vector) n = absurd (n tt)
no_is v n = refl

-- whether the network is weakly reversible, by verdicts that say the same
pub weak_known : (known : Known) → IsYes (on known.earlier Q4) → is_yes (on known.earlier Q4) ≡ true
weak_known known y = yes_is (on known.earlier Q4) y

pub not_weak_known : (known : Known) → (IsYes (on known.earlier Q4) → ⊥) → is_yes (on known.earlier Q4) ≡ false
not_weak_known known n = no_is (on known.earlier Q4) n

-- ---- trees

abbrev pub choices_of : Known → ℕ
choices_of known = terminal_of (on known.earlier Q2) + length known.net.names

-- a formed tree is formed by what is known
pub tree_known : (known : Known) (turn : ℤ) (t : Plan) → IsStrong (on known.earlier Q2) → IsSignalTree known.net known.earlier t → FormedAt (signal_problem known turn) [] t
tree_known known turn t k f = f

leaf_tests : (known : Known) → (turn : ℤ) → AreLeafTests (signal_problem known turn) (IsNodeOf known.net known.earlier turn)
leaf_tests known turn = record {
  part_a = λ p u. ((λ h. h), (λ h. h));
  part_b = λ p u. ((λ h. h), (λ h. h));
  closed = λ p. ((λ h. h), (λ h. h));
}

abbrev Tested : Net → Earlier → ℤ → ℕ → Plan → Type 0
Tested net earlier turn part tree = AllHold (tree_tests (IsNodeOf net earlier turn) part [] tree)

abbrev Good : Known → ℤ → List Record → Type 0
Good known turn rs = IsTree (IsGoodLeaf (signal_problem known turn)) (choices_of known) [] rs

tested_good : (known : Known) (turn : ℤ) (part : ℕ) (tree : Plan) → FormedAt (signal_problem known turn) [] tree → Tested known.net known.earlier turn part tree → Good known turn (nodes tree)
tested_good known turn part tree f hold =
    tree_good (signal_problem known turn) (choices_of known) [] tree (at_root (choices_of known)) f (tests_true (signal_problem known turn) (IsNodeOf known.net known.earlier turn) (leaf_tests known turn) part [] tree hold)

some_map : (o : Option (List ℤ)) (P Q : List ℤ → Type 0) → ((g : List ℤ) → P g → Q g) → IsSomeAnd o P → IsSomeAnd o Q
some_map None P Q f h = h
some_map (Some g) P Q f h = f g h

-- the vector that is given has a shape
abbrev ShapeKnown : Known → ℤ → Type 0
ShapeKnown known turn = IsSomeAnd (vector_given (on known.earlier Q12)) (λ g. (s : Shape) × IsShapeOf known.net (by_turn turn g) s)

shape_by : (known : Known) (turn : ℤ) (p : List Sign) (said : Said) → IsNodeOf known.net known.earlier turn p said → ShapeKnown known turn
shape_by known turn p said h = some_map (vector_given (on known.earlier Q12)) (λ g. IsSignalNode known.net (by_turn turn g) p said) (λ g. (s : Shape) × IsShapeOf known.net (by_turn turn g) s) (λ g node. (node.0, node.1)) h

-- a prefix that is not full by what is known may split
splits_by : (known : Known) (turn : ℤ) → IsTrueOf known.net Q2 (on known.earlier Q2) → ShapeKnown known turn → (p : List Sign) → length p < choices_of known → IsNodeOf known.net known.earlier turn p Splits
splits_by known turn true_ shape p less =
    some_map (vector_given (on known.earlier Q12)) (λ g. (s : Shape) × IsShapeOf known.net (by_turn turn g) s) (λ g. IsSignalNode known.net (by_turn turn g) p Splits) (λ g s. (s.0, s.1, fits g s.0 s.1)) shape
  where
    fits : (g : List ℤ) (s : Shape) → IsShapeOf known.net (by_turn turn g) s → FitsNode (signals s (reaction_system known.net)) p Splits
    fits g s is =
        let shaped = is.shape in
        let species = shaped.species in
        let room : length p < s.count + s.species = omega (arith, less, species, shape_count known.net known.earlier (by_turn turn g) s true_ is) in
        room

good_tested : (known : Known) (turn : ℤ) (part : ℕ) (tree : Plan) → IsTrueOf known.net Q2 (on known.earlier Q2) → FormedAt (signal_problem known turn) [] tree → Good known turn (nodes tree) → Tested known.net known.earlier turn part tree
good_tested known turn part tree true_ f good =
    let leaves = tree_true (signal_problem known turn) (choices_of known) [] tree (at_root (choices_of known)) f good in
    let shape : ShapeKnown known turn = from_some_leaf (ShapeKnown known turn) (signal_problem known turn) (λ p u h. shape_by known turn p (CutsA u) h) (λ p u h. shape_by known turn p (CutsB u) h) (λ p h. shape_by known turn p Flats h) [] tree leaves in
    true_tests (signal_problem known turn) (IsNodeOf known.net known.earlier turn) (leaf_tests known turn) (λ p less. splits_by known turn true_ shape p less) part [] tree f leaves

-- ---- one tree, or two

-- the records of one tree, and of two
one_good : (known : Known) (tree : Plan) → Good known (pos 1) (nodes tree) → AreTrees IsGoodLeaf (signal_problems known false) (nodes tree)
one_good known tree g = (nodes tree, [], sym (append-nil (nodes tree)), g, refl)

two_good : (known : Known) (tree second : Plan) → Good known (pos 1) (nodes tree) → Good known (negsuc 0) (nodes second) → AreTrees IsGoodLeaf (signal_problems known true) (nodes tree ++ nodes second)
two_good known tree second g h = (nodes tree, nodes second, refl, g, (nodes second, [], sym (append-nil (nodes second)), h, refl))

good_one : (known : Known) (tree : Plan) → AreTrees IsGoodLeaf (signal_problems known false) (nodes tree) → Good known (pos 1) (nodes tree)
good_one known tree t = subst (Good known (pos 1)) (sym (t.2 ∙ ap (λ (x : List Record). t.0 ++ x) t.4 ∙ append-nil t.0)) t.3

good_two : (known : Known) (tree second : Plan) → FormedAt (signal_problem known (pos 1)) [] tree → AreTrees IsGoodLeaf (signal_problems known true) (nodes tree ++ nodes second) → Good known (pos 1) (nodes tree) × Good known (negsuc 0) (nodes second)
good_two known tree second f t =
    let w = t.4 in
    let back : t.1 ≡ w.0 = w.2 ∙ ap (λ (x : List Record). w.0 ++ x) w.4 ∙ append-nil w.0 in
    let here = tree_formed (signal_problem known (pos 1)) (choices_of known) [] tree (at_root (choices_of known)) f in
    let there = valid_tree_is_formed (signal_problem known (pos 1)) (choices_of known) [] t.0 t.3 in
    let same = tree_apart (signal_problem known (pos 1)) (choices_of known) [] t.0 (nodes tree) t.1 (nodes second) there here (sym t.2) in
    (subst (Good known (pos 1)) same.0 t.3, subst (Good known (negsuc 0)) (sym back ∙ same.1) w.3)

-- the trees are those of this case
by_weak : (Fine : Problem → List Sign → Record → Type 0) (known : Known) (weak : Bool) (rs : List Record) → is_yes (on known.earlier Q4) ≡ weak → AreTrees Fine (signal_problems known weak) rs → AreTrees Fine (signal_problems known (is_yes (on known.earlier Q4))) rs
by_weak Fine known weak rs e t = subst (λ (b : Bool). AreTrees Fine (signal_problems known b) rs) (sym e) t

to_weak : (Fine : Problem → List Sign → Record → Type 0) (known : Known) (weak : Bool) (rs : List Record) → is_yes (on known.earlier Q4) ≡ weak → AreTrees Fine (signal_problems known (is_yes (on known.earlier Q4))) rs → AreTrees Fine (signal_problems known weak) rs
to_weak Fine known weak rs e t = subst (λ (b : Bool). AreTrees Fine (signal_problems known b) rs) e t

-- ---- valid answers

abbrev pub HoldsTrees : Known → Proof → Type 0
HoldsTrees known p = documents.IsValid meaning Q13 known (records Q13 (shapes_of known) (answer No p)) (parts Q13 known (answer No p))

pub signal_there : (known : Known) (p : Proof) → IsStrong (on known.earlier Q2) → IsFormedOf known.net known.earlier Q13 No p → IsValid known.net known.earlier Q13 (answer No p) → HoldsTrees known p
signal_there known (One tree) k f v =
    let b = f.0 in
    let t : AreSignalTrees known.net known.earlier (tree ∷ []) = signal_trees_formed known.net known.earlier (One tree) b.trees in
    record {
      head = (v.0, tt);
      rows = tt;
      trees = by_weak IsGoodLeaf known false (nodes tree) (not_weak_known known t.0) (one_good known tree (tested_good known (pos 1) 1 tree (tree_known known (pos 1) tree k t.1) v.1));
    }
signal_there known (Two tree second) k f v =
    let b = f.0 in
    let t : AreSignalTrees known.net known.earlier (tree ∷ second ∷ []) = signal_trees_formed known.net known.earlier (Two tree second) b.trees in
    let last = 1 + node_count tree in
    let both = hold_parts (tree_tests (IsNodeOf known.net known.earlier (pos 1)) 1 [] tree) (tree_tests (IsNodeOf known.net known.earlier (negsuc 0)) last [] second) v.1 in
    record {
      head = (v.0, tt);
      rows = tt;
      trees = by_weak IsGoodLeaf known true (nodes tree ++ nodes second) (weak_known known t.0)
          (two_good known tree second (tested_good known (pos 1) 1 tree (tree_known known (pos 1) tree k t.1) both.0) (tested_good known (negsuc 0) last second (tree_known known (negsuc 0) second k t.2) both.1));
    }
signal_there known p k f v = let b = f.0 in absurd (signal_trees_formed known.net known.earlier p b.trees)

pub signal_back : (known : Known) (p : Proof) → IsStrong (on known.earlier Q2) → IsTrueOf known.net Q2 (on known.earlier Q2) → IsFormedOf known.net known.earlier Q13 No p → HoldsTrees known p → IsValid known.net known.earlier Q13 (answer No p)
signal_back known (One tree) k s f v =
    let b = f.0 in
    let t : AreSignalTrees known.net known.earlier (tree ∷ []) = signal_trees_formed known.net known.earlier (One tree) b.trees in
    let head = v.head in
    let trees = to_weak IsGoodLeaf known false (nodes tree) (not_weak_known known t.0) v.trees in
    (head.0, good_tested known (pos 1) 1 tree s (tree_known known (pos 1) tree k t.1) (good_one known tree trees))
signal_back known (Two tree second) k s f v =
    let b = f.0 in
    let t : AreSignalTrees known.net known.earlier (tree ∷ second ∷ []) = signal_trees_formed known.net known.earlier (Two tree second) b.trees in
    let head = v.head in
    let last = 1 + node_count tree in
    let first = tree_known known (pos 1) tree k t.1 in
    let trees = to_weak IsGoodLeaf known true (nodes tree ++ nodes second) (weak_known known t.0) v.trees in
    let both = good_two known tree second first trees in (
      head.0,
      hold_append (tree_tests (IsNodeOf known.net known.earlier (pos 1)) 1 [] tree) (tree_tests (IsNodeOf known.net known.earlier (negsuc 0)) last [] second)
          (good_tested known (pos 1) 1 tree s first both.0) (good_tested known (negsuc 0) last second s (tree_known known (negsuc 0) second k t.2) both.1),
    )
signal_back known p k s f v = let b = f.0 in absurd (signal_trees_formed known.net known.earlier p b.trees)

-- ---- what the records show

-- the trees of a proof: none, one, or two, by whether the network is weakly reversible
abbrev pub HasSignalTrees : Net → Earlier → Proof → Type 0
HasSignalTrees net earlier p = (p ≡ Nothing)
    ⊎ (((tree : Plan) × (p ≡ One tree) × (IsYes (on earlier Q4) → ⊥) × IsSignalTree net earlier tree)
    ⊎ ((tree : Plan) × (second : Plan) × (p ≡ Two tree second) × IsYes (on earlier Q4) × IsSignalTree net earlier tree × IsSignalTree net earlier second))

-- those of a formed answer
pub signal_trees : (net : Net) (earlier : Earlier) (v : Verdict) (p : Proof) → IsFormedOf net earlier Q13 v p → HasSignalTrees net earlier p
signal_trees net earlier No (One tree) f = let b = f.0 in let t = signal_trees_formed net earlier (One tree) b.trees in inr (inl (tree, refl, t.0, t.1))
signal_trees net earlier No (Two tree second) f = let b = f.0 in let t = signal_trees_formed net earlier (Two tree second) b.trees in inr (inr (tree, second, refl, t.0, t.1, t.2))
signal_trees net earlier No p f = let b = f.0 in absurd (signal_trees_formed net earlier p b.trees)
signal_trees net earlier (Unknown (Rests question)) p f = let b = f.0 in bare (λ (x : Proof). HasSignalTrees net earlier x) p b.trees f.1.1 (inl refl)
signal_trees net earlier v p f = let b = f.0 in bare (λ (x : Proof). HasSignalTrees net earlier x) p b.trees f.1.1 (inl refl)

no_more : (tree : Plan) (rs : List Record) → nodes tree ++ rs ≡ [] → ⊥
no_more tree rs e = by (nodes tree) (some_nodes tree) e
  where
    by : (ns : List Record) → (ns ≡ [] → ⊥) → ns ++ rs ≡ [] → ⊥
    by [] none same = none refl
    by (n ∷ ns) none same = cc

-- answers with the same nodes show the same
pub signals_shown : (known : Known) (p r : Proof) → IsStrong (on known.earlier Q2) → HasSignalTrees known.net known.earlier p → HasSignalTrees known.net known.earlier r → proof_nodes p ≡ proof_nodes r → shown p ≡ shown r
signals_shown known p r k (inl a) (inl b) n = ap shown (a ∙ sym b)
signals_shown known p r k (inl a) (inr (inl b)) n = absurd (some_nodes b.0 (sym (ap proof_nodes b.1) ∙ sym n ∙ ap proof_nodes a))
signals_shown known p r k (inl a) (inr (inr b)) n = absurd (no_more b.0 (nodes b.1) (sym (ap proof_nodes b.2) ∙ sym n ∙ ap proof_nodes a))
signals_shown known p r k (inr (inl a)) (inl b) n = absurd (some_nodes a.0 (sym (ap proof_nodes a.1) ∙ n ∙ ap proof_nodes b))
signals_shown known p r k (inr (inr a)) (inl b) n = absurd (no_more a.0 (nodes a.1) (sym (ap proof_nodes a.2) ∙ n ∙ ap proof_nodes b))
signals_shown known p r k (inr (inl a)) (inr (inr b)) n = absurd (let h : false ≡ true = sym (not_weak_known known a.2) ∙ weak_known known b.3 in cc)
signals_shown known p r k (inr (inr a)) (inr (inl b)) n = absurd (let h : true ≡ false = sym (weak_known known a.3) ∙ not_weak_known known b.2 in cc)
signals_shown known p r k (inr (inl a)) (inr (inl b)) n =
    let same : nodes a.0 ≡ nodes b.0 = sym (ap proof_nodes a.1) ∙ n ∙ ap proof_nodes b.1 in
    let one = plans_one (signal_problem known (pos 1)) (choices_of known) [] a.0 b.0 (at_root (choices_of known)) (tree_known known (pos 1) a.0 k a.3) (tree_known known (pos 1) b.0 k b.3) same in
    ap shown a.1 ∙ ap (λ t. (Nothing, t ∷ [])) one ∙ sym (ap shown b.1)
signals_shown known p r k (inr (inr a)) (inr (inr b)) n =
    let same : nodes a.0 ++ nodes a.1 ≡ nodes b.0 ++ nodes b.1 = sym (ap proof_nodes a.2) ∙ n ∙ ap proof_nodes b.2 in
    let f = tree_known known (pos 1) a.0 k a.4 in
    let g = tree_known known (pos 1) b.0 k b.4 in
    let apart = tree_apart (signal_problem known (pos 1)) (choices_of known) [] (nodes a.0) (nodes b.0) (nodes a.1) (nodes b.1) (tree_formed (signal_problem known (pos 1)) (choices_of known) [] a.0 (at_root (choices_of known)) f)
    (tree_formed (signal_problem known (pos 1)) (choices_of known) [] b.0 (at_root (choices_of known)) g) same in
    let one = plans_one (signal_problem known (pos 1)) (choices_of known) [] a.0 b.0 (at_root (choices_of known)) f g apart.0 in
    let two = plans_one (signal_problem known (negsuc 0)) (choices_of known) [] a.1 b.1 (at_root (choices_of known)) (tree_known known (negsuc 0) a.1 k a.5) (tree_known known (negsuc 0) b.1 k b.5) apart.1 in
    ap shown a.2 ∙ ap₂ (λ (t u : Plan). (Nothing, t ∷ u ∷ [])) one two ∙ sym (ap shown b.2)
