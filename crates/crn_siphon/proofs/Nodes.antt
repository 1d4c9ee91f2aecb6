-- Trees as lists of nodes in preorder.
use Rattle.crn_siphon.proofs.Prelude.{KeptInts, weights_of, map-append, take_more, ◌≡◌, ℕ, zero, suc, ◌+◌, ◌<◌, ◌≤◌, List, [], ◌∷◌, ◌++◌, length, get_or, take, refl, sym, ap, ap₂, subst, ◌∙◌, arith, ℤ, get_or-append, append-nil, append_assoc, get_or_push, length-append, Plan, PlanFork, PlanBad, PlanLaw, PlanVoid, Fact, Node, Fork, LawAt, Void, Search, Net, all_at, all_push, any_default, SpeciesSet, IsWithin, AreCovers, AreLaws, HasMore, IsCoverIn, IsCoverOf, IsFactAt, IsLawIn, IsLawWithin, IsNodeAt, IsLeaf, HasLeafAt, Lists, HasGrown, Listed, ListedFork, ListedLaw, AreNodesOf, listed, preorder, first_tree, trees_of, plan_back, map, drop, drop_more, drop_all, get_or-map}

-- ---- longer lists

pub more_same : {A : Type 0} (list : List A) → HasMore list list
more_same {A} list = ([], sym (append-nil list))

pub more_then : {A : Type 0} (list longer longest : List A) → HasMore list longer → HasMore longer longest → HasMore list longest
more_then {A} list longer longest h more = (h.0 ++ more.0, more.1 ∙ ap (λ (l : List A). l ++ more.0) h.1 ∙ append_assoc list h.0 more.0)

pub more_at : {A : Type 0} (list longer : List A) (k : ℕ) (none : A) → HasMore list longer → k < length list → get_or longer k none ≡ get_or list k none
more_at {A} list longer k none h lt = ap (λ (l : List A). get_or l k none) h.1 ∙ get_or-append list h.0 none k lt

pub more_long : {A : Type 0} (list longer : List A) → HasMore list longer → length list ≤ length longer
more_long {A} list longer h = omega (arith, ap (λ (l : List A). length l) h.1, length-append list h.0)

pub grown_then : (a b c : Search) → HasGrown a b → HasGrown b c → HasGrown a c
grown_then a b c h more = record {
  laws = more_then a.known.laws.items b.known.laws.items c.known.laws.items h.laws more.laws;
  nodes = more_then a.nodes.items b.nodes.items c.nodes.items h.nodes more.nodes;
}

pub grown_same : (a : Search) → HasGrown a a
grown_same a = record { laws = more_same a.known.laws.items; nodes = more_same a.nodes.items }

-- ---- a tree stays where it is as the lists get longer

pub node_more : (nodes others : List Node) (at : ℕ) (node : Node) → HasMore nodes others → IsNodeAt nodes at node → IsNodeAt others at node
node_more nodes others at node h is = record {
  inside = omega (arith, is.inside, more_long nodes others h);
  is = more_at nodes others at Void h is.inside ∙ is.is;
}

law_more : (laws others : List Fact) (k : ℕ) (weights : List ℤ) → HasMore laws others → IsFactAt laws k weights → IsFactAt others k weights
law_more laws others k weights h is = record {
  inside = omega (arith, is.inside, more_long laws others h);
  is = λ none. ap (λ (l : Fact). l.numbers.list) (more_at laws others k none h is.inside) ∙ (let same = is.is in same none);
}

leaf_more : (laws others : List Fact) (tree : Plan) (node : Node) → HasMore laws others → IsLeaf laws tree node → IsLeaf others tree node
leaf_more laws others (PlanFork inside outside) node h is = absurd is
leaf_more laws others (PlanBad r) node h is = is
leaf_more laws others (PlanLaw weights) node h is = (is.0, is.1, law_more laws others is.0 weights h is.2)
leaf_more laws others PlanVoid node h is = is

leaf_at_more : (laws others : List Fact) (nodes longer : List Node) (tree : Plan) (at end : ℕ) → HasMore laws others → HasMore nodes longer → HasLeafAt laws nodes tree at end → HasLeafAt others longer tree at end
leaf_at_more laws others nodes longer tree at end h more is = ((is.0.0, node_more nodes longer at is.0.0 more is.0.1, leaf_more laws others tree is.0.0 h is.0.2), is.1)

pub lists_more : (laws others : List Fact) (nodes longer : List Node) (tree : Plan) (at end : ℕ) → HasMore laws others → HasMore nodes longer → Lists laws nodes tree at end → Lists others longer tree at end
lists_more laws others nodes longer (PlanFork inside outside) at end h more is = (
  node_more nodes longer at Fork more is.0,
  (is.1.0, lists_more laws others nodes longer inside (at + 1) is.1.0 h more is.1.1, lists_more laws others nodes longer outside is.1.0 end h more is.1.2),
)
lists_more laws others nodes longer (PlanBad r) at end h more is = leaf_at_more laws others nodes longer (PlanBad r) at end h more is
lists_more laws others nodes longer (PlanLaw weights) at end h more is = leaf_at_more laws others nodes longer (PlanLaw weights) at end h more is
lists_more laws others nodes longer PlanVoid at end h more is = leaf_at_more laws others nodes longer PlanVoid at end h more is

-- a fact at the end of the list
pub fact_put : (facts longer : List Fact) (f : Fact) (k : ℕ) → longer ≡ facts ++ f ∷ [] → k ≡ length facts → IsFactAt longer k f.numbers.list
fact_put facts longer f k e at = record {
  inside = omega (arith, ap (λ (l : List Fact). length l) e, length-append facts (f ∷ []), at);
  is = λ none. ap (λ (l : List Fact). (get_or l k none).numbers.list) e ∙ ap (λ (x : Fact). x.numbers.list) (get_or_push facts f none k (sym at));
}

-- a known law whose species are all in the set
pub law_within_by : (net : Net) (set : SpeciesSet) (laws : List Fact) (k : ℕ) (d : Fact) → AreLaws net laws → k < length laws → IsWithin (get_or laws k d).species set → IsLawWithin net set laws k
law_within_by net set laws k d h lt all =
    let one : IsLawIn net (get_or laws k d).species (get_or laws k d).numbers.list = all_at (λ (law : Fact). IsLawIn net law.species law.numbers.list) laws k d h lt in (
      (get_or laws k d).numbers.list,
      record { inside = lt; is = λ none. ap (λ (law : Fact). law.numbers.list) (any_default none d laws k lt) },
      record { free = one.free; law = one.law; within = λ s some. all s (one.within s some) },
    )

-- known numbers that increase each member of the set
pub cover_of_by : (net : Net) (set : SpeciesSet) (covers : List Fact) (k : ℕ) (d : Fact) → AreCovers net covers → k < length covers → IsWithin set (get_or covers k d).species → IsCoverOf net set covers k
cover_of_by net set covers k d h lt all =
    let one : IsCoverIn net (get_or covers k d).species (get_or covers k d).numbers.list = all_at (λ (cover : Fact). IsCoverIn net cover.species cover.numbers.list) covers k d h lt in (
      (get_or covers k d).numbers.list,
      record { inside = lt; is = λ none. ap (λ (cover : Fact). cover.numbers.list) (any_default none d covers k lt) },
      record { free = one.free; increased = λ s inside has. (let up = one.increased in up s inside (all s has)) },
    )

-- one law more
pub laws_put : (net : Net) (laws longer : List Fact) (law : Fact) → longer ≡ laws ++ law ∷ [] → AreLaws net laws → IsLawIn net law.species law.numbers.list → AreLaws net longer
laws_put net laws longer law e h one = subst (λ (l : List Fact). AreLaws net l) (sym e) (all_push (λ (x : Fact). IsLawIn net x.species x.numbers.list) laws law h one)

-- numbers more
pub covers_put : (net : Net) (covers longer : List Fact) (cover : Fact) → longer ≡ covers ++ cover ∷ [] → AreCovers net covers → IsCoverIn net cover.species cover.numbers.list → AreCovers net longer
covers_put net covers longer cover e h one = subst (λ (l : List Fact). AreCovers net l) (sym e) (all_push (λ (x : Fact). IsCoverIn net x.species x.numbers.list) covers cover h one)

-- the first of the covers
pub covers_taken : (net : Net) (n : ℕ) (covers : List Fact) → AreCovers net covers → AreCovers net (take n covers)
covers_taken net zero covers h = tt
covers_taken net (suc n) [] h = tt
covers_taken net (suc n) (cover ∷ covers) h = (h.0, covers_taken net n covers h.1)

-- ---- a node at the end

pub pushed : (nodes longer : List Node) (node : Node) → longer ≡ nodes ++ node ∷ [] → IsNodeAt longer (length nodes) node × (length longer ≡ length nodes + 1)
pushed nodes longer node e =
    let long : length longer ≡ length nodes + 1 = ap (λ (l : List Node). length l) e ∙ length-append nodes (node ∷ []) in
    (record { inside = omega (arith, long); is = ap (λ (l : List Node). get_or l (length nodes) Void) e ∙ get_or_push nodes node Void (length nodes) refl }, long)

-- a leaf at the end is a tree
pub leaf_put : (laws : List Fact) (nodes longer : List Node) (tree : Plan) (node : Node) → longer ≡ nodes ++ node ∷ [] → IsLeaf laws tree node → Lists laws longer tree (length nodes) (length longer)
leaf_put laws nodes longer (PlanFork inside outside) node e is = absurd is
leaf_put laws nodes longer (PlanBad r) node e is = ((node, (pushed nodes longer node e).0, is), (pushed nodes longer node e).1)
leaf_put laws nodes longer (PlanLaw weights) node e is = ((node, (pushed nodes longer node e).0, is), (pushed nodes longer node e).1)
leaf_put laws nodes longer PlanVoid node e is = ((node, (pushed nodes longer node e).0, is), (pushed nodes longer node e).1)

-- a fork, and then the nodes of two trees
pub fork_put : (laws : List Fact) (nodes forked longer : List Node) (inside outside : Plan) (mid end : ℕ) → forked ≡ nodes ++ Fork ∷ [] → HasMore forked longer → Lists laws longer inside (length forked) mid → Lists laws longer outside mid end
    → Lists laws longer (PlanFork inside outside) (length nodes) end
fork_put laws nodes forked longer inside outside mid end e more first second = (
  node_more forked longer (length nodes) Fork more (pushed nodes forked Fork e).0,
  (mid, subst (λ (at : ℕ). Lists laws longer inside at mid) (pushed nodes forked Fork e).1 first, second),
)

-- ---- the list of a tree

none_inside : (k : ℕ) → k < 0 → ⊥
none_inside k h = omega (arith, h)

law_numbers : (laws : List Fact) (k : ℕ) (weights : List ℤ) → IsFactAt laws k weights → get_or (map (λ (law : Fact). law.numbers.list) laws) k [] ≡ weights
law_numbers [] k weights h = absurd (none_inside k h.inside)
law_numbers (law ∷ laws) k weights h = get_or-map (λ (f : Fact). f.numbers.list) (law ∷ laws) k law [] h.inside ∙ (let is = h.is in is law)

-- the weights of the laws
abbrev pub all_weights : List Fact → List (List ℤ)
all_weights laws = map (λ (law : Fact). law.numbers.list) laws

leaf_listed : (laws : List Fact) (tree : Plan) (node : Node) → IsLeaf laws tree node → listed (all_weights laws) node ∷ [] ≡ preorder tree
leaf_listed laws (PlanFork inside outside) node h = absurd h
leaf_listed laws (PlanBad r) node h = ap (λ (n : Node). listed (all_weights laws) n ∷ []) h
leaf_listed laws (PlanLaw weights) node h = ap (λ (n : Node). listed (all_weights laws) n ∷ []) h.1 ∙ ap (λ (w : List ℤ). ListedLaw w ∷ []) (law_numbers laws h.0 weights h.2)
leaf_listed laws PlanVoid node h = ap (λ (n : Node). listed (all_weights laws) n ∷ []) h

-- the nodes from a place on, as they are listed
abbrev listed_from : List Fact → List Node → (at : ℕ) → List Listed
listed_from laws nodes at = map (listed (all_weights laws)) (drop at nodes)

node_from : (laws : List Fact) (nodes : List Node) (at : ℕ) (node : Node) → IsNodeAt nodes at node → listed_from laws nodes at ≡ listed (all_weights laws) node ∷ listed_from laws nodes (at + 1)
node_from laws nodes at node h = ap (map (listed (all_weights laws))) (drop_more nodes at Void h.inside ∙ ap (λ (n : Node). n ∷ drop (at + 1) nodes) h.is)

leaf_from : (laws : List Fact) (nodes : List Node) (tree : Plan) (at end : ℕ) → HasLeafAt laws nodes tree at end → listed_from laws nodes at ≡ preorder tree ++ listed_from laws nodes end
leaf_from laws nodes tree at end h = node_from laws nodes at h.0.0 h.0.1 ∙ ap₂ (λ (x y : List Listed). x ++ y) (leaf_listed laws tree h.0.0 h.0.2) (ap (listed_from laws nodes) (sym h.1))

tree_from : (laws : List Fact) (nodes : List Node) (tree : Plan) (at end : ℕ) → Lists laws nodes tree at end → listed_from laws nodes at ≡ preorder tree ++ listed_from laws nodes end
tree_from laws nodes (PlanFork inside outside) at end h =
    node_from laws nodes at Fork h.0
    ∙ ap (λ (l : List Listed). ListedFork ∷ l) (tree_from laws nodes inside (at + 1) h.1.0 h.1.1 ∙ ap (λ (l : List Listed). preorder inside ++ l) (tree_from laws nodes outside h.1.0 end h.1.2) ∙ sym (append_assoc (preorder inside) (preorder outside) (listed_from laws nodes end)))
tree_from laws nodes (PlanBad r) at end h = leaf_from laws nodes (PlanBad r) at end h
tree_from laws nodes (PlanLaw weights) at end h = leaf_from laws nodes (PlanLaw weights) at end h
tree_from laws nodes PlanVoid at end h = leaf_from laws nodes PlanVoid at end h

-- all nodes are those of the tree
pub tree_nodes : (laws : List Fact) (nodes : List Node) (tree : Plan) (end : ℕ) → length nodes ≤ end → Lists laws nodes tree 0 end → AreNodesOf tree (all_weights laws) nodes
tree_nodes laws nodes tree end long h = tree_from laws nodes tree 0 end h ∙ ap (λ (l : List Node). preorder tree ++ map (listed (all_weights laws)) l) (drop_all end nodes long) ∙ append-nil (preorder tree)

-- the weights of one law more
pub weights_put : (made longer : List KeptInts) (one : KeptInts) (laws : List Fact) (k : ℕ) (d : Fact) → longer ≡ made ++ one ∷ [] → weights_of made ≡ all_weights (take k laws) → one.list ≡ (get_or laws k d).numbers.list → k < length laws → weights_of longer ≡ all_weights (take (k + 1) laws)
weights_put made longer one laws k d e same is lt =
    ap weights_of e ∙ map-append (λ (x : KeptInts). x.list) made (one ∷ []) ∙ ap₂ (λ (x y : List (List ℤ)). x ++ y) same (ap (λ (w : List ℤ). w ∷ []) is)
    ∙ sym (map-append (λ (f : Fact). f.numbers.list) (take k laws) (get_or laws k d ∷ [])) ∙ ap all_weights (sym (take_more laws k d lt))

-- nodes are those of one tree
pub same_tree : (tree other : Plan) (weights : List (List ℤ)) (nodes : List Node) → AreNodesOf tree weights nodes → AreNodesOf other weights nodes → tree ≡ other
same_tree tree other weights nodes a b = sym (plan_back tree) ∙ ap (λ (l : List Listed). first_tree (trees_of l)) (sym a ∙ b) ∙ plan_back other
