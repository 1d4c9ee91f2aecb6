-- How the visits of a prefix, of its children and of all below them end.
use Rattle.crn_sign.proofs.Prelude.{◌≡◌, ℕ, suc, ◌+◌, ◌<◌, List, [], ◌∷◌, ◌++◌, length, map, Bool, true, false, refl, sym, ap, subst, ◌∙◌, arith, append_assoc, append-nil, length-append, map-append, false≢true, Sign, cuts_exclude_solutions, IsSmallCut, TreeNode, Flat, Signed, IsFull, IsFeasible, children, all_zero, options_below, SolvesA, SolvesB, Visits, over, fallen, ended, opened, Passes, begun, below, Plan, Both, Three, RulesA, RulesB, places, Listed, ListedSplitTwo, ListedSplitThree, ListedCutA, ListedCutB, listed, preorder, visits_then, visits_ended, passes_at, passes_first, passes_then, same_tree, narrow_all, SearchEnd, FoundEnd, RefutedEnd, SpentEnd, Ending, Listing, Found, Refuted, Spent, IsFeasibleBy, IsOutcome, IsSearchEnd, IsTreeAt, EndsWith, EndsWithout, RunsOut, EndsAt, EndsBelow, HasTree, IsEndOf, IsFoundAt, IsLeafAt, Appends}
use Rattle.std.specs.Prelude.{ℤ}
use Rattle.crn_vec.specs.declared.signs.Sign.TheVariants.{Zero, Plus, Minus}
use Rattle.crn_cert.specs.Trees.{Level}

-- ---- nodes

-- one node is listed, if nodes are kept
pub record AppendsOne (old new : Listing) (one : Listed) : Type 0 where
  pub keeps : new.keeps ≡ old.keeps
  pub nodes : old.keeps ≡ true → map listed new.nodes.items ≡ map listed old.nodes.items ++ one ∷ []

pub appends_one : (old new : Listing) (node : TreeNode) (one : Listed) → listed node ≡ one → new.keeps ≡ old.keeps → (old.keeps ≡ true → new.nodes.items ≡ old.nodes.items ++ node ∷ []) → AppendsOne old new one
appends_one old new node one is same h = record {
  keeps = same;
  nodes = λ on. ap (λ (ns : List TreeNode). map listed ns) (h on) ∙ map-append listed old.nodes.items (node ∷ []) ∙ ap (λ (l : Listed). map listed old.nodes.items ++ l ∷ []) is;
}

-- the nodes of one tree after those of another
nodes_after : (old mid new : List TreeNode) (xs ys : List Listed) → map listed mid ≡ map listed old ++ xs → map listed new ≡ map listed mid ++ ys → map listed new ≡ map listed old ++ (xs ++ ys)
nodes_after old mid new xs ys first next = next ∙ ap (λ (l : List Listed). l ++ ys) first ∙ append_assoc (map listed old) xs ys

-- ---- one prefix

pub run_out : (w : Signed) (p : List Sign) (left : ℕ) → left ≡ 0 → RunsOut w (p ∷ []) left left
run_out w p left e = record { passes = passes_at w (p ∷ []) 0 left (sym e) begun; none = e }

leaf : (w : Signed) (p : List Sign) (left after : ℕ) → after + 1 ≡ left → ¬ (IsFeasible w p) → EndsWithout w (p ∷ []) (p ∷ []) left after
leaf w p left after e n = record { visits = fallen n over; count = omega (arith, e) }

-- where no nodes are kept nothing is listed
pub appends_none : (old : Listing) (one : Listed) → old.keeps ≡ false → AppendsOne old old one
appends_none old one off = record { keeps = refl; nodes = λ on. absurd (false≢true (sym off ∙ on)) }

-- the leaf of a closed prefix
pub leaf_flat : (w : Signed) (p : List Sign) (old new : Listing) → AppendsOne old new (listed Flat) → w.closed p ≡ true → IsLeafAt w p old new
leaf_flat w p old new one c = record {
  tree = Level;
  appends = record { keeps = one.keeps; nodes = one.nodes };
  tree_at = record { valid = c; narrow = tt };
  one = refl;
  none = λ s. false≢true (sym s.opened ∙ c);
}

-- a leaf by multipliers that rule a part out
pub leaf_a : (w : Signed) (p : List Sign) (u : List ℤ) (old new : Listing) → AppendsOne old new (ListedCutA u) → IsSmallCut w.matrix_a (w.kinds_a p) u → IsLeafAt w p old new
leaf_a w p u old new one c = record {
  tree = RulesA u;
  appends = record { keeps = one.keeps; nodes = one.nodes };
  tree_at = record { valid = c.cut; narrow = narrow_all u (λ k lt. c.small k) };
  one = refl;
  none = λ s. cuts_exclude_solutions w.matrix_a (w.kinds_a p) u s.part_a.0 c.cut s.part_a.1;
}

pub leaf_b : (w : Signed) (p : List Sign) (u : List ℤ) (old new : Listing) → AppendsOne old new (ListedCutB u) → IsSmallCut w.matrix_b (w.kinds_b p) u → IsLeafAt w p old new
leaf_b w p u old new one c = record {
  tree = RulesB u;
  appends = record { keeps = one.keeps; nodes = one.nodes };
  tree_at = record { valid = c.cut; narrow = narrow_all u (λ k lt. c.small k) };
  one = refl;
  none = λ s. cuts_exclude_solutions w.matrix_b (w.kinds_b p) u s.part_b.0 c.cut s.part_b.1;
}

pub leaf_at : (w : Signed) (p : List Sign) (left after : ℕ) (old new : Listing) → after + 1 ≡ left → IsLeafAt w p old new → EndsAt w p left after old new Refuted
leaf_at w p left after old new e l = (l.tree, l.appends, l.tree_at, subst (λ (ps : List (List Sign)). EndsWithout w (p ∷ []) ps left after) (sym l.one) (leaf w p left after e l.none))

feasible_by : (w : Signed) (p : List Sign) (a b : List ℤ) → IsFeasibleBy w p a b → IsFeasible w p
feasible_by w p a b s = record { opened = s.opened; part_a = (a, (s.part_a.v, s.part_a.solves)); part_b = (b, (s.part_b.v, s.part_b.solves)) }

pub found_at : (w : Signed) (p : List Sign) (left after : ℕ) (old new : Listing) (e : Ending) → after + 1 ≡ left → IsFoundAt w p e → EndsAt w p left after old new e
found_at w p left after old new (Found f) n h =
    let C : List Sign → Type 0 = λ t. IsFeasibleBy w t f.value.a.list f.value.b.list × EndsWith w (p ∷ []) left after t in
    subst C (sym h.0) (h.1, record { before = []; visits = ended (feasible_by w p f.value.a.list f.value.b.list h.1) h.1.full; count = omega (arith, n) })
found_at w p left after old new Refuted n h = absurd h
found_at w p left after old new Spent n h = absurd h

-- from what is visited below a feasible prefix to what is visited with it
pub opened_at : (w : Signed) (p : List Sign) (left mid after : ℕ) (old new : Listing) (e : Ending) → mid + 1 ≡ left → IsFeasible w p → ¬ (IsFull w p) → EndsBelow w p mid after old new e → EndsAt w p left after old new e
opened_at w p left mid after old new (Found g) n s f h = (
  h.0,
  record {
    before = p ∷ h.1.before;
    visits = opened s f (subst (λ (t : List (List Sign)). Visits w t (h.1.before ++ g.value.pattern ∷ []) true) (sym (append-nil (children p))) h.1.visits);
    count = omega (arith, n, h.1.count);
  },
)
opened_at w p left mid after old new Refuted n s f h =
    let b = h.3 in
    let g = b.ends in
    let rest = b.rest in (
      h.0,
      h.1,
      h.2,
      subst (λ (l : List (List Sign)). EndsWithout w (p ∷ []) l left after) (sym b.places_are) (record {
        visits = opened s f (subst (λ (t : List (List Sign)). Visits w t rest false) (sym (append-nil (children p))) g.visits);
        count = omega (arith, n, g.count);
      }),
    )
opened_at w p left mid after old new Spent n s f h = record {
  passes = passes_at w (p ∷ []) (suc mid) left (omega (arith, n)) (below s f (subst (λ (t : List (List Sign)). Passes w t mid) (sym (append-nil (children p))) h.passes));
  none = h.none;
}

-- ---- one prefix after another

-- an end other than a tree
abbrev pub EndsEarly : Signed → List (List Sign) → ℕ → ℕ → Ending → Type 0
EndsEarly w due left after (Found f) = IsFeasibleBy w f.value.pattern f.value.a.list f.value.b.list × EndsWith w due left after f.value.pattern
EndsEarly w due left after Refuted = ⊥
EndsEarly w due left after Spent = RunsOut w due left after

pub early_first : (w : Signed) (c : List Sign) (rest : List (List Sign)) (left after : ℕ) (old new : Listing) (e : Ending) → ¬ (e ≡ Refuted) → EndsAt w c left after old new e → EndsEarly w (c ∷ rest) left after e
early_first w c rest left after old new (Found f) n h = (h.0, record { before = h.1.before; visits = visits_ended w (c ∷ []) (h.1.before ++ f.value.pattern ∷ []) rest true h.1.visits refl; count = h.1.count })
early_first w c rest left after old new Refuted n h = absurd (n refl)
early_first w c rest left after old new Spent n h = record { passes = passes_first w (c ∷ []) rest left h.passes; none = h.none }

pub early_then : (w : Signed) (c : List Sign) (rest list : List (List Sign)) (left mid after : ℕ) (e : Ending) → EndsWithout w (c ∷ []) list left mid → EndsEarly w rest mid after e → EndsEarly w (c ∷ rest) left after e
early_then w c rest list left mid after (Found f) v h = (
  h.0,
  record {
    before = list ++ h.1.before;
    visits = subst (λ (l : List (List Sign)). Visits w (c ∷ rest) l true) (sym (append_assoc list h.1.before (f.value.pattern ∷ []))) (visits_then w (c ∷ []) list rest (h.1.before ++ f.value.pattern ∷ []) false true v.visits refl h.1.visits);
    count = omega (arith, v.count, h.1.count, ap length (append_assoc list h.1.before (f.value.pattern ∷ [])), length-append list (h.1.before ++ f.value.pattern ∷ []));
  },
)
early_then w c rest list left mid after Refuted v h = absurd h
early_then w c rest list left mid after Spent v h = record { passes = passes_at w (c ∷ rest) (length list + mid) left v.count (passes_then w (c ∷ []) rest list false mid v.visits refl h.passes); none = h.none }

without_then : (w : Signed) (c : List Sign) (rest xs ys : List (List Sign)) (left mid after : ℕ) → EndsWithout w (c ∷ []) xs left mid → EndsWithout w rest ys mid after → EndsWithout w (c ∷ rest) (xs ++ ys) left after
without_then w c rest xs ys left mid after v u = record {
  visits = visits_then w (c ∷ []) xs rest ys false false v.visits refl u.visits;
  count = omega (arith, v.count, u.count, length-append xs ys);
}

-- the tree of a child, whose nodes are listed if nodes are kept
pub record IsChildTree (w : Signed) (c : List Sign) (left after : ℕ) (old new : Listing) : Type 0 where
  pub tree : Plan
  pub appends : Appends old new tree
  pub tree_at : IsTreeAt w c tree
  pub ends : EndsWithout w (c ∷ []) (places c tree) left after

pub child_tree : (w : Signed) (c : List Sign) (left after : ℕ) (old new : Listing) (e : Ending) → EndsAt w c left after old new e → e ≡ Refuted → IsChildTree w c left after old new
child_tree w c left after old new e h is =
    let q = subst (λ (x : Ending). EndsAt w c left after old new x) is h in
    record { tree = q.0; appends = q.1; tree_at = q.2; ends = q.3 }

-- ---- the children of a prefix

abbrev pub with : List Sign → Sign → List Sign
with p s = p ++ s ∷ []

pub children_zero : (p : List Sign) → all_zero p ≡ true → children p ≡ with p Zero ∷ with p Plus ∷ []
children_zero p e = ap (λ (b : Bool). map (λ s. p ++ s ∷ []) (options_below b)) e

pub children_some : (p : List Sign) → all_zero p ≡ false → children p ≡ with p Zero ∷ with p Plus ∷ with p Minus ∷ []
children_some p e = ap (λ (b : Bool). map (λ s. p ++ s ∷ []) (options_below b)) e

pub record BeginsTwo (p : List Sign) : Type 0 where
  pub rest : List (List Sign)
  pub is : children p ≡ with p Zero ∷ with p Plus ∷ rest

pub children_two : (p : List Sign) → BeginsTwo p
children_two p = by (all_zero p) refl
  where
    by : (b : Bool) → all_zero p ≡ b → BeginsTwo p
    by true e = record { rest = []; is = children_zero p e }
    by false e = record { rest = with p Minus ∷ []; is = children_some p e }

below_early : (w : Signed) (p : List Sign) (due : List (List Sign)) (left after : ℕ) (old new : Listing) (e : Ending) → children p ≡ due → EndsEarly w due left after e → EndsBelow w p left after old new e
below_early w p due left after old new (Found f) is h = (h.0, subst (λ (d : List (List Sign)). EndsWith w d left after f.value.pattern) (sym is) h.1)
below_early w p due left after old new Refuted is h = absurd h
below_early w p due left after old new Spent is h = subst (λ (d : List (List Sign)). RunsOut w d left after) (sym is) h

-- an end at the first child, at the second, and at the third
pub first_child : (w : Signed) (p : List Sign) (left after : ℕ) (old root new : Listing) (e : Ending) → ¬ (e ≡ Refuted) → EndsAt w (with p Zero) left after root new e → EndsBelow w p left after old new e
first_child w p left after old root new e n h =
    let two = children_two p in
    below_early w p (with p Zero ∷ with p Plus ∷ two.rest) left after old new e two.is (early_first w (with p Zero) (with p Plus ∷ two.rest) left after root new e n h)

pub second_child : (w : Signed) (p : List Sign) (left mid after : ℕ) (old root first new : Listing) (e : Ending) → IsChildTree w (with p Zero) left mid root first → ¬ (e ≡ Refuted) → EndsAt w (with p Plus) mid after first new e
    → EndsBelow w p left after old new e
second_child w p left mid after old root first new e zt n h =
    let two = children_two p in
    below_early w p (with p Zero ∷ with p Plus ∷ two.rest) left after old new e two.is
    (early_then w (with p Zero) (with p Plus ∷ two.rest) (places (with p Zero) zt.tree) left mid after e zt.ends (early_first w (with p Plus) two.rest mid after first new e n h))

pub both_trees : (w : Signed) (p : List Sign) (left mid after : ℕ) (old root first new : Listing) → AppendsOne old root ListedSplitTwo → length p < w.choices → all_zero p ≡ true
    → IsChildTree w (with p Zero) left mid root first → IsChildTree w (with p Plus) mid after first new → EndsBelow w p left after old new Refuted
both_trees w p left mid after old root first new one lt zeros zt qt = (
  Both zt.tree qt.tree,
  record {
    keeps = qt.appends.keeps ∙ zt.appends.keeps ∙ one.keeps;
    nodes = λ on. nodes_after old.nodes.items root.nodes.items new.nodes.items (ListedSplitTwo ∷ []) (preorder zt.tree ++ preorder qt.tree) (one.nodes on)
        (nodes_after root.nodes.items first.nodes.items new.nodes.items (preorder zt.tree) (preorder qt.tree) (zt.appends.nodes (one.keeps ∙ on)) (qt.appends.nodes (zt.appends.keeps ∙ one.keeps ∙ on)));
  },
  record { valid = (lt, zeros, zt.tree_at.valid, qt.tree_at.valid); narrow = (zt.tree_at.narrow, qt.tree_at.narrow) },
  record {
    rest = places (with p Zero) zt.tree ++ places (with p Plus) qt.tree;
    places_are = refl;
    ends = subst (λ (d : List (List Sign)). EndsWithout w d (places (with p Zero) zt.tree ++ places (with p Plus) qt.tree) left after) (sym (children_zero p zeros))
        (without_then w (with p Zero) (with p Plus ∷ []) (places (with p Zero) zt.tree) (places (with p Plus) qt.tree) left mid after zt.ends qt.ends);
  },
)

three_trees : (w : Signed) (p : List Sign) (left mid high after : ℕ) (old root first second new : Listing) → AppendsOne old root ListedSplitThree → length p < w.choices → all_zero p ≡ false
    → IsChildTree w (with p Zero) left mid root first → IsChildTree w (with p Plus) mid high first second → IsChildTree w (with p Minus) high after second new → EndsBelow w p left after old new Refuted
three_trees w p left mid high after old root first second new one lt some zt qt mt =
    let zs = places (with p Zero) zt.tree in
    let qs = places (with p Plus) qt.tree in
    let ms = places (with p Minus) mt.tree in
    let zl = preorder zt.tree in
    let ql = preorder qt.tree in
    let ml = preorder mt.tree in
    let all = without_then w (with p Zero) (with p Plus ∷ with p Minus ∷ []) zs (qs ++ ms) left mid after zt.ends (without_then w (with p Plus) (with p Minus ∷ []) qs ms mid high after qt.ends mt.ends) in (
      Three zt.tree qt.tree mt.tree,
      record {
        keeps = mt.appends.keeps ∙ qt.appends.keeps ∙ zt.appends.keeps ∙ one.keeps;
        nodes = λ on. nodes_after old.nodes.items root.nodes.items new.nodes.items (ListedSplitThree ∷ []) (zl ++ ql ++ ml) (one.nodes on)
            (nodes_after root.nodes.items second.nodes.items new.nodes.items (zl ++ ql) ml
            (nodes_after root.nodes.items first.nodes.items second.nodes.items zl ql (zt.appends.nodes (one.keeps ∙ on)) (qt.appends.nodes (zt.appends.keeps ∙ one.keeps ∙ on)))
            (mt.appends.nodes (qt.appends.keeps ∙ zt.appends.keeps ∙ one.keeps ∙ on)));
      },
      record { valid = (lt, some, zt.tree_at.valid, qt.tree_at.valid, mt.tree_at.valid); narrow = (zt.tree_at.narrow, qt.tree_at.narrow, mt.tree_at.narrow) },
      record {
        rest = zs ++ qs ++ ms;
        places_are = refl;
        ends = subst (λ (d : List (List Sign)). EndsWithout w d (zs ++ qs ++ ms) left after) (sym (children_some p some))
            (subst (λ (l : List (List Sign)). EndsWithout w (with p Zero ∷ with p Plus ∷ with p Minus ∷ []) l left after) (sym (append_assoc zs qs ms)) all);
      },
    )

third_early : (w : Signed) (p : List Sign) (left mid high after : ℕ) (old root first second new : Listing) (e : Ending) → all_zero p ≡ false
    → IsChildTree w (with p Zero) left mid root first → IsChildTree w (with p Plus) mid high first second → ¬ (e ≡ Refuted) → EndsAt w (with p Minus) high after second new e → EndsBelow w p left after old new e
third_early w p left mid high after old root first second new e some zt qt n h =
    below_early w p (with p Zero ∷ with p Plus ∷ with p Minus ∷ []) left after old new e (children_some p some)
    (early_then w (with p Zero) (with p Plus ∷ with p Minus ∷ []) (places (with p Zero) zt.tree) left mid after e zt.ends
    (early_then w (with p Plus) (with p Minus ∷ []) (places (with p Plus) qt.tree) mid high after e qt.ends (early_first w (with p Minus) [] high after second new e n h)))

pub third_child : (w : Signed) (p : List Sign) (left mid high after : ℕ) (old root first second new : Listing) (e : Ending) → AppendsOne old root ListedSplitThree → length p < w.choices → all_zero p ≡ false
    → IsChildTree w (with p Zero) left mid root first → IsChildTree w (with p Plus) mid high first second → EndsAt w (with p Minus) high after second new e → EndsBelow w p left after old new e
third_child w p left mid high after old root first second new (Found f) one lt some zt qt h = third_early w p left mid high after old root first second new (Found f) some zt qt (λ (r : Found f ≡ Refuted). cc) h
third_child w p left mid high after old root first second new Refuted one lt some zt qt h = three_trees w p left mid high after old root first second new one lt some zt qt (child_tree w (with p Minus) high after second new Refuted h refl)
third_child w p left mid high after old root first second new Spent one lt some zt qt h = third_early w p left mid high after old root first second new Spent some zt qt (λ (r : Spent ≡ Refuted). cc) h

-- a prefix that is not closed, and neither of whose parts is ruled out, is feasible
pub feasible_from : (w : Signed) (p q : List Sign) → q ≡ p → w.closed p ≡ false → ((x : List ℤ) × SolvesB w p x) → ((x : List ℤ) × SolvesA w q x) → IsFeasible w p
feasible_from w p q e c b a = record { opened = c; part_a = (a.0, subst (λ (t : List Sign). SolvesA w t a.0) e a.1); part_b = b }

-- ---- the end of the search

-- a listing that began with no nodes has those of the tree alone
all_nodes : (old new : Listing) (tree : Plan) → old.keeps ≡ true → old.nodes.items ≡ [] → Appends old new tree → map listed new.nodes.items ≡ preorder tree
all_nodes old new tree on none h = h.nodes on ∙ ap (λ (ns : List TreeNode). map listed ns ++ preorder tree) none

-- the end of the visits of the prefix with no choice leaves the nodes of a tree, if it is one and nodes are kept
pub has_tree : (w : Signed) (budget after : ℕ) (old new : Listing) (e : Ending) → old.keeps ≡ true → old.nodes.items ≡ [] → EndsAt w [] budget after old new e → HasTree e new.nodes.items
has_tree w budget after old new (Found f) on none h = tt
has_tree w budget after old new Refuted on none h = (h.0, all_nodes old new h.0 on none h.1)
has_tree w budget after old new Spent on none h = tt

-- and it is that of the search
pub search_end : (w : Signed) (budget after : ℕ) (keeps : Bool) (old new : Listing) (e : Ending) (end : SearchEnd) → IsEndOf keeps e new.nodes.items end → old.keeps ≡ keeps → old.nodes.items ≡ [] → EndsAt w [] budget after old new e → IsOutcome w budget keeps end
search_end w budget after true old new (Found f) end is on none h = subst (λ (x : SearchEnd). IsSearchEnd w budget x) (sym is) (h.0, h.1.before, h.1.visits, omega (arith, h.1.count))
search_end w budget after true old new Refuted end is on none h =
    let same : h.0 ≡ is.0 = same_tree h.0 is.0 new.nodes.items (all_nodes old new h.0 on none h.1) is.2 in
    subst (λ (x : SearchEnd). IsSearchEnd w budget x) (ap RefutedEnd same ∙ sym is.1) (h.2, h.3.visits, omega (arith, h.3.count))
search_end w budget after true old new Spent end is on none h = subst (λ (x : SearchEnd). IsSearchEnd w budget x) (sym is) h.passes
search_end w budget after false old new (Found f) end is on none h = (FoundEnd f.value.pattern f.value.a f.value.b, is, (h.0, h.1.before, h.1.visits, omega (arith, h.1.count)))
search_end w budget after false old new Refuted end is on none h = (RefutedEnd h.0, is, (h.2, h.3.visits, omega (arith, h.3.count)))
search_end w budget after false old new Spent end is on none h = (SpentEnd, is, h.passes)
