-- The nodes that leave nothing due are just those of a valid tree.
use Rattle.crn_ctree.proofs.Prelude.{◌≡◌, ℕ, zero, suc, ◌<◌, List, [], ◌∷◌, ◌++◌, length, map, Bool, true, false, refl, sym, ap, subst, ◌∙◌, arith, append_assoc, append-nil, Sign, Zero, Plus, Minus, Signed, children, all_zero, options_below, Plan, Both, Three, RulesA, RulesB, Level, IsValid, Said, Splits, Flats, CutsA, CutsB, nodes, Passing, done, then, AreThoseOfTrees}

pub passing_then : (w : Signed) (due mid last : List (List Sign)) (xs ys : List Said) → Passing w due xs mid → Passing w mid ys last → Passing w due (xs ++ ys) last
passing_then w due mid last xs ys done h = h
passing_then w due mid last xs ys (then f g) h = then f (passing_then w _ mid last _ ys g h)

pub children_zero : (p : List Sign) (rest : List (List Sign)) → all_zero p ≡ true → children p ++ rest ≡ (p ++ Zero ∷ []) ∷ (p ++ Plus ∷ []) ∷ rest
children_zero p rest e = ap (λ (b : Bool). map (λ s. p ++ s ∷ []) (options_below b) ++ rest) e

pub children_some : (p : List Sign) (rest : List (List Sign)) → all_zero p ≡ false → children p ++ rest ≡ (p ++ Zero ∷ []) ∷ (p ++ Plus ∷ []) ∷ (p ++ Minus ∷ []) ∷ rest
children_some p rest e = ap (λ (b : Bool). map (λ s. p ++ s ∷ []) (options_below b) ++ rest) e

-- a valid tree's nodes pass, and leave what was due after it
pub valid_passes : (w : Signed) (tree : Plan) (p : List Sign) (rest : List (List Sign)) → IsValid w p tree → Passing w (p ∷ rest) (nodes tree) rest
valid_passes w (RulesA u) p rest v = then v done
valid_passes w (RulesB u) p rest v = then v done
valid_passes w Level p rest v = then v done
valid_passes w (Both z q) p rest v =
    let a = valid_passes w z (p ++ Zero ∷ []) ((p ++ Plus ∷ []) ∷ rest) v.2 in
    let b = valid_passes w q (p ++ Plus ∷ []) rest v.3 in
    then v.0 (subst (λ (d : List (List Sign)). Passing w d (nodes z ++ nodes q) rest) (sym (children_zero p rest v.1)) (passing_then w _ _ _ (nodes z) (nodes q) a b))
valid_passes w (Three z q m) p rest v =
    let a = valid_passes w z (p ++ Zero ∷ []) ((p ++ Plus ∷ []) ∷ (p ++ Minus ∷ []) ∷ rest) v.2 in
    let b = valid_passes w q (p ++ Plus ∷ []) ((p ++ Minus ∷ []) ∷ rest) v.3 in
    let c = valid_passes w m (p ++ Minus ∷ []) rest v.4 in
    then v.0 (subst (λ (d : List (List Sign)). Passing w d (nodes z ++ nodes q ++ nodes m) rest) (sym (children_some p rest v.1))
    (passing_then w _ _ _ (nodes z ++ nodes q) (nodes m) (passing_then w _ _ _ (nodes z) (nodes q) a b) c))

-- ---- the other way: nodes that pass until nothing is due are those of one valid tree after another

-- the nodes of the first prefix that is due, and those after them
pub record FirstTree (w : Signed) (p : List Sign) (rest : List (List Sign)) (said : List Said) : Type 0 where
  pub tree : Plan
  pub more : List Said
  pub valid : IsValid w p tree
  pub are : said ≡ nodes tree ++ more
  pub passes : Passing w rest more []
  pub fewer : length more < length said

-- the tree of a split at a prefix of zeros, and at another
both_of : (w : Signed) (p : List Sign) (rest : List (List Sign)) (more : List Said) → length p < w.choices → all_zero p ≡ true → (z : FirstTree w (p ++ Zero ∷ []) ((p ++ Plus ∷ []) ∷ rest) more) → FirstTree w (p ++ Plus ∷ []) rest z.more → FirstTree w p rest (Splits ∷ more)
both_of w p rest more lt e z q = record {
  tree = Both z.tree q.tree;
  more = q.more;
  valid = (lt, e, z.valid, q.valid);
  are = ap (λ (l : List Said). Splits ∷ l) (z.are ∙ ap (λ (l : List Said). nodes z.tree ++ l) q.are ∙ sym (append_assoc (nodes z.tree) (nodes q.tree) q.more));
  passes = q.passes;
  fewer = omega (arith, z.fewer, q.fewer);
}

three_of : (w : Signed) (p : List Sign) (rest : List (List Sign)) (more : List Said) → length p < w.choices → all_zero p ≡ false → (z : FirstTree w (p ++ Zero ∷ []) ((p ++ Plus ∷ []) ∷ (p ++ Minus ∷ []) ∷ rest) more)
    → (q : FirstTree w (p ++ Plus ∷ []) ((p ++ Minus ∷ []) ∷ rest) z.more) → FirstTree w (p ++ Minus ∷ []) rest q.more → FirstTree w p rest (Splits ∷ more)
three_of w p rest more lt e z q m = record {
  tree = Three z.tree q.tree m.tree;
  more = m.more;
  valid = (lt, e, z.valid, q.valid, m.valid);
  are = ap (λ (l : List Said). Splits ∷ l) (z.are ∙ ap (λ (l : List Said). nodes z.tree ++ l) (q.are ∙ ap (λ (l : List Said). nodes q.tree ++ l) m.are)
      ∙ sym (append_assoc (nodes z.tree) (nodes q.tree) (nodes m.tree ++ m.more)) ∙ sym (append_assoc (nodes z.tree ++ nodes q.tree) (nodes m.tree) m.more));
  passes = m.passes;
  fewer = omega (arith, z.fewer, q.fewer, m.fewer);
}

leaf_of : (w : Signed) (p : List Sign) (rest : List (List Sign)) (node : Said) (more : List Said) (tree : Plan) → IsValid w p tree → node ∷ [] ≡ nodes tree → Passing w rest more [] → FirstTree w p rest (node ∷ more)
leaf_of w p rest node more tree v e g = record { tree = tree; more = more; valid = v; are = ap (λ (l : List Said). l ++ more) e; passes = g; fewer = omega arith }

-- what the induction gives for fewer nodes
abbrev Before : Signed → ℕ → Type 0
Before w n = (p : List Sign) (rest : List (List Sign)) (said : List Said) → length said < n → Passing w (p ∷ rest) said [] → FirstTree w p rest said

split_of : (w : Signed) (n : ℕ) (p : List Sign) (rest : List (List Sign)) (more : List Said) → Before w n → length more < n → length p < w.choices → Passing w (children p ++ rest) more [] → (b : Bool) → all_zero p ≡ b → FirstTree w p rest (Splits ∷ more)
split_of w n p rest more ih lt f g true e =
    let z = ih (p ++ Zero ∷ []) ((p ++ Plus ∷ []) ∷ rest) more lt (subst (λ (d : List (List Sign)). Passing w d more []) (children_zero p rest e) g) in
    both_of w p rest more f e z (ih (p ++ Plus ∷ []) rest z.more (omega (arith, lt, z.fewer)) z.passes)
split_of w n p rest more ih lt f g false e =
    let z = ih (p ++ Zero ∷ []) ((p ++ Plus ∷ []) ∷ (p ++ Minus ∷ []) ∷ rest) more lt (subst (λ (d : List (List Sign)). Passing w d more []) (children_some p rest e) g) in
    let q = ih (p ++ Plus ∷ []) ((p ++ Minus ∷ []) ∷ rest) z.more (omega (arith, lt, z.fewer)) z.passes in
    three_of w p rest more f e z q (ih (p ++ Minus ∷ []) rest q.more (omega (arith, lt, z.fewer, q.fewer)) q.passes)

first_of : (w : Signed) (n : ℕ) → Before w n
first_of w zero p rest said lt h = absurd (omega (arith, lt))
first_of w (suc n) p rest [] lt h = elim h [ ]
first_of w (suc n) p rest (Flats ∷ more) lt (then f g) = leaf_of w p rest Flats more Level f refl g
first_of w (suc n) p rest (CutsA u ∷ more) lt (then f g) = leaf_of w p rest (CutsA u) more (RulesA u) f refl g
first_of w (suc n) p rest (CutsB u ∷ more) lt (then f g) = leaf_of w p rest (CutsB u) more (RulesB u) f refl g
first_of w (suc n) p rest (Splits ∷ more) lt (then f g) = split_of w n p rest more (first_of w n) (omega (arith, lt)) f g (all_zero p) refl

nothing_more : (w : Signed) (said : List Said) → Passing w [] said [] → said ≡ []
nothing_more w [] h = refl
nothing_more w (node ∷ said) h = elim h [ ]

pub those_of_trees : (w : Signed) → AreThoseOfTrees w
those_of_trees w = record {
  leaves = λ tree v. valid_passes w tree [] [] v;
  tree = λ said h.
      let t = first_of w (suc (length said)) [] [] said (omega arith) h in
      record { tree = t.tree; valid = t.valid; are = t.are ∙ ap (λ (l : List Said). nodes t.tree ++ l) (nothing_more w t.more t.passes) ∙ append-nil (nodes t.tree) };
}
