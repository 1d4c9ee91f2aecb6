-- The tree of a prefix is its node and the trees of the prefixes that the node leaves due.
use Rattle.crn_document.proofs.Prelude.{◌≡◌, ◌≢◌, ◌+◌, ◌-◌, ◌<◌, ◌++◌, ℕ, zero, suc, Bool, true, false, List, [], ◌∷◌, length, map, refl, sym, subst, arith, Ok, Result, ℤ, length-append, Sign, Zero, Plus, Minus, all_zero, children, options_below, root, SourceSeen, Course, Give, ◌>>=◌, test, Problem, Node, Split, asks_leaf, asks_tree, either, goes_on, leaf, StepGives, first, rest, Reading, CheckStop, StopIs, StepIs, after_node, asks_due, asks_one, node_test, step_gives, step_then_is, stop_first, NodeNotAllowed, IsLike, like_itself, like_then}
use Rattle.crn_document.proofs.CoursesFollowed.{follows_on, to_right, to_left, none_after, test_holds, test_breaks, step_follows, stop_follows}

-- ---- prefixes

child_more : (choices more : ℕ) (prefix : List Sign) (s : Sign) → choices - length prefix ≡ suc more → choices - length (prefix ++ s ∷ []) ≡ more
child_more choices more prefix s e = let l : length (prefix ++ s ∷ []) ≡ length prefix + 1 = length-append prefix (s ∷ []) in omega (arith, e, l)

pub first_and_rest : (due : List (List Sign)) → due ≢ [] → due ≡ first due ∷ rest due
first_and_rest [] some = absurd (some refl)
first_and_rest (p ∷ due) some = refl

-- ---- the children of a prefix

three_parts : (t₀ t₁ t₂ r : ℕ → Course ℕ) (n : ℕ) → IsLike (t₀ n >>= (λ k. t₁ k >>= (λ m. t₂ m >>= r))) ((t₀ n >>= (λ k. t₁ k >>= t₂)) >>= r)
three_parts t₀ t₁ t₂ r n =
    follows_on (t₀ n >>= (λ k. t₁ k >>= (λ m. t₂ m >>= r))) (t₀ n >>= (λ k. (t₁ k >>= t₂) >>= r)) ((t₀ n >>= (λ k. t₁ k >>= t₂)) >>= r)
    (like_then (t₀ n) (t₀ n) (λ k. t₁ k >>= (λ m. t₂ m >>= r)) (λ k. (t₁ k >>= t₂) >>= r) (like_itself (t₀ n)) (λ k. to_left (t₁ k) t₂ r))
    (to_left (t₀ n) (λ k. t₁ k >>= t₂) r)

-- the trees of the children, with so many choices still to make in each
abbrev split_course : (version : ℕ) → List (List ℤ) → Problem → (zeros pluses minuses : ℕ) → Bool → List Sign → (line : ℕ) → Course ℕ
split_course version table p i j k none prefix n =
    asks_tree version table p i (prefix ++ Zero ∷ []) (n + 1) >>= (λ l.
    asks_tree version table p j (prefix ++ Plus ∷ []) l >>= (λ m.
    either none (Give m) (asks_tree version table p k (prefix ++ Minus ∷ []) m)))

children_by : (version : ℕ) (table : List (List ℤ)) (p : Problem) (none : Bool) (prefix : List Sign) (due : List (List Sign)) (n : ℕ)
    → IsLike (asks_due version table p (map (λ s. prefix ++ s ∷ []) (options_below none) ++ due) (n + 1)) (split_course version table p (p.choices - length (prefix ++ Zero ∷ [])) (p.choices - length (prefix ++ Plus ∷ [])) (p.choices - length (prefix ++ Minus ∷ [])) none prefix n >>= (λ m. asks_due version table p due m))
unfolding asks_due
children_by version table p true prefix due n =
    three_parts (asks_tree version table p (p.choices - length (prefix ++ Zero ∷ [])) (prefix ++ Zero ∷ [])) (asks_tree version table p (p.choices - length (prefix ++ Plus ∷ [])) (prefix ++ Plus ∷ []))
    (λ m. Give m) (λ m. asks_due version table p due m) (n + 1)
children_by version table p false prefix due n =
    three_parts (asks_tree version table p (p.choices - length (prefix ++ Zero ∷ [])) (prefix ++ Zero ∷ [])) (asks_tree version table p (p.choices - length (prefix ++ Plus ∷ [])) (prefix ++ Plus ∷ []))
    (asks_tree version table p (p.choices - length (prefix ++ Minus ∷ [])) (prefix ++ Minus ∷ [])) (λ m. asks_due version table p due m) (n + 1)

children_follow : (version : ℕ) (table : List (List ℤ)) (p : Problem) (more : ℕ) (prefix : List Sign) (due : List (List Sign)) (n : ℕ) → p.choices - length prefix ≡ suc more
    → IsLike (asks_due version table p (children prefix ++ due) (n + 1)) (split_course version table p more more more (all_zero prefix) prefix n >>= (λ m. asks_due version table p due m))
children_follow version table p more prefix due n e =
    let c = asks_due version table p (children prefix ++ due) (n + 1) in
    let r = λ (m : ℕ). asks_due version table p due m in
    let left = λ (s : Sign). p.choices - length (prefix ++ s ∷ []) in
    subst (λ (k : ℕ). IsLike c (split_course version table p more more k (all_zero prefix) prefix n >>= r)) (child_more p.choices more prefix Minus e)
    (subst (λ (k : ℕ). IsLike c (split_course version table p more k (left Minus) (all_zero prefix) prefix n >>= r)) (child_more p.choices more prefix Plus e)
    (subst (λ (k : ℕ). IsLike c (split_course version table p k (left Plus) (left Minus) (all_zero prefix) prefix n >>= r)) (child_more p.choices more prefix Zero e)
    (children_by version table p (all_zero prefix) prefix due n)))

-- ---- a node and what it leaves due

-- what follows a node at a full prefix
full_node : (version : ℕ) (table : List (List ℤ)) (p : Problem) (prefix : List Sign) (due : List (List Sign)) (n : ℕ) → p.choices - length prefix ≡ 0 → (node : Node)
    → IsLike (node_test p prefix n node >>= (λ x. asks_due version table p (after_node prefix due node) (n + 1))) ((leaf p prefix n node >>= (λ x. Give (n + 1))) >>= (λ m. asks_due version table p due m))
full_node version table p prefix due n e Split = test_breaks n NodeNotAllowed (length prefix < p.choices) ⊥ (asks_due version table p (children prefix ++ due) (n + 1)) (asks_due version table p due (n + 1)) (λ lt. omega (arith, e, lt)) (λ x. x)
full_node version table p prefix due n e node = to_left (leaf p prefix n node) (λ x. Give (n + 1)) (λ m. asks_due version table p due m)

-- and at another one
inner_node : (version : ℕ) (table : List (List ℤ)) (p : Problem) (more : ℕ) (prefix : List Sign) (due : List (List Sign)) (n : ℕ) → p.choices - length prefix ≡ suc more → (node : Node)
    → IsLike (node_test p prefix n node >>= (λ x. asks_due version table p (after_node prefix due node) (n + 1))) (goes_on p prefix n node (split_course version table p more more more (all_zero prefix) prefix n) >>= (λ m. asks_due version table p due m))
inner_node version table p more prefix due n e Split =
    let c = asks_due version table p (children prefix ++ due) (n + 1) in
    follows_on (test n NodeNotAllowed (length prefix < p.choices) >>= (λ x. c)) c (split_course version table p more more more (all_zero prefix) prefix n >>= (λ m. asks_due version table p due m))
    (test_holds n NodeNotAllowed (length prefix < p.choices) c (omega (arith, e))) (children_follow version table p more prefix due n e)
inner_node version table p more prefix due n e node = to_left (leaf p prefix n node) (λ x. Give (n + 1)) (λ m. asks_due version table p due m)

-- a node, and then what is as its course has it
node_in : (version : ℕ) (table : List (List ℤ)) (p : Problem) (prefix : List Sign) (due : List (List Sign)) (n : ℕ) (g : Node → Course ℕ)
    → ((node : Node) → IsLike (node_test p prefix n node >>= (λ x. asks_due version table p (after_node prefix due node) (n + 1))) (g node >>= (λ m. asks_due version table p due m)))
    → IsLike (asks_one version table p prefix n >>= (λ node. asks_due version table p (after_node prefix due node) (n + 1))) ((asks_leaf version table p n >>= g) >>= (λ m. asks_due version table p due m))
node_in version table p prefix due n g h =
    let l = asks_leaf version table p n in
    let t = λ (node : Node). node_test p prefix n node in
    let k = λ (node : Node). asks_due version table p (after_node prefix due node) (n + 1) in
    let r = λ (m : ℕ). asks_due version table p due m in
    follows_on (asks_one version table p prefix n >>= k) (l >>= (λ node. (t node >>= (λ x. Give node)) >>= k)) ((l >>= g) >>= r)
    (to_right l (λ node. t node >>= (λ x. Give node)) k)
    (follows_on (l >>= (λ node. (t node >>= (λ x. Give node)) >>= k)) (l >>= (λ node. g node >>= r)) ((l >>= g) >>= r)
    (like_then l l (λ node. (t node >>= (λ x. Give node)) >>= k) (λ node. g node >>= r) (like_itself l) (λ node. follows_on ((t node >>= (λ x. Give node)) >>= k) (t node >>= (λ x. k node)) (g node >>= r) (to_right (t node) (λ x. Give node) k) (h node)))
    (to_left l g r))

-- a node at the first of some prefixes, and what is due then
pub node_first : (version : ℕ) (table : List (List ℤ)) (p : Problem) (prefix : List Sign) (due : List (List Sign)) (n : ℕ)
    → IsLike (asks_one version table p prefix n >>= (λ node. asks_due version table p (after_node prefix due node) (n + 1))) (asks_due version table p (prefix ∷ due) n)
unfolding asks_due asks_tree
node_first version table p prefix due n = by (p.choices - length prefix) refl
  where
    by : (more : ℕ) → p.choices - length prefix ≡ more → IsLike (asks_one version table p prefix n >>= (λ node. asks_due version table p (after_node prefix due node) (n + 1))) (asks_tree version table p more prefix n >>= (λ m. asks_due version table p due m))
    by zero e = node_in version table p prefix due n (λ node. leaf p prefix n node >>= (λ x. Give (n + 1))) (full_node version table p prefix due n e)
    by (suc more) e = node_in version table p prefix due n (λ node. goes_on p prefix n node (split_course version table p more more more (all_zero prefix) prefix n)) (inner_node version table p more prefix due n e)

-- the tree of the root is all that is due at first
pub root_tree : (version : ℕ) (table : List (List ℤ)) (p : Problem) (n : ℕ) → IsLike (asks_due version table p root n) (asks_tree version table p p.choices [] n)
unfolding asks_due
root_tree version table p n =
    let e : p.choices - 0 ≡ p.choices = omega arith in
    subst (λ (k : ℕ). IsLike (asks_tree version table p (p.choices - 0) [] n >>= (λ m. Give m)) (asks_tree version table p k [] n)) e (none_after (asks_tree version table p (p.choices - 0) [] n))

-- ---- steps

-- a node that was taken, and then the trees that are due after it
pub due_then : {T : Type 0} (version n : ℕ) (table : List (List ℤ)) (p : Problem) (due after : List (List Sign)) (node : Node) (Says : T → ℕ → Type 0) (result : Result T CheckStop) (old mid new : Reading) (before between now : SourceSeen)
    → due ≢ [] → mid.version ≡ version → mid.line ≡ n + 1 → after ≡ after_node (first due) (rest due) node
    → StepGives (asks_one version table p (first due) n) node old.line mid.line old.lines mid.lines before.left between.left → between.faults ≡ before.faults
    → StepIs (asks_due mid.version table p after mid.line) Says result mid new between now
    → StepIs (asks_due version table p due n) Says result old new before now
due_then version n table p due after node Says result old mid new before between now some v l a s same q =
    subst (λ (d : List (List Sign)). StepIs (asks_due version table p d n) Says result old new before now) (sym (first_and_rest due some))
    (step_follows (asks_one version table p (first due) n >>= (λ node. asks_due version table p (after_node (first due) (rest due) node) (n + 1))) (asks_due version table p (first due ∷ rest due) n) Says result old new before now (node_first version table p (first due) (rest due) n)
    (step_then_is (asks_one version table p (first due) n) (λ node. asks_due version table p (after_node (first due) (rest due) node) (n + 1)) node Says result old mid new before between now s same
    (subst (λ (d : List (List Sign)). StepIs (asks_due version table p d (n + 1)) Says result mid new between now) a
    (subst (λ (k : ℕ). StepIs (asks_due version table p after k) Says result mid new between now) l
    (subst (λ (k : ℕ). StepIs (asks_due k table p after mid.line) Says result mid new between now) v q)))))

-- what stops the node stops all
pub due_stops : (version n : ℕ) (table : List (List ℤ)) (p : Problem) (due : List (List Sign)) (e : CheckStop) (old : Reading) (before now : SourceSeen) → due ≢ []
    → StopIs (asks_one version table p (first due) n) e old before now → StopIs (asks_due version table p due n) e old before now
due_stops version n table p due e old before now some s =
    let k = λ (node : Node). asks_due version table p (after_node (first due) (rest due) node) (n + 1) in
    subst (λ (d : List (List Sign)). StopIs (asks_due version table p d n) e old before now) (sym (first_and_rest due some))
    (stop_follows (asks_one version table p (first due) n >>= k) (asks_due version table p (first due ∷ rest due) n) e old before now (node_first version table p (first due) (rest due) n)
    (stop_first (asks_one version table p (first due) n) k e old before now s))

-- nothing is due
pub none_due : (version : ℕ) (table : List (List ℤ)) (p : Problem) (due : List (List Sign)) (at : Reading) (seen : SourceSeen) → due ≡ [] → StepIs (asks_due version table p due at.line) (λ (t : Unit {0}) line. line ≡ at.line) (Ok tt) at at seen seen
unfolding asks_due
none_due version table p due at seen e =
    subst (λ (d : List (List Sign)). StepIs (asks_due version table p d at.line) (λ (t : Unit {0}) line. line ≡ at.line) (Ok tt) at at seen seen) (sym e)
    (step_gives at.line (λ (t : Unit {0}) (line : ℕ). line ≡ at.line) tt at seen refl)
