-- Two sign problems whose leaves have tests that hold together have trees that give the same and fail first in the same place.
use Rattle.crn_ctext.proofs.Prelude.{◌≡◌, ◌⊎◌, ◌+◌, ◌++◌, ℕ, zero, suc, Bool, true, false, List, [], ◌∷◌, length, refl, inl, inr, ℤ, Option, Place, KeptLines, place, Sign, Zero, Plus, Minus, Said, Flats, CutsA, CutsB, Course, Give, Line, Test, End, ◌>>=◌, ◌>>◌, test, Gives, FailsFirst, Awaits, StepGives, StepFails, StepAwaits, cut, all_zero, Node, Split, Flat, CutA, CutB, leaf, asks_leaf, goes_on, if_signed, either, asks_tree, problem_with, BadLeaf, Fault, NodeNotAllowed, WrongShape}
use Rattle.std.specs.Prelude.{◌↔◌}
use Rattle.crn_ctext.proofs.Awaited.{awaits_before, awaits_parts, awaits_then}
use Rattle.crn_ctext.proofs.Courses.{gives_then, fails_before, fails_then}

-- what the first gives the second gives, it fails first where the first does, and awaits what the first does
pub record IsLike {A : Type 0} (c d : Course A) : Type 0 where
  pub gives : (at after : Place) (y : A) → Gives c at y after → Gives d at y after
  pub fails : (at : Place) (n code : ℕ) → FailsFirst c at n code → FailsFirst d at n code
  pub awaits : (at : Place) → Awaits c at → Awaits d at

-- ---- courses

-- a course and itself
pub like_itself : {A : Type 0} (c : Course A) → IsLike c c
like_itself c = record { gives = λ at after y p. p; fails = λ at n code p. p; awaits = λ at p. p }

-- what both give, in two parts
pub gives_parts : {A B : Type 0} (c : Course A) (f : A → Course B) (at after : Place) (y : B) → Gives (c >>= f) at y after → (x : A) × (mid : Place) × Gives c at x mid × Gives (f x) mid y after
unfolding Gives
gives_parts (Give x) f at after y p = (x, at, (refl, refl), p)
gives_parts (Line node next) f at after y p = let q = gives_parts (next p.0) f p.1 after y p.3 in (q.0, q.1, (p.0, p.1, p.2, q.2), q.3)
gives_parts (Test n c X P next) f at after y p = let q = gives_parts (next p.0) f at after y p.2 in (q.0, q.1, (p.0, p.1, q.2), q.3)
gives_parts (End next) f at after y p = let q = gives_parts next f at after y p.1 in (q.0, q.1, (p.0, q.2), q.3)

-- what fails in both, in the first or after it
pub fails_parts : {A B : Type 0} (c : Course A) (f : A → Course B) (at : Place) (n code : ℕ) → FailsFirst (c >>= f) at n code → FailsFirst c at n code ⊎ ((x : A) × (mid : Place) × Gives c at x mid × FailsFirst (f x) mid n code)
unfolding Gives FailsFirst
fails_parts (Give x) f at n code p = inr (x, at, (refl, refl), p)
fails_parts (Line node next) f at n code (inl p) = inl (inl p)
fails_parts (Line node next) f at n code (inr p) = elim (fails_parts (next p.0) f p.1 n code p.3) [
  | inl q ↦ inl (inr (p.0, p.1, p.2, q))
  | inr q ↦ inr (q.0, q.1, (p.0, p.1, p.2, q.2), q.3)
]
fails_parts (Test m c X P next) f at n code (inl p) = inl (inl p)
fails_parts (Test m c X P next) f at n code (inr p) = elim (fails_parts (next p.0) f at n code p.2) [
  | inl q ↦ inl (inr (p.0, p.1, q))
  | inr q ↦ inr (q.0, q.1, (p.0, p.1, q.2), q.3)
]
fails_parts (End next) f at n code (inl p) = inl (inl p)
fails_parts (End next) f at n code (inr p) = elim (fails_parts next f at n code p.1) [
  | inl q ↦ inl (inr (p.0, q))
  | inr q ↦ inr (q.0, q.1, (p.0, q.2), q.3)
]

-- one course after another
pub like_then : {A B : Type 0} (c d : Course A) (f g : A → Course B) → IsLike c d → ((x : A) → IsLike (f x) (g x)) → IsLike (c >>= f) (d >>= g)
like_then c d f g first second = record {
  gives = λ at after y p.
      let q = gives_parts c f at after y p in
      let s = second q.0 in
      gives_then d g at q.1 after q.0 y (let h = first.gives in h at q.1 q.0 q.2) (let h = s.gives in h q.1 after y q.3);
  fails = λ at n code p. elim (fails_parts c f at n code p) [
    | inl q ↦ fails_before d g at n code (let h = first.fails in h at n code q)
    | inr q ↦
        let s = second q.0 in
        fails_then d g at q.1 q.0 n code (let h = first.gives in h at q.1 q.0 q.2) (let h = s.fails in h q.1 n code q.3)
  ];
  awaits = λ at p. elim (awaits_parts c f at p) [
    | inl q ↦ awaits_before d g at (let h = first.awaits in h at q)
    | inr q ↦
        let s = second q.0 in
        awaits_then d g at q.1 q.0 (let h = first.gives in h at q.1 q.0 q.2) (let h = s.awaits in h q.1 q.3)
  ];
}

-- two tests that hold together
like_test : (n : ℕ) (fault : Fault) (P Q : Type 0) → P ↔ Q → IsLike (test n fault P) (test n fault Q)
unfolding Gives FailsFirst Awaits
like_test n fault P Q same = record {
  gives = λ at after y p. (p.0, same.0 p.1, p.2);
  awaits = λ at p. absurd p.2;
  fails = λ at m d p. elim p [
    | inl none ↦ inl (none.0, none.1, λ x q. none.2 x (same.1 q))
    | inr more ↦ absurd more.2
  ];
}

-- one of two courses
like_either : {A : Type 0} (t : Bool) (this c d : Course A) → IsLike c d → IsLike (either t this c) (either t this d)
like_either true this c d like = like_itself this
like_either false this c d like = like

-- ---- trees

-- leaves have these tests, which hold together
abbrev pub HoldTogether : (H K : List Sign → Said → Type 0) → Type 0
HoldTogether H K = (prefix : List Sign) (said : Said) → H prefix said ↔ K prefix said

leaf_like : (c a b : ℕ) (H K : List Sign → Said → Type 0) → HoldTogether H K → (prefix : List Sign) (n : ℕ) (node : Node)
    → IsLike (leaf (problem_with c a b H) prefix n node) (leaf (problem_with c a b K) prefix n node)
leaf_like c a b H K same prefix n Split = like_itself (test n NodeNotAllowed ⊥)
leaf_like c a b H K same prefix n Flat = like_test n NodeNotAllowed (H prefix Flats) (K prefix Flats) (same prefix Flats)
leaf_like c a b H K same prefix n (CutA shared u) =
    like_then (test n WrongShape (shared ≡ true → length u ≡ a)) (test n WrongShape (shared ≡ true → length u ≡ a)) (λ x. test n BadLeaf (H prefix (CutsA u))) (λ x. test n BadLeaf (K prefix (CutsA u)))
    (like_itself (test n WrongShape (shared ≡ true → length u ≡ a))) (λ x. like_test n BadLeaf (H prefix (CutsA u)) (K prefix (CutsA u)) (same prefix (CutsA u)))
leaf_like c a b H K same prefix n (CutB shared u) =
    like_then (test n WrongShape (shared ≡ true → length u ≡ b)) (test n WrongShape (shared ≡ true → length u ≡ b)) (λ x. test n BadLeaf (H prefix (CutsB u))) (λ x. test n BadLeaf (K prefix (CutsB u)))
    (like_itself (test n WrongShape (shared ≡ true → length u ≡ b))) (λ x. like_test n BadLeaf (H prefix (CutsB u)) (K prefix (CutsB u)) (same prefix (CutsB u)))

-- a leaf, and then the line after it
leaf_then : (c a b : ℕ) (H K : List Sign → Said → Type 0) → HoldTogether H K → (prefix : List Sign) (n : ℕ) (node : Node)
    → IsLike (leaf (problem_with c a b H) prefix n node >> Give (n + 1)) (leaf (problem_with c a b K) prefix n node >> Give (n + 1))
leaf_then c a b H K same prefix n node =
    like_then (leaf (problem_with c a b H) prefix n node) (leaf (problem_with c a b K) prefix n node) (λ x. Give (n + 1)) (λ x. Give (n + 1))
    (leaf_like c a b H K same prefix n node) (λ x. like_itself (Give (n + 1)))

-- a node, and its children if it is a split
node_then : (c a b : ℕ) (H K : List Sign → Said → Type 0) → HoldTogether H K → (prefix : List Sign) (n : ℕ) (children others : Course ℕ) → IsLike children others → (node : Node)
    → IsLike (goes_on (problem_with c a b H) prefix n node children) (goes_on (problem_with c a b K) prefix n node others)
node_then c a b H K same prefix n children others like Split = like
node_then c a b H K same prefix n children others like node = leaf_then c a b H K same prefix n node

-- the children of a node, whose trees these are
abbrev children_of : List Sign → (n : ℕ) → (tree : Sign → ℕ → Course ℕ) → Course ℕ
children_of prefix n tree = tree Zero (n + 1) >>= (λ k. tree Plus k >>= (λ m. if_signed prefix m (tree Minus m)))

children_like : (prefix : List Sign) (n : ℕ) (tree other : Sign → ℕ → Course ℕ) → ((s : Sign) (k : ℕ) → IsLike (tree s k) (other s k)) → IsLike (children_of prefix n tree) (children_of prefix n other)
children_like prefix n tree other like =
    like_then (tree Zero (n + 1)) (other Zero (n + 1)) (λ k. tree Plus k >>= (λ m. if_signed prefix m (tree Minus m))) (λ k. other Plus k >>= (λ m. if_signed prefix m (other Minus m)))
    (like Zero (n + 1)) (λ k. like_then (tree Plus k) (other Plus k) (λ m. if_signed prefix m (tree Minus m)) (λ m. if_signed prefix m (other Minus m))
    (like Plus k) (λ m. like_either (all_zero prefix) (Give m) (tree Minus m) (other Minus m) (like Minus m)))

-- the trees of two problems with these choices and numbers of multipliers
pub trees_like : (version : ℕ) (table : List (List ℤ)) (c a b : ℕ) (H K : List Sign → Said → Type 0) → HoldTogether H K → (more : ℕ) (prefix : List Sign) (n : ℕ)
    → IsLike (asks_tree version table (problem_with c a b H) more prefix n) (asks_tree version table (problem_with c a b K) more prefix n)
unfolding asks_tree
trees_like version table c a b H K same zero prefix n =
    like_then (asks_leaf version table (problem_with c a b H) n) (asks_leaf version table (problem_with c a b K) n)
    (λ node. leaf (problem_with c a b H) prefix n node >> Give (n + 1)) (λ node. leaf (problem_with c a b K) prefix n node >> Give (n + 1))
    (like_itself (asks_leaf version table (problem_with c a b H) n)) (λ node. leaf_then c a b H K same prefix n node)
trees_like version table c a b H K same (suc more) prefix n =
    let tree : Sign → ℕ → Course ℕ = λ s k. asks_tree version table (problem_with c a b H) more (prefix ++ s ∷ []) k in
    let other : Sign → ℕ → Course ℕ = λ s k. asks_tree version table (problem_with c a b K) more (prefix ++ s ∷ []) k in
    like_then (asks_leaf version table (problem_with c a b H) n) (asks_leaf version table (problem_with c a b K) n)
    (λ node. goes_on (problem_with c a b H) prefix n node (children_of prefix n tree)) (λ node. goes_on (problem_with c a b K) prefix n node (children_of prefix n other))
    (like_itself (asks_leaf version table (problem_with c a b H) n))
    (λ node. node_then c a b H K same prefix n (children_of prefix n tree) (children_of prefix n other)
    (children_like prefix n tree other (λ s k. trees_like version table c a b H K same more (prefix ++ s ∷ []) k)) node)

-- ---- steps

-- what a step gives by one course it gives by the other
pub step_gives_like : {A : Type 0} (c d : Course A) → IsLike c d → (y : A) (n m : ℕ) (old new : KeptLines) (left after : Option (List ℕ)) → StepGives c y n m old new left after → StepGives d y n m old new left after
step_gives_like c d like y n m old new left after p = record {
  pulled = p.pulled;
  off = p.off;
  gives = λ rest. let h = like.gives in h (place n old (p.pulled ++ rest)) (place m new rest) y (let g = p.gives in g rest);
}

-- and so it fails
pub step_fails_like : {A : Type 0} (c d : Course A) → IsLike c d → (n : ℕ) (old : KeptLines) (left after : Option (List ℕ)) (line code : ℕ) → StepFails c n old left after line code → StepFails d n old left after line code
step_fails_like c d like n old left after line code p = record {
  pulled = p.pulled;
  off = p.off;
  bound = p.bound;
  fails = λ rest ends. let h = like.fails in h (place n old (p.pulled ++ rest)) line code (let g = p.fails in g rest ends);
  awaits = λ begun last e long. let h = like.awaits in h (cut (place n old p.pulled) begun) (let g = p.awaits in g begun last e long);
}

-- and so it awaits a line
pub step_awaits_like : {A : Type 0} (c d : Course A) → IsLike c d → (n : ℕ) (old : KeptLines) (left after : Option (List ℕ)) → StepAwaits c n old left after → StepAwaits d n old left after
step_awaits_like c d like n old left after p = record { pulled = p.pulled; off = p.off; bound = p.bound; awaits = let h = like.awaits in h (place n old p.pulled) p.awaits }
