-- The tree of a prefix, as it is read node by node.
use Rattle.crn_siphon_text.proofs.Prelude.{◌≡◌, ◌<◌, ◌+◌, ◌-◌, ℕ, zero, suc, Bool, List, length, refl, sym, subst, ◌∙◌, inl, inr, arith, ℤ, Option, IsPartSaid, Net, SourceSeen, Place, KeptLines, Record, Course, Give, ◌>>=◌, Gives, FailsFirst, asks_part, StepGives, step_then, step_fails_then, Reading, CheckStop, Rejected, CanRead, StepIs, StopIs, tests_give, tests_fail, step_then_is, stop_first, words, node_forms, Node, Forks, IsBadBy, HasLaw, Voids, node_of, leaf, asks_node, goes_on, asks_tree, asks_children}
use Rattle.std.specs.Prelude.{Result, Ok}
use Rattle.crn_siphon_text.proofs.NodesRead.{NodeSaid, node_said}

-- ---- a node

node_step : (net : Net) (n m : ℕ) (r : Record) (old mid : KeptLines) (left between : Option (List ℕ)) → StepGives (asks_part words n (node_forms net)) r n m old mid left between → StepGives (asks_node net n) (node_of r) n m old mid left between
unfolding Gives
node_step net n m r old mid left between s = step_then (asks_part words n (node_forms net)) (λ q. Give (node_of q)) r (node_of r) n m m old mid mid left between between s (tests_give (Give (node_of r)) (node_of r) m mid between (λ at. (refl, refl)))

leaf_end_gives : (net : Net) (prefix : List Bool) (n : ℕ) (node : Node) (at : Place) → Gives (leaf net prefix n node) at tt at → Gives (leaf net prefix n node >>= (λ x. Give (n + 1))) at (n + 1) at
unfolding Gives
leaf_end_gives net prefix n Forks at h = (h.0, h.1, (refl, refl))
leaf_end_gives net prefix n (IsBadBy r) at h = (h.0, h.1, (refl, refl))
leaf_end_gives net prefix n (HasLaw x) at h = (h.0, h.1, (refl, refl))
leaf_end_gives net prefix n Voids at h = (h.0, h.1, (refl, refl))

leaf_end_fails : (net : Net) (prefix : List Bool) (n code : ℕ) (node : Node) (at : Place) → FailsFirst (leaf net prefix n node) at n code → FailsFirst (leaf net prefix n node >>= (λ x. Give (n + 1))) at n code
unfolding FailsFirst
leaf_end_fails net prefix n code Forks at (inl h) = inl h
leaf_end_fails net prefix n code Forks at (inr h) = absurd h.2
leaf_end_fails net prefix n code (IsBadBy r) at (inl h) = inl h
leaf_end_fails net prefix n code (IsBadBy r) at (inr h) = absurd h.2
leaf_end_fails net prefix n code (HasLaw x) at (inl h) = inl h
leaf_end_fails net prefix n code (HasLaw x) at (inr h) = absurd h.2
leaf_end_fails net prefix n code Voids at (inl h) = inl h
leaf_end_fails net prefix n code Voids at (inr h) = absurd h.2

-- no leaf is a fork
no_fork : (net : Net) (prefix : List Bool) (n : ℕ) (at : Place) → Gives (leaf net prefix n Forks) at tt at → ⊥
unfolding Gives
no_fork net prefix n at h = h.1

goes_gives : (net : Net) (prefix : List Bool) (n : ℕ) (node : Node) (below : Course ℕ) (at : Place) → Gives (leaf net prefix n node) at tt at → Gives (goes_on net prefix n node below) at (n + 1) at
goes_gives net prefix n Forks below at h = absurd (no_fork net prefix n at h)
goes_gives net prefix n (IsBadBy r) below at h = leaf_end_gives net prefix n (IsBadBy r) at h
goes_gives net prefix n (HasLaw x) below at h = leaf_end_gives net prefix n (HasLaw x) at h
goes_gives net prefix n Voids below at h = leaf_end_gives net prefix n Voids at h

goes_fails : (net : Net) (prefix : List Bool) (n code : ℕ) (node : Node) (below : Course ℕ) (at : Place) → (node ≡ Forks → ⊥) → FailsFirst (leaf net prefix n node) at n code → FailsFirst (goes_on net prefix n node below) at n code
goes_fails net prefix n code Forks below at none h = absurd (none refl)
goes_fails net prefix n code (IsBadBy r) below at none h = leaf_end_fails net prefix n code (IsBadBy r) at h
goes_fails net prefix n code (HasLaw x) below at none h = leaf_end_fails net prefix n code (HasLaw x) at h
goes_fails net prefix n code Voids below at none h = leaf_end_fails net prefix n code Voids at h

-- ---- the tree of a prefix

pub tree_stop : (net : Net) (more : ℕ) (prefix : List Bool) (e : CheckStop) (old : Reading) (before now : SourceSeen) → StopIs (asks_part words old.line (node_forms net)) e old before now → StopIs (asks_tree net more prefix old.line) e old before now
unfolding asks_tree
tree_stop net zero prefix e old before now s = stop_first (asks_node net old.line) (λ node. leaf net prefix old.line node >>= (λ x. Give (old.line + 1))) e old before now (stop_first (asks_part words old.line (node_forms net)) (λ r. Give (node_of r)) e old before now s)
tree_stop net (suc more) prefix e old before now s = stop_first (asks_node net old.line) (λ node. goes_on net prefix old.line node (asks_children net more prefix (old.line + 1))) e old before now (stop_first (asks_part words old.line (node_forms net)) (λ r. Give (node_of r)) e old before now s)

pub tree_leaf : (net : Net) (more : ℕ) (prefix : List Bool) (r : Record) (old mid : Reading) (before now : SourceSeen) → StepGives (asks_part words old.line (node_forms net)) r old.line mid.line old.lines mid.lines before.left now.left → now.faults ≡ before.faults
    → ((n : ℕ) (at : Place) → Gives (leaf net prefix n (node_of r)) at tt at) → mid.line ≡ old.line + 1 → StepIs {T = Unit {0}} (asks_tree net more prefix old.line) (λ _ line. line ≡ mid.line) (Ok tt) old mid before now
unfolding asks_tree
tree_leaf net zero prefix r old mid before now s same g e =
    let n = old.line in
    let f : Node → Course ℕ = λ node. leaf net prefix n node >>= (λ x. Give (n + 1)) in (
      n + 1,
      sym e,
      step_then (asks_node net n) f (node_of r) (n + 1) n mid.line mid.line old.lines mid.lines mid.lines before.left now.left now.left (node_step net n mid.line r old.lines mid.lines before.left now.left s)
          (tests_give (f (node_of r)) (n + 1) mid.line mid.lines now.left (λ at. leaf_end_gives net prefix n (node_of r) at (g n at))),
      same,
    )
tree_leaf net (suc more) prefix r old mid before now s same g e =
    let n = old.line in
    let f : Node → Course ℕ = λ node. goes_on net prefix n node (asks_children net more prefix (n + 1)) in (
      n + 1,
      sym e,
      step_then (asks_node net n) f (node_of r) (n + 1) n mid.line mid.line old.lines mid.lines mid.lines before.left now.left now.left (node_step net n mid.line r old.lines mid.lines before.left now.left s)
          (tests_give (f (node_of r)) (n + 1) mid.line mid.lines now.left (λ at. goes_gives net prefix n (node_of r) (asks_children net more prefix (n + 1)) at (g n at))),
      same,
    )

-- the first fault is at the node's line
fault_at : {A : Type 0} (c : Course A) (n m code : ℕ) (old : Reading) (before now : SourceSeen) → n ≡ m → StopIs c (Rejected code n) old before now → StopIs c (Rejected code m) old before now
fault_at c n m code old before now e s = subst (λ (k : ℕ). StopIs c (Rejected code k) old before now) e s

pub tree_refused : (net : Net) (more code : ℕ) (prefix : List Bool) (r : Record) (old mid : Reading) (before now : SourceSeen) → StepGives (asks_part words old.line (node_forms net)) r old.line mid.line old.lines mid.lines before.left now.left → now.faults ≡ before.faults
    → ((n : ℕ) (at : Place) → FailsFirst (leaf net prefix n (node_of r)) at n code) → (node_of r ≡ Forks → more ≡ 0) → CanRead mid → mid.line ≡ old.line + 1 → StopIs (asks_tree net more prefix old.line) (Rejected code (mid.line - 1)) old before now
unfolding asks_tree
tree_refused net zero code prefix r old mid before now s same g none can e =
    let n = old.line in
    let f : Node → Course ℕ = λ node. leaf net prefix n node >>= (λ x. Give (n + 1)) in
    fault_at (asks_node net n >>= f) n (mid.line - 1) code old before now (omega (arith, e)) (
      step_fails_then (asks_node net n) f (node_of r) n mid.line n code old.lines mid.lines before.left now.left now.left (node_step net n mid.line r old.lines mid.lines before.left now.left s)
          (tests_fail (f (node_of r)) mid.line n code mid now.left can (λ at. leaf_end_fails net prefix n code (node_of r) at (g n at))),
      same,
    )
tree_refused net (suc more) code prefix r old mid before now s same g none can e =
    let n = old.line in
    let f : Node → Course ℕ = λ node. goes_on net prefix n node (asks_children net more prefix (n + 1)) in
    fault_at (asks_node net n >>= f) n (mid.line - 1) code old before now (omega (arith, e)) (
      step_fails_then (asks_node net n) f (node_of r) n mid.line n code old.lines mid.lines before.left now.left now.left (node_step net n mid.line r old.lines mid.lines before.left now.left s)
          (tests_fail (f (node_of r)) mid.line n code mid now.left can (λ at. goes_fails net prefix n code (node_of r) (asks_children net more prefix (n + 1)) at (λ h. omega (arith, none h)) (g n at))),
      same,
    )

pub tree_fork : (net : Net) (more : ℕ) (prefix : List Bool) (r : Record) (result : Result (Unit {0}) CheckStop) (old mid new : Reading) (before between now : SourceSeen) → StepGives (asks_part words old.line (node_forms net)) r old.line mid.line old.lines mid.lines before.left between.left → between.faults ≡ before.faults
    → node_of r ≡ Forks → mid.line ≡ old.line + 1 → StepIs (asks_children net more prefix mid.line) (λ _ line. line ≡ new.line) result mid new between now → StepIs (asks_tree net (suc more) prefix old.line) (λ _ line. line ≡ new.line) result old new before now
unfolding asks_tree
tree_fork net more prefix r result old mid new before between now s same is e below =
    let n = old.line in
    let f : Node → Course ℕ = λ node. goes_on net prefix n node (asks_children net more prefix (n + 1)) in
    let there : StepIs (asks_children net more prefix (n + 1)) (λ _ line. line ≡ new.line) result mid new between now = subst (λ (k : ℕ). StepIs (asks_children net more prefix k) (λ _ line. line ≡ new.line) result mid new between now) e below in
    step_then_is (asks_node net n) f (node_of r) (λ _ line. line ≡ new.line) result old mid new before between now (node_step net n mid.line r old.lines mid.lines before.left between.left s) same
    (subst (λ (node : Node). StepIs (f node) (λ _ line. line ≡ new.line) result mid new between now) (sym is) there)

pub tree_fork_at : (net : Net) (more : ℕ) (prefix : List Bool) (r : Record) (result : Result (Unit {0}) CheckStop) (old mid new : Reading) (before between now : SourceSeen) → length prefix < length net.names → length prefix + more ≡ length net.names
    → StepGives (asks_part words old.line (node_forms net)) r old.line mid.line old.lines mid.lines before.left between.left → between.faults ≡ before.faults
    → node_of r ≡ Forks → mid.line ≡ old.line + 1 → ((m : ℕ) → length prefix + suc m ≡ length net.names → StepIs (asks_children net m prefix mid.line) (λ _ line. line ≡ new.line) result mid new between now) → StepIs (asks_tree net more prefix old.line) (λ _ line. line ≡ new.line) result old new before now
tree_fork_at net zero prefix r result old mid new before between now lt whole s same is e below = absurd (omega (arith, lt, whole))
tree_fork_at net (suc more) prefix r result old mid new before between now lt whole s same is e below = tree_fork net more prefix r result old mid new before between now s same is e (below more whole)

-- a fork has the place of its word
pub fork_place : (net : Net) (place : ℕ) (read : List ℤ) (r : Record) → IsPartSaid words (node_forms net) place read r → node_of r ≡ Forks → place ≡ 8
fork_place net place read r s is = by (node_said net place read r s)
  where
    by : NodeSaid net place read (node_of r) → place ≡ 8
    by (inl h) = h.0
    by (inr (inl h)) = absurd (let bad = h.1 in let e : IsBadBy bad.0 ≡ Forks = sym bad.3 ∙ is in cc)
    by (inr (inr (inl h))) = absurd (let e : HasLaw read ≡ Forks = sym h.2 ∙ is in cc)
    by (inr (inr (inr h))) = absurd (let e : Voids ≡ Forks = sym h.1 ∙ is in cc)
