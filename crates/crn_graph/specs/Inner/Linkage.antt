-- For the contracts of private functions alone.
-- Linkage classes on the way: those that begin before some complex are labelled, and each has its tree.
-- Shapes: complexes are counted from 0, labels and reactions from 1; a complex without a class so far has label 0.
use Rattle.std.specs.Prelude.{◌≡◌, ◌≤◌, ◌<◌, ◌⊎◌, ℕ, suc, List, length}
use Rattle.crn_vec.specs.Walks.{LeadsTo}
use Rattle.crn_cert.specs.ClassTests.{IsFirst}
use Rattle.crn_graph.specs.declared.arcs.Arc.{Arc}
use Rattle.crn_graph.specs.declared.search.Search.{Search}
use Rattle.crn_graph.specs.Arcs.{HasArc}
use Rattle.crn_graph.specs.Inner.Search.{Steps, AreLong, label_at, up_at, depth_at}

-- from the end of each arc other arcs lead back to its beginning
abbrev pub IsReturning : List Arc → Type 0
IsReturning arcs = (r y z : ℕ) → HasArc arcs r y z → LeadsTo (Steps arcs) z y

-- y is not the first complex of its class, and an arc comes to it from a complex with one step less
pub record IsJoined (arcs : List Arc) (s : Search) (y : ℕ) : Type 0 where
  pub root : ℕ
  pub earlier : root < y
  pub its : label_at s root ≡ label_at s y
  pub d : ℕ
  pub by_arc : HasArc arcs (up_at s y) d y
  pub deeper : depth_at s y ≡ suc (depth_at s d)

-- y is the root of its class, or hangs in its tree
abbrev pub IsPlaced : List Arc → Search → ℕ → Type 0
IsPlaced arcs s y = (IsFirst s.label.items y × (up_at s y ≡ 0) × (depth_at s y ≡ 0)) ⊎ IsJoined arcs s y

-- this many classes are labelled, those of the complexes before `next`
pub record AreClassesTo (arcs : List Arc) (s : Search) (count next : ℕ) : Type 0 where
  pub long : AreLong s
  pub few : count ≤ next
  pub within : next ≤ length s.label.items
  pub most : (y : ℕ) → label_at s y ≤ count
  pub before : (y : ℕ) → y < next → 1 ≤ label_at s y
  pub each : (k : ℕ) → 1 ≤ k → k ≤ count → (x : ℕ) × (x < next) × (label_at s x ≡ k)
  pub numbered : (y k : ℕ) → 1 ≤ k → k < label_at s y → (x : ℕ) × (x < y) × (label_at s x ≡ k)
  pub even : (r y z : ℕ) → HasArc arcs r y z → label_at s y ≡ label_at s z
  pub same : (y z : ℕ) → 1 ≤ label_at s y → label_at s y ≡ label_at s z → LeadsTo (Steps arcs) y z
  pub placed : (y : ℕ) → 1 ≤ label_at s y → IsPlaced arcs s y
  pub deep : (y : ℕ) → 1 ≤ label_at s y → depth_at s y < length s.label.items
