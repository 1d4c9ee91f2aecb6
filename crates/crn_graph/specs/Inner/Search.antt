-- For the contracts of private functions alone.
-- Searches over a graph: which complexes are found, by which arcs, and in how many steps.
-- Shapes: complexes are counted from 0, labels and reactions from 1; the label 0 is that of a complex that is not found.
use Rattle.std.specs.Prelude.{◌≡◌, ◌≢◌, ◌≤◌, ◌<◌, ◌+◌, ◌⊎◌, ℕ, zero, suc, List, [], ◌∷◌, length, slice_index}
use Rattle.crn_vec.specs.Walks.{LeadsTo}
use Rattle.crn_graph.specs.declared.arcs.Arc.{Arc}
use Rattle.crn_graph.specs.declared.search.Search.{Search}
use Rattle.crn_graph.specs.Arcs.{HasArc}

-- some arc leads from y to z
abbrev pub Steps : List Arc → ℕ → ℕ → Type 0
Steps arcs y z = (r : ℕ) × HasArc arcs r y z

-- how many numbers of a list are 0
abbrev pub zeros : List ℕ → ℕ
zeros [] = 0
zeros (zero ∷ ls) = suc (zeros ls)
zeros (suc l ∷ ls) = zeros ls

-- the label of y
abbrev pub label_at : Search → ℕ → ℕ
label_at s y = slice_index s.label.items y

-- the reaction by which y was found
abbrev pub up_at : Search → ℕ → ℕ
up_at s y = slice_index s.up.items y

-- the number of steps to y
abbrev pub depth_at : Search → ℕ → ℕ
depth_at s y = slice_index s.depth.items y

-- the complex that was found after this many others
abbrev pub found_at : Search → ℕ → ℕ
found_at s i = slice_index s.queue.items i

-- the complex from which the newest search began
abbrev pub first_found : Search → ℕ
first_found s = found_at s 0

-- a place for each complex in each list
pub record AreLong (s : Search) : Type 0 where
  pub up : length s.up.items ≡ length s.label.items
  pub depth : length s.depth.items ≡ length s.label.items
  pub queue : length s.queue.items ≡ length s.label.items

-- no search has begun
pub record IsBlank (complexes : ℕ) (s : Search) : Type 0 where
  pub count : length s.label.items ≡ complexes
  pub long : AreLong s
  pub none : (y : ℕ) → label_at s y ≡ 0

-- the label is new
pub record IsReady (label : ℕ) (s : Search) : Type 0 where
  pub long : AreLong s
  pub some : 1 ≤ label
  pub unused : (y : ℕ) → label_at s y ≡ label → ⊥

-- y was found by its arc from a complex with one step less
pub record IsHung (arcs : List Arc) (s : Search) (y : ℕ) : Type 0 where
  pub d : ℕ
  pub its : label_at s d ≡ s.newest
  pub by_arc : HasArc arcs (up_at s y) d y
  pub deeper : depth_at s y ≡ suc (depth_at s d)

-- the search began at y, or found it from another complex
abbrev pub Hangs : List Arc → Search → ℕ → Type 0
Hangs arcs s y = ((y ≡ first_found s) × (up_at s y ≡ 0) × (depth_at s y ≡ 0)) ⊎ ((y ≢ first_found s) × IsHung arcs s y)

-- every complex to which an arc goes from y has a label
abbrev pub IsFollowed : List Arc → Search → ℕ → Type 0
IsFollowed arcs s y = (r z : ℕ) → HasArc arcs r y z → 1 ≤ label_at s z

-- the arcs from y are still to be followed
abbrev pub Waits : Search → ℕ → Type 0
Waits s y = (i : ℕ) × (s.done ≤ i) × (i < s.found) × (found_at s i ≡ y)

-- a search is on its way
pub record IsSpreading (arcs : List Arc) (s : Search) : Type 0 where
  pub long : AreLong s
  pub some : 1 ≤ s.newest
  pub begun : 1 ≤ s.found
  pub order : s.done ≤ s.found
  pub room : s.found + zeros s.label.items ≤ length s.label.items
  pub queued : (i : ℕ) → i < s.found → (found_at s i < length s.label.items) × (label_at s (found_at s i) ≡ s.newest)
  pub hangs : (y : ℕ) → label_at s y ≡ s.newest → Hangs arcs s y
  pub reached : (y : ℕ) → label_at s y ≡ s.newest → LeadsTo (Steps arcs) (first_found s) y
  pub deep : (y : ℕ) → label_at s y ≡ s.newest → depth_at s y + zeros s.label.items < length s.label.items
  pub followed : (y : ℕ) → label_at s y ≡ s.newest → IsFollowed arcs s y ⊎ Waits s y

-- what has a label stays, and the others get the new label or none
pub record KeepsLabels (newest : ℕ) (s t : Search) : Type 0 where
  pub long : length t.label.items ≡ length s.label.items
  pub label : (y : ℕ) → 1 ≤ label_at s y → label_at t y ≡ label_at s y
  pub up : (y : ℕ) → 1 ≤ label_at s y → up_at t y ≡ up_at s y
  pub depth : (y : ℕ) → 1 ≤ label_at s y → depth_at t y ≡ depth_at s y
  pub adds : (y : ℕ) → label_at s y ≡ 0 → (label_at t y ≡ 0) ⊎ (label_at t y ≡ newest)

-- the same search, further on
pub record GoesOn (s t : Search) : Type 0 where
  pub labels : KeepsLabels s.newest s t
  pub newest : t.newest ≡ s.newest
  pub found : s.found ≤ t.found
  pub count : t.found + zeros t.label.items ≡ s.found + zeros s.label.items
  pub queue : (i : ℕ) → i < s.found → found_at t i ≡ found_at s i

-- y was found by its arc from a complex with one step less
pub record IsReachedFrom (arcs : List Arc) (s : Search) (y : ℕ) : Type 0 where
  pub d : ℕ
  pub its : 1 ≤ label_at s d
  pub by_arc : HasArc arcs (up_at s y) d y
  pub deeper : depth_at s y ≡ suc (depth_at s d)

-- the complexes with labels are those to which arcs lead from c, in a tree from c
pub record IsReach (arcs : List Arc) (s : Search) (c : ℕ) : Type 0 where
  pub long : AreLong s
  pub found : (y : ℕ) → 1 ≤ label_at s y → LeadsTo (Steps arcs) c y
  pub all : (y : ℕ) → LeadsTo (Steps arcs) c y → 1 ≤ label_at s y
  pub hangs : (y : ℕ) → 1 ≤ label_at s y → ((y ≡ c) × (up_at s y ≡ 0) × (depth_at s y ≡ 0)) ⊎ ((y ≢ c) × IsReachedFrom arcs s y)
  pub deep : (y : ℕ) → 1 ≤ label_at s y → depth_at s y < length s.label.items
  pub size : s.found + zeros s.label.items ≡ length s.label.items
