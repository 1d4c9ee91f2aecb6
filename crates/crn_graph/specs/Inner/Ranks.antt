-- For the contracts of private functions alone.
-- The search that ranks strong classes: what holds of its path, of the parts of the path, and of the arcs that it has followed.
-- Shapes: complexes, parts and what is on the path are counted from 0; a place is counted from 1, and is 0 for a complex that is not reached; ranks are counted from 1, and are 0 until they are known.
use Rattle.std.specs.Prelude.{◌≡◌, ◌≤◌, ◌<◌, ◌+◌, ◌-◌, ◌*◌, ◌⊎◌, ℕ, List, length, slice_index, set, sum_by}
use Rattle.crn_vec.specs.Walks.{LeadsTo}
use Rattle.crn_graph.specs.declared.arcs.Arc.{Arc}
use Rattle.crn_graph.specs.declared.ranks.Ranking.{Ranking}
use Rattle.crn_graph.specs.Arcs.{arc_at, HasArc}
use Rattle.crn_graph.specs.Inner.Graph.{IsNext}
use Rattle.crn_graph.specs.Inner.Search.{Steps, zeros}
use Rattle.crn_graph.specs.Inner.Strong.{AreStrong}

-- the rank of the class of y
abbrev pub rank_at : Ranking → ℕ → ℕ
rank_at s y = slice_index s.rank.items y

-- the place of y
abbrev pub place_at : Ranking → ℕ → ℕ
place_at s y = slice_index s.place.items y

-- the complex so far along the path
abbrev pub path_at : Ranking → ℕ → ℕ
path_at s i = slice_index s.path.items i

-- where a part of the path begins
abbrev pub start_at : Ranking → ℕ → ℕ
start_at s j = slice_index s.start.items j

-- a complex that may have arcs to be followed
abbrev pub open_at : Ranking → ℕ → ℕ
open_at s i = slice_index s.waiting.items i

-- the chain of the arcs from y that are to be followed
abbrev pub rest_at : Ranking → ℕ → ℕ
rest_at s y = slice_index s.rest.items y

-- each list has a place for each of this many complexes
pub record AreLongRanks (n : ℕ) (s : Ranking) : Type 0 where
  pub rank : length s.rank.items ≡ n
  pub place : length s.place.items ≡ n
  pub path : length s.path.items ≡ n
  pub start : length s.start.items ≡ n
  pub waiting : length s.waiting.items ≡ n
  pub rest : length s.rest.items ≡ n

-- a chain of arcs from y
pub record IsRest (arcs : List Arc) (y chain : ℕ) : Type 0 where
  pub inside : chain ≤ length arcs
  pub its_own : (p : ℕ) → p + 1 ≡ chain → (arc_at arcs p).from ≡ y

-- y is on the path
abbrev pub IsOnPath : Ranking → ℕ → Type 0
IsOnPath s y = (1 ≤ place_at s y) × (rank_at s y ≡ 0)

-- no part begins after y, and not after z
abbrev pub IsNoEarlier : Ranking → ℕ → ℕ → Type 0
IsNoEarlier s y z = (j : ℕ) → j < s.parts → start_at s j < place_at s y → start_at s j < place_at s z

-- an arc from y to z is followed: z has a rank, or was reached and is in no earlier part than y
abbrev pub IsSettled : Ranking → ℕ → ℕ → Type 0
IsSettled s y z = (1 ≤ rank_at s z) ⊎ ((1 ≤ place_at s z) × IsNoEarlier s y z)

-- the path
pub record IsPath (s : Ranking) : Type 0 where
  pub inside : (i : ℕ) → i < s.held → path_at s i < length s.rank.items
  pub placed : (i : ℕ) → i < s.held → place_at s (path_at s i) ≡ i + 1
  pub unranked : (i : ℕ) → i < s.held → rank_at s (path_at s i) ≡ 0
  pub on : (y : ℕ) → IsOnPath s y → (place_at s y ≤ s.held) × (path_at s (place_at s y - 1) ≡ y)
  pub fresh : (y : ℕ) → place_at s y ≡ 0 → rank_at s y ≡ 0
  pub room : s.held + zeros s.place.items ≤ length s.rank.items

-- the parts of the path
pub record AreParts (arcs : List Arc) (s : Ranking) : Type 0 where
  pub first : 1 ≤ s.parts → start_at s 0 ≡ 0
  pub some : s.parts ≡ 0 → s.held ≡ 0
  pub inside : (j : ℕ) → j < s.parts → (j ≤ start_at s j) × (start_at s j < s.held)
  pub rising : (i j : ℕ) → i < j → j < s.parts → start_at s i < start_at s j
  pub leads : (i j : ℕ) → i ≤ j → j < s.held → LeadsTo (Steps arcs) (path_at s i) (path_at s j)
  pub together : (i j : ℕ) → i < s.held → j < s.parts → start_at s j ≤ i → ((k : ℕ) → j < k → k < s.parts → i < start_at s k)
      → LeadsTo (Steps arcs) (path_at s i) (path_at s (start_at s j))

-- the arcs
pub record AreFollowed (arcs : List Arc) (s : Ranking) : Type 0 where
  pub rests : (y : ℕ) → y < length s.rank.items → IsRest arcs y (rest_at s y)
  pub untouched : (p : ℕ) → p < length arcs → place_at s (arc_at arcs p).from ≡ 0 → p < rest_at s (arc_at arcs p).from
  pub followed : (p : ℕ) → p < length arcs → IsOnPath s (arc_at arcs p).from
      → (p < rest_at s (arc_at arcs p).from) ⊎ IsSettled s (arc_at arcs p).from (arc_at arcs p).to

-- the classes that are known
pub record AreRanked (arcs : List Arc) (s : Ranking) : Type 0 where
  pub room : s.count + zeros s.rank.items ≤ length s.rank.items
  pub most : (y : ℕ) → rank_at s y ≤ s.count
  pub falls : (r y z : ℕ) → HasArc arcs r y z → 1 ≤ rank_at s y → (1 ≤ rank_at s z) × (rank_at s z ≤ rank_at s y)
  pub strong : (y z : ℕ) → 1 ≤ rank_at s y → rank_at s y ≡ rank_at s z → AreStrong arcs y z

-- the complexes that may have arcs to be followed
pub record AreOpen (s : Ranking) : Type 0 where
  pub on : (i : ℕ) → i < s.left → IsOnPath s (open_at s i)
  pub places : (i : ℕ) → i < s.left → i < place_at s (open_at s i)
  pub order : (i j : ℕ) → i < j → j < s.left → place_at s (open_at s i) < place_at s (open_at s j)
  pub waits : (y : ℕ) → IsOnPath s y → (rest_at s y ≡ 0) ⊎ ((i : ℕ) × (i < s.left) × (open_at s i ≡ y))

-- a search that ranks strong classes is on its way
pub record IsRanking (arcs : List Arc) (s : Ranking) : Type 0 where
  pub long : AreLongRanks (length s.rank.items) s
  pub path : IsPath s
  pub parts : AreParts arcs s
  pub steps : AreFollowed arcs s
  pub ranked : AreRanked arcs s
  pub opened : AreOpen s

-- the same complexes, and those that were reached are so still
pub record KeepsPlaces (s t : Ranking) : Type 0 where
  pub long : length t.rank.items ≡ length s.rank.items
  pub reached : (y : ℕ) → 1 ≤ place_at s y → 1 ≤ place_at t y

-- t has y at the end of the path, as a part of its own, after s
pub record HasEntered (s t : Ranking) (y : ℕ) : Type 0 where
  pub place : t.place.items ≡ set s.place.items y (s.held + 1)
  pub path : t.path.items ≡ set s.path.items s.held y
  pub start : t.start.items ≡ set s.start.items s.parts s.held
  pub waiting : t.waiting.items ≡ set s.waiting.items s.left y
  pub rank : t.rank.items ≡ s.rank.items
  pub rest : t.rest.items ≡ s.rest.items
  pub held : t.held ≡ s.held + 1
  pub parts : t.parts ≡ s.parts + 1
  pub left : t.left ≡ s.left + 1
  pub count : t.count ≡ s.count

-- the parts after that of a place are joined to it
pub record HasMerged (place : ℕ) (s : Ranking) (parts : ℕ) : Type 0 where
  pub some : 1 ≤ parts
  pub fewer : parts ≤ s.parts
  pub gone : (j : ℕ) → parts ≤ j → j < s.parts → place ≤ start_at s j

-- in t the complexes of the path from a place on have a rank, after s
pub record HasClosed (s t : Ranking) (low rank : ℕ) : Type 0 where
  pub long : length t.rank.items ≡ length s.rank.items
  pub made : (i : ℕ) → low ≤ i → i < s.held → rank_at t (path_at s i) ≡ rank
  pub others : (y : ℕ) → ((i : ℕ) → low ≤ i → i < s.held → path_at s i ≡ y → ⊥) → rank_at t y ≡ rank_at s y
  pub fewer : zeros t.rank.items + (s.held - low) ≡ zeros s.rank.items

-- t has come from y to z by an arc, after s: all but that the arc is not taken from the rest of y
pub record HasCome (arcs : List Arc) (s t : Ranking) (y z : ℕ) : Type 0 where
  pub ranking : IsRanking arcs t
  pub keeps : KeepsPlaces s t
  pub settled : IsSettled t y z
  pub on : IsOnPath t y
  pub waits : (i : ℕ) × (i < t.left) × (open_at t i ≡ y)
  pub rest : t.rest.items ≡ s.rest.items
  pub few : t.left + t.parts ≤ s.left + s.parts + 2

-- the last complex with arcs to be followed is in the last part
pub record IsOpenEnd (s : Ranking) : Type 0 where
  pub some : 1 ≤ s.left
  pub last : start_at s (s.parts - 1) < place_at s (open_at s (s.left - 1))

-- what each step makes less
abbrev pub weight : Ranking → ℕ
weight s = 3 * sum_by (λ c. c) s.rest.items + s.left + s.parts

-- no complex is reached
pub record IsUnranked (arcs : List Arc) (n : ℕ) (s : Ranking) : Type 0 where
  pub rank : length s.rank.items ≡ n
  pub place : length s.place.items ≡ n
  pub path : length s.path.items ≡ n
  pub start : length s.start.items ≡ n
  pub waiting : length s.waiting.items ≡ n
  pub rest : length s.rest.items ≡ n
  pub none : (y : ℕ) → rank_at s y ≡ 0
  pub free : (y : ℕ) → place_at s y ≡ 0
  pub chains : (y : ℕ) → y < n → IsNext arcs y (length arcs) (rest_at s y)
  pub held : s.held ≡ 0
  pub parts : s.parts ≡ 0
  pub left : s.left ≡ 0
  pub count : s.count ≡ 0

-- the ranks of the strong classes, from 1 to a number
pub record AreRanks (arcs : List Arc) (n : ℕ) (ranks : List ℕ) : Type 0 where
  pub long : length ranks ≡ n
  pub some : (y : ℕ) → y < n → 1 ≤ slice_index ranks y
  pub most : (y : ℕ) → slice_index ranks y ≤ n
  pub falls : (r y z : ℕ) → HasArc arcs r y z → slice_index ranks z ≤ slice_index ranks y
  pub strong : (y z : ℕ) → y < n → slice_index ranks y ≡ slice_index ranks z → AreStrong arcs y z
