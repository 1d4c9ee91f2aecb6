-- Combinations of vectors, independence, dependence and rank.
-- Source: any book of linear algebra. Numbers are whole, so a vector depends on others if a
-- positive multiple of it is a combination of them.
-- Shapes: `vs` is a list of vectors, `column vs k` the list of their entries at place k. There are
-- as many coefficients as vectors.
use Rattle.std.specs.Prelude.{◌≡◌, ◌<◌, ℕ, suc, ℤ, pos, ◌≤ℤ◌, ◌*ℤ◌, List, [], length, map, slice_index_or}
use Rattle.crn_vec.specs.Lists.{IsIn, IsAscending}
use Rattle.crn_vec.specs.Vectors.{entry, dot, column}

-- each entry is zero
abbrev pub IsZero : List ℤ → Type 0
IsZero v = (k : ℕ) → entry v k ≡ pos 0

-- the entry at place k of the combination of the vectors with these coefficients
abbrev pub combination_at : List ℤ → List (List ℤ) → ℕ → ℤ
combination_at c vs k = dot c (column vs k)

-- only zeros combine the vectors to zero
abbrev pub IsIndependent : List (List ℤ) → Type 0
IsIndependent vs = (c : List ℤ) → length c ≡ length vs
    → ((k : ℕ) → combination_at c vs k ≡ pos 0) → IsZero c

-- some positive multiple of v is a combination of the vectors
pub record DependsOn (v : List ℤ) (vs : List (List ℤ)) : Type 0 where
  pub d : ℤ
  pub positive : pos 1 ≤ℤ d
  pub c : List ℤ
  pub long : length c ≡ length vs
  pub is : (k : ℕ) → d *ℤ entry v k ≡ combination_at c vs k

-- different places of a list of this many members, in order
pub record IsChoice (count : ℕ) (places : List ℕ) : Type 0 where
  pub ascending : IsAscending places
  pub below : (k : ℕ) → IsIn k places → k < count

-- the vectors at these places
abbrev pub chosen : List ℕ → List (List ℤ) → List (List ℤ)
chosen places vs = map (λ k. slice_index_or vs k []) places

-- some s of the vectors are independent, and no s + 1 of them are
pub record IsRank (vs : List (List ℤ)) (s : ℕ) : Type 0 where
  pub places : List ℕ
  pub choice : IsChoice (length vs) places
  pub count : length places ≡ s
  pub independent : IsIndependent (chosen places vs)
  pub greatest : (more : List ℕ) → IsChoice (length vs) more → length more ≡ suc s
      → IsIndependent (chosen more vs) → ⊥

-- if every vector of a list depends on independent members of it, their number is its rank
abbrev pub BaseGivesRank : Type 0
BaseGivesRank = (vs : List (List ℤ)) (places : List ℕ) → IsChoice (length vs) places
    → IsIndependent (chosen places vs)
    → ((k : ℕ) → k < length vs → DependsOn (slice_index_or vs k []) (chosen places vs))
    → IsRank vs (length places)

-- a list of vectors has one rank
abbrev pub RankIsOneNumber : Type 0
RankIsOneNumber = (vs : List (List ℤ)) (s t : ℕ) → IsRank vs s → IsRank vs t → s ≡ t
