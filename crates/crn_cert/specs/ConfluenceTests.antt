-- The tests of the records of a confluence vector, and of ties.
-- Source: this project's own.
-- Shapes: complexes count from 0. A tie is a list of multipliers, one for each row of the
-- confluence system.
use Rattle.std.specs.Prelude.{◌≡◌, ◌≢◌, ◌≤◌, ◌<◌, ◌⊎◌, ◌==◌, not, ℕ, zero, suc, ℤ, pos, ◌≤ℤ◌, List, [], ◌∷◌, length, filter, slice_index}
use Rattle.std.specs.List.{range_with_len}
use Rattle.crn_vec.specs.Network.{Net}
use Rattle.crn_vec.specs.Vectors.{dot}
use Rattle.crn_vec.specs.Rank.{combination_at}
use Rattle.crn_vec.specs.Sums.{label_marks}
use Rattle.crn_vec.specs.NetSystems.{confluence_system}
use Rattle.crn_cert.specs.Tests.{Test, test}
use Rattle.crn_cert.specs.Faults.{BadVector}

-- the combination of the complexes with the entries of g is zero, and g sums to zero over each
-- linkage class
pub record IsInSpace (net : Net) (linkage : List ℕ) (count : ℕ) (g : List ℤ) : Type 0 where
  pub balance : (s : ℕ) → combination_at g net.complexes s ≡ pos 0
  pub classes : (k : ℕ) → 1 ≤ k → k ≤ count → dot (label_marks linkage k) g ≡ pos 0

-- the sum over each terminal strong class, which has the exit 0, is at least zero
abbrev pub DoTerminalsGather : List ℕ → List ℕ → List ℤ → Type 0
DoTerminalsGather strong exits g = (m : ℕ) → m < length exits → slice_index exits m ≡ 0
    → pos 0 ≤ℤ dot (label_marks strong (suc m)) g

-- the multipliers times the rows of the confluence system, at complex c
abbrev pub tie_at : Net → List ℕ → ℕ → List ℤ → ℕ → ℤ
tie_at net linkage count tie c = combination_at tie (confluence_system net linkage count).rows c

-- a tie of complex c: the product is not zero at c, and is zero at all others that are not spared
pub record IsTie (net : Net) (linkage : List ℕ) (count : ℕ) (spared : ℕ → Type 0) (c : ℕ)
    (tie : List ℤ) : Type 0 where
  pub own : tie_at net linkage count tie c ≢ pos 0
  pub others : (d : ℕ) → d < length net.complexes → d ≢ c
      → spared d ⊎ (tie_at net linkage count tie d ≡ pos 0)

-- the least place of a nonzero entry, from k on
abbrev pub least_from : ℕ → List ℤ → ℕ
least_from k [] = k
least_from k (pos zero ∷ xs) = least_from (suc k) xs
least_from k (x ∷ xs) = k

-- the complexes other than this one
abbrev pub others_than : Net → ℕ → List ℕ
others_than net c = filter (λ d. not (d == c)) (range_with_len 0 (length net.complexes))

-- the tests of the ties of these complexes; the first of them is record `part`, and a missing tie
-- fails
abbrev pub tie_tests : Net → List ℕ → ℕ → (ℕ → Type 0) → ℕ → List ℕ → List (List ℤ) → List Test
tie_tests net linkage count spared part (c ∷ cs) (tie ∷ ties) =
    test part BadVector (IsTie net linkage count spared c tie)
    ∷ tie_tests net linkage count spared (suc part) cs ties
tie_tests net linkage count spared part (c ∷ cs) [] = test part BadVector ⊥ ∷ []
tie_tests net linkage count spared part [] ties = []
