-- The tests of the records of a rank: dual vectors of independent members, and each other member as
-- their combination.
-- Source: this project's own.
-- Shapes: reactions count from 1. The first number of a combination multiplies the vector that is
-- combined.
use Rattle.std.specs.Prelude.{◌≡◌, ◌≢◌, ◌<◌, ◌+◌, ◌-◌, ◌==◌, not, ℕ, suc, ℤ, pos, ◌≤ℤ◌, ◌*ℤ◌, List, [], ◌∷◌, ◌++◌, length, map, filter, drop, slice_index_or}
use Rattle.std.specs.List.{list_any}
use Rattle.crn_vec.specs.Network.{Net, reaction_vector}
use Rattle.crn_vec.specs.Vectors.{entry, dot}
use Rattle.crn_vec.specs.Rank.{combination_at}
use Rattle.crn_cert.specs.Tests.{Test, test}
use Rattle.crn_cert.specs.Faults.{NotIndependent, NotSpanned}

-- the vector of reaction r
abbrev pub vector_of : Net → ℕ → List ℤ
vector_of net r = reaction_vector net (slice_index_or net.reactions (r - 1) (0, 0))

-- the vectors of these reactions
abbrev pub vectors_of : Net → List ℕ → List (List ℤ)
vectors_of net rs = map (vector_of net) rs

-- the dual of member i: its product with member i is not zero, and with every other member it is
-- zero
pub record IsDual (vs : List (List ℤ)) (i : ℕ) (dual : List ℤ) : Type 0 where
  pub own : dot dual (slice_index_or vs i []) ≢ pos 0
  pub others : (j : ℕ) → j < length vs → i ≢ j → dot dual (slice_index_or vs j []) ≡ pos 0

-- the first number is at least 1, and that multiple of v is the combination of the vectors with the
-- other numbers
pub record IsComb (vs : List (List ℤ)) (v : List ℤ) (comb : List ℤ) : Type 0 where
  pub positive : pos 1 ≤ℤ entry comb 0
  pub is : (s : ℕ) → entry comb 0 *ℤ entry v s ≡ combination_at (drop 1 comb) vs s

-- the members outside the base, in order
abbrev pub outside : List ℕ → List ℕ → List ℕ
outside base members = filter (λ r. not (list_any (λ b. b == r) base)) members

-- the tests of the duals from member i on; the first of them is record `part`
abbrev pub dual_tests : List (List ℤ) → ℕ → ℕ → List (List ℤ) → List Test
dual_tests vs part i [] = []
dual_tests vs part i (dual ∷ duals) = test part NotIndependent (IsDual vs i dual)
    ∷ dual_tests vs (suc part) (suc i) duals

-- the tests of the combinations of these members; the first of them is record `part`, and a missing
-- one fails
abbrev pub comb_tests : Net → List (List ℤ) → ℕ → List ℕ → List (List ℤ) → List Test
comb_tests net vs part (r ∷ rs) (comb ∷ combs) = test part NotSpanned (IsComb vs (vector_of net r) comb)
    ∷ comb_tests net vs (suc part) rs combs
comb_tests net vs part (r ∷ rs) [] = test part NotSpanned ⊥ ∷ []
comb_tests net vs part [] combs = []

-- the tests of a rank over these members: the duals and combinations after the base, which is
-- record `part`
abbrev pub rank_tests : Net → List ℕ → ℕ → List ℕ → List (List ℤ) → List (List ℤ) → List Test
rank_tests net members part base duals combs =
    dual_tests (vectors_of net base) (part + 1) 0 duals
    ++ comb_tests net (vectors_of net base) (part + 1 + length base) (outside base members) combs
