-- Parts of definitions that compute, at small networks worked by hand.
use Rattle.crn_cert.proofs.Prelude.{◌≡◌, ℕ, ◌≤◌, List, [], ◌∷◌, refl, arith, lit≤, pos, negsuc, range_with_len, WIDE_SOLUTION, KeptNums, combination_at, vectors, reaction_system, confluence_system, Classes, Strong, NotRegular, NotApplicable, least_from, others_than, tie_at, outside, Zero, Plus, Minus, plain_table, strong_table, Test, Plan, Both, Three, RulesA, Level, IsFormedTree, tree_tests, cuts_of, Net, Budget, Unknown, Earlier, HeadMayBe, MayRestOn, terminals_in, class_places, pair_places, Q1, Q2, Q6, Q7, Q12, Q13, on, fault_number}
use Rattle.crn_cert.proofs.Networks.{chain, enzyme}

abbrev listed : List ℕ → KeptNums
listed xs = record { list = xs; spare = 0 }

-- ---- A -> 2A, A -> 0

abbrev branching_said : Earlier
branching_said = (Q1, Classes 1 (listed (1 ∷ 1 ∷ 1 ∷ []))) ∷ (Q2, Strong 3 2 (listed (1 ∷ 2 ∷ 3 ∷ [])) (listed (1 ∷ 0 ∷ 0 ∷ []))) ∷ []

branching-terminals : terminals_in branching_said 1 ≡ 2
branching-terminals = refl

-- ---- 2A <-> A + B <-> 2B

abbrev chain_said : Earlier
chain_said = (Q1, Classes 1 (listed (1 ∷ 1 ∷ 1 ∷ []))) ∷ (Q2, Strong 1 1 (listed (1 ∷ 1 ∷ 1 ∷ [])) (listed (0 ∷ []))) ∷ []

-- of each linked pair the least reaction
chain-pairs : pair_places chain chain_said ≡ 1 ∷ 3 ∷ []
chain-pairs = refl

chain-vectors : vectors chain ≡ (negsuc 0 ∷ pos 1 ∷ []) ∷ (pos 1 ∷ negsuc 0 ∷ []) ∷ (negsuc 0 ∷ pos 1 ∷ []) ∷ (pos 1 ∷ negsuc 0 ∷ []) ∷ []
chain-vectors = refl

chain-outside : outside (1 ∷ []) (range_with_len 1 4) ≡ 2 ∷ 3 ∷ 4 ∷ []
chain-outside = refl

chain-places : class_places chain chain_said 1 ≡ 1 ∷ 2 ∷ 3 ∷ 4 ∷ []
chain-places = refl

-- the rows of the confluence system: the amounts of A and of B, then the linkage class
chain-system : (confluence_system chain (1 ∷ 1 ∷ 1 ∷ []) 1).rows ≡ (pos 2 ∷ pos 1 ∷ pos 0 ∷ []) ∷ (pos 0 ∷ pos 1 ∷ pos 2 ∷ []) ∷ (pos 1 ∷ pos 1 ∷ pos 1 ∷ []) ∷ []
chain-system = refl

chain-reactions : (reaction_system chain).rows ≡ (negsuc 0 ∷ pos 1 ∷ negsuc 0 ∷ pos 1 ∷ []) ∷ (pos 1 ∷ negsuc 0 ∷ pos 1 ∷ negsuc 0 ∷ []) ∷ []
chain-reactions = refl

-- the vector 1 -2 1 balances, and the tie 0 1 0 is 0 1 2 at the complexes
chain-balance : combination_at (pos 1 ∷ negsuc 1 ∷ pos 1 ∷ []) ((pos 2 ∷ pos 0 ∷ []) ∷ (pos 1 ∷ pos 1 ∷ []) ∷ (pos 0 ∷ pos 2 ∷ []) ∷ []) 0 ≡ pos 0
chain-balance = refl

chain-tie : tie_at chain (1 ∷ 1 ∷ 1 ∷ []) 1 (pos 0 ∷ pos 1 ∷ pos 0 ∷ []) 2 ≡ pos 2
chain-tie = refl

chain-others : others_than chain (least_from 0 (pos 1 ∷ negsuc 1 ∷ pos 1 ∷ [])) ≡ 1 ∷ 2 ∷ []
chain-others = refl

-- ---- lists of fewer questions

-- if only questions 1 and 7 are answered, there is no verdict on question 6
abbrev half_built : Earlier
half_built = (Q1, Classes 1 (listed (1 ∷ 1 ∷ []))) ∷ (Q7, NotRegular) ∷ []

half_built-six : on half_built Q6 ≡ NotApplicable
half_built-six = refl

half_built-seven : on half_built Q7 ≡ NotRegular
half_built-seven = refl

-- ---- influence tables of A + E -> B + E, B -> A

enzyme-plain : plain_table enzyme ≡ (Plus ∷ Plus ∷ Zero ∷ []) ∷ (Zero ∷ Zero ∷ Plus ∷ []) ∷ []
enzyme-plain = refl

enzyme-strong : strong_table enzyme ≡ (Plus ∷ Zero ∷ Minus ∷ []) ∷ (Minus ∷ Zero ∷ Plus ∷ []) ∷ []
enzyme-strong = refl

-- ---- trees

-- a split of the root with a cut and a closed prefix below
abbrev small : Plan
small = Both (RulesA (pos 1 ∷ pos 0 ∷ [])) Level

-- the records of tests, and their codes
abbrev where_tested : List Test → List (ℕ × ℕ)
where_tested [] = []
where_tested (t ∷ ts) = (t.part, fault_number t.fault) ∷ where_tested ts

small-tests : where_tested (tree_tests (λ p said. Unit {0}) 1 [] small) ≡ (1, 42) ∷ (2, 41) ∷ (3, 42) ∷ []
small-tests = refl

-- it is formed for one choice and parts of two rows; a root with three children is not, as the root is a prefix of zeros
small-formed : IsFormedTree 1 2 2 [] small
small-formed =
    let wide : 2 ≤ WIDE_SOLUTION = lit≤ tt in
    (omega arith, refl, record { long = refl; each = (omega (arith, wide), (omega (arith, wide), tt)) }, tt)

small-three : IsFormedTree 1 2 2 [] (Three Level Level Level) → ⊥
small-three f = absurd cc

small-cuts : cuts_of small ≡ (pos 1 ∷ pos 0 ∷ []) ∷ []
small-cuts = refl

-- no budget leaves question 12 open, and no number but 12 is that of the question on which 13 rests
rests-thirteen : MayRestOn Q13 12
rests-thirteen = refl

rests-other : MayRestOn Q13 11 → ⊥
rests-other e = omega (arith, e)

spent-twelve : (net : Net) (earlier : Earlier) → HeadMayBe net earlier Q12 (Unknown (Budget 1)) → ⊥
spent-twelve net earlier s = absurd s
