-- The share of answers: the lists of their cuts, each written once.
-- Source: this project's own.
-- Shapes: the lists of a table count from 1, and 0 names none. `most` is the greatest number of
-- lists of a table.
use Rattle.std.specs.Prelude.{◌≡◌, ◌≤◌, ◌+◌, if◌then◌else◌, ℕ, zero, suc, ℤ, List, [], ◌∷◌, ◌++◌, length, map, take}
use Rattle.std.specs.List.{AllByRecursion, AllZip}
use Rattle.std.specs.Ordering.{int_eq}
use Rattle.std.specs.Cmp.Lexicographic.{pointwise}
use Rattle.crn_vec.specs.Lists.{firsts}
use Rattle.crn_cert.specs.declared.answer.Proof.{Proof}
use Rattle.crn_cert.specs.declared.answer.Proof.TheVariants.{One, Two}
use Rattle.crn_cert.specs.declared.answer.Answer.{Answer}
use Rattle.crn_cert.specs.Ranges.{IsNarrow}
use Rattle.crn_cert.specs.Trees.{Plan, Both, Three, RulesA, RulesB, Level}

-- the lists of the cuts of a tree, in preorder
abbrev pub cuts_of : Plan → List (List ℤ)
cuts_of (Both z p) = cuts_of z ++ cuts_of p
cuts_of (Three z p m) = cuts_of z ++ cuts_of p ++ cuts_of m
cuts_of (RulesA u) = u ∷ []
cuts_of (RulesB u) = u ∷ []
cuts_of Level = []

-- the lists of the cuts of the trees of a proof, in preorder
abbrev pub cuts_in : Proof → List (List ℤ)
cuts_in (One tree) = cuts_of tree
cuts_in (Two tree second) = cuts_of tree ++ cuts_of second
cuts_in proof = []

-- the lists of all cuts of answers, in their order
abbrev pub all_cuts : List Answer → List (List ℤ)
all_cuts [] = []
all_cuts (answer ∷ answers) = cuts_in answer.proof ++ all_cuts answers

-- a share: lists that are written once, and for each cut the number of its list, or 0 if the cut is
-- written with its numbers
pub record Shared : Type 0 where
  pub table : List (List ℤ)
  pub leaf : List ℕ

-- the number is 0, or that of the list u in the table
abbrev pub HasAt : List (List ℤ) → ℕ → List ℤ → Type 0
HasAt table zero u = Unit {0}
HasAt [] (suc k) u = ⊥
HasAt (t ∷ ts) (suc zero) u = t ≡ u
HasAt (t ∷ ts) (suc (suc k)) u = HasAt ts (suc k) u

-- a list that a line may hold: from 1 to `room` numbers of a certificate
pub record IsShareable (room : ℕ) (u : List ℤ) : Type 0 where
  pub some : 1 ≤ length u
  pub few : length u ≤ room
  pub narrow : AllByRecursion IsNarrow u

-- a share fits cuts: each is written with its numbers, or has the number of its list in the table
pub record FitsCuts (most room : ℕ) (cuts : List (List ℤ)) (share : Shared) : Type 0 where
  pub few : length share.table ≤ most
  pub lists : AllByRecursion (IsShareable room) share.table
  pub leaves : AllZip (HasAt share.table) share.leaf cuts

-- a share fits answers: it fits all their cuts
abbrev pub FitsAnswers : ℕ → ℕ → List Answer → Shared → Type 0
FitsAnswers most room answers share = FitsCuts most room (all_cuts answers) share

-- the number of the list among these, which count from k, or 0
abbrev pub number_in : ℕ → List (List ℤ) → List ℤ → ℕ
number_in k [] u = 0
number_in k (t ∷ ts) u = if pointwise int_eq t u then k else number_in (k + 1) ts u

-- the share of cuts: the first `most` distinct lists, and for each cut the number of its list, or 0
abbrev pub share_of_cuts : ℕ → List (List ℤ) → Shared
share_of_cuts most cuts =
    let table = take most (firsts (pointwise int_eq) cuts) in
    record { table = table; leaf = map (number_in 1 table) cuts }

-- the share of answers: that of all their cuts
abbrev pub share_of : ℕ → List Answer → Shared
share_of most answers = share_of_cuts most (all_cuts answers)

-- the share of cuts that lines may hold fits them
abbrev pub SharesFit : Type 0
SharesFit = (most room : ℕ) (cuts : List (List ℤ)) → AllByRecursion (IsShareable room) cuts
    → FitsCuts most room cuts (share_of_cuts most cuts)
