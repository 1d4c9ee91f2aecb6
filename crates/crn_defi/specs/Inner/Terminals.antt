-- For the contracts of private functions alone. The terminal strong classes of linkage classes, and
-- the verdict on the Deficiency One Theorem by deficiencies.
-- Source: this project's own.
-- Shapes: labels and classes count from 1, complexes from 0. `strong` and `linkage` hold a label
-- for each complex, `exits` for each strong class 0 or a reaction that leaves it.
use Rattle.std.specs.Prelude.{◌≡◌, ◌≢◌, ◌≤◌, ◌<◌, ◌-◌, ℕ, List, length, slice_index, sum}
use Rattle.crn_vec.specs.declared.limits.TheConstants.{MAX_COMPLEXES}
use Rattle.crn_vec.specs.Deficiency.{AreAtMostOne}
use Rattle.crn_cert.specs.declared.answer.Verdict.{Verdict}
use Rattle.crn_cert.specs.declared.answer.Verdict.TheVariants.{Deficiency, Yes, NoClass, NoSum, Unknown}
use Rattle.crn_cert.specs.declared.answer.Gap.TheVariants.{Rests}
use Rattle.crn_cert.specs.Ranges.{IsFrom}
use Rattle.crn_cert.specs.Valid.{terminals_of, IsFirstLarge}

-- each label is one of this many classes
abbrev pub AreClassNumbers : List ℕ → ℕ → Type 0
AreClassNumbers labels count = (y : ℕ) → y < length labels
    → (1 ≤ slice_index labels y) × (slice_index labels y ≤ count)

-- complex y is of linkage class k, and of a strong class without an exit
abbrev pub IsOfTerminal : List ℕ → List ℕ → List ℕ → ℕ → ℕ → Type 0
IsOfTerminal strong exits linkage k y = (slice_index linkage y ≡ k)
    × (slice_index exits (slice_index strong y - 1) ≡ 0)

-- the linkage classes up to the last have one terminal strong class each
abbrev pub HaveOneUpTo : List ℕ → List ℕ → List ℕ → ℕ → ℕ → Type 0
HaveOneUpTo strong exits linkage count last = (k : ℕ) → 1 ≤ k → k ≤ last
    → terminals_of strong exits linkage count k ≡ 1

-- linkage class k is the least that has not one terminal strong class, and has n of them
pub record IsFirstWithMore (strong exits linkage : List ℕ) (count classes k n : ℕ) : Type 0 where
  pub from : IsFrom 1 classes k
  pub is : terminals_of strong exits linkage count k ≡ n
  pub other : n ≢ 1
  pub before : HaveOneUpTo strong exits linkage count (k - 1)

-- class k is the least of deficiency 2 or more, and has deficiency d
pub record IsLarge (deficiencies : List ℕ) (k d : ℕ) : Type 0 where
  pub from : IsFrom 1 (length deficiencies) k
  pub first : IsFirstLarge k d deficiencies

-- the second and the third hypothesis hold, or the first of them that fails
abbrev pub IsVerdictOn : ℕ → List ℕ → Verdict → Type 0
IsVerdictOn total deficiencies Yes = AreAtMostOne deficiencies × (sum deficiencies ≡ total)
IsVerdictOn total deficiencies (NoClass k d) = IsLarge deficiencies k d
IsVerdictOn total deficiencies (NoSum x) = AreAtMostOne deficiencies × (sum deficiencies ≡ x)
    × (x ≢ total)
IsVerdictOn total deficiencies verdict = ⊥

-- the deficiencies are of no more linkage classes than a network may have complexes, or are open
abbrev pub IsFewOrOpen : Verdict → Type 0
IsFewOrOpen (Deficiency total classes) = length classes.list ≤ MAX_COMPLEXES
IsFewOrOpen (Unknown gap) = Unit {0}
IsFewOrOpen verdict = ⊥

-- the verdict by the deficiencies, or open because they are
abbrev pub IsVerdictAfter : Verdict → Verdict → Type 0
IsVerdictAfter (Deficiency total classes) verdict = IsVerdictOn total classes.list verdict
IsVerdictAfter other verdict = verdict ≡ Unknown (Rests 6)
