-- For the contracts of private functions alone. The kind of a head, and the verdict of its numbers
-- and of the records below it.
-- Source: this project's own format. Shapes: the numbers of a head follow the place of its form,
-- which counts from 1.
use Rattle.std.specs.Prelude.{◌≡◌, ◌⊎◌, ◌<◌, ◌^◌, ℕ, ℤ, nat_abs, List, [], ◌∷◌}
use Rattle.std.specs.List.{AllByRecursion}
use Rattle.crn_cert.specs.declared.answer.Verdict.{Verdict}
use Rattle.crn_cert.specs.declared.head_kind.HeadKind.{HeadKind}
use Rattle.crn_cert.specs.declared.head_kind.HeadKind.TheVariants.{Classes, Strong, Rank, Deficiency, YesVec, YesSignal, NoVec, NoCycle, NoPair, Plane, Wide, Budget, Rests}
use Rattle.crn_cert.specs.Questions.{Question}
use Rattle.crn_ctext.specs.Records.{Record}
use Rattle.crn_ctext.specs.Meaning.{lists, number, row, verdict_by}
use Rattle.crn_ctext.specs.Questions.{kind_at, later_numbers}

-- the absolute value of the number fits 32 bits
abbrev pub IsSmall : ℤ → Type 0
IsSmall z = nat_abs z < 2 ^ 32

-- the numbers are small
abbrev pub AreSmall : List ℤ → Type 0
AreSmall zs = AllByRecursion IsSmall zs

-- the numbers of the records at these places are small
abbrev pub AreSmallAt : (places : List ℕ) → List (List ℤ) → Type 0
AreSmallAt places rows = AllByRecursion (λ i. AreSmall (row rows i)) places

-- the places, from 0, of the records that a verdict of this kind keeps as naturals
abbrev pub kept : HeadKind → List ℕ
kept Classes = 0 ∷ []
kept Strong = 0 ∷ 6 ∷ []
kept Rank = 0 ∷ []
kept NoCycle = 0 ∷ []
kept kind = []

-- a verdict of this kind has lists of naturals
abbrev pub HasNums : HeadKind → Type 0
HasNums kind = (kind ≡ Classes) ⊎ (kind ≡ Strong) ⊎ (kind ≡ Rank) ⊎ (kind ≡ Deficiency) ⊎ (kind ≡ NoCycle)

-- a verdict of this kind has lists of integers
abbrev pub HasInts : HeadKind → Type 0
HasInts kind = (kind ≡ YesVec) ⊎ (kind ≡ YesSignal) ⊎ (kind ≡ NoVec) ⊎ (kind ≡ NoPair) ⊎ (kind ≡ Plane)

-- a verdict of this kind is open
abbrev pub IsOpen : HeadKind → Type 0
IsOpen kind = (kind ≡ Wide) ⊎ (kind ≡ Budget) ⊎ (kind ≡ Rests)

-- the kind of a head by the place of its form, its first number
abbrev pub kind_of : Question → (head : List ℤ) → HeadKind
kind_of q head = kind_at q (number head 0)

-- the verdict of a head with these numbers, and of the records below it
abbrev pub verdict_of_head : Question → List ℤ → List Record → Verdict
verdict_of_head q head rs = verdict_by (kind_of q head) (later_numbers head) (lists rs)
