-- Heads of verdicts: what is known of a verdict before the records of its lists are read.
-- Source: this project's own.
use Rattle.std.specs.Prelude.{◌↔◌, ℕ, pos, []}
use Rattle.crn_vec.specs.Network.{Net}
use Rattle.crn_vec.specs.Kept.{KeptInts, KeptNums}
use Rattle.crn_cert.specs.declared.answer.Verdict.{Verdict}
use Rattle.crn_cert.specs.declared.answer.Verdict.TheVariants.{Classes, Strong, Rank, YesVec, YesSignal, NoVec, NoCycle, NoPair, Plane}
use Rattle.crn_cert.specs.Questions.{Earlier, Question}
use Rattle.crn_cert.specs.Tests.{AllHold, FailsFirst}
use Rattle.crn_cert.specs.Valid.{head_tests}
use Rattle.crn_cert.specs.Formed.{HeadMayBe}

-- an empty list of natural numbers
abbrev pub no_nums : KeptNums
no_nums = record { list = []; spare = 0 }

-- an empty list of signed numbers
abbrev pub no_ints : KeptInts
no_ints = record { list = []; spare = 0 }

-- the verdict without the lists that later records hold
abbrev pub bare : Verdict → Verdict
bare (Classes count label) = Classes count no_nums
bare (Strong count terminal label exit) = Strong count terminal no_nums no_nums
bare (Rank rank base) = Rank rank no_nums
bare (YesVec vector) = YesVec no_ints
bare (YesSignal turn shelves mu level weights) = YesSignal turn no_ints no_ints (pos 0) no_ints
bare (NoVec multipliers) = NoVec no_ints
bare (NoCycle reaction walk) = NoCycle reaction no_nums
bare (NoPair alpha weights) = NoPair no_ints no_ints
bare (Plane first second one two) = Plane first second no_ints no_ints
bare other = other

-- the form of the head and its tests are the same without those lists
pub record DependsOnNoLists (net : Net) (earlier : Earlier) (q : Question)
    (v : Verdict) : Type 0 where
  pub form : HeadMayBe net earlier q v ↔ HeadMayBe net earlier q (bare v)
  pub hold : AllHold (head_tests net earlier q v) ↔ AllHold (head_tests net earlier q (bare v))
  pub fails : (part code : ℕ) → FailsFirst (head_tests net earlier q v) part code
      ↔ FailsFirst (head_tests net earlier q (bare v)) part code

-- the head of a verdict depends on none of the lists that later records hold
abbrev pub HeadsDependOnNoLists : Type 0
HeadsDependOnNoLists = (net : Net) (earlier : Earlier) (q : Question) (v : Verdict)
    → DependsOnNoLists net earlier q v
