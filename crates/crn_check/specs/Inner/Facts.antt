-- For the contracts of private functions alone.
-- The verdicts that fit in the memory that is reserved for one.
use Rattle.std.specs.Prelude.{◌≤◌, length}
use Rattle.crn_vec.specs.declared.limits.TheConstants.{MAX_REACTIONS}
use Rattle.crn_vec.specs.Kept.{KeptInts, KeptNums}
use Rattle.crn_cert.specs.declared.answer.Gap.{Gap}
use Rattle.crn_cert.specs.declared.answer.Gap.TheVariants.{Wide}
use Rattle.crn_cert.specs.declared.answer.Verdict.{Verdict}
use Rattle.crn_cert.specs.declared.answer.Verdict.TheVariants.{Classes, Strong, Rank, Deficiency, Yes, YesWeak, YesVec, YesSignal, No, NoReaction, NoVec, NoNumber, NoTerminal, NoClass, NoSum, NoDependence, NoCycle, NoPair, NotRegular, OnlyZero, Plane, NotApplicable, Unknown}

-- the list has no more numbers than there is memory for
abbrev pub HasFewNums : KeptNums → Type 0
HasFewNums kept = length kept.list ≤ MAX_REACTIONS

-- the list has no more numbers than there is memory for
abbrev pub HasFewInts : KeptInts → Type 0
HasFewInts kept = length kept.list ≤ MAX_REACTIONS

-- what leaves a question open fits
abbrev pub DoesGapFit : Gap → Type 0
DoesGapFit (Wide system class index basis) = HasFewNums basis
DoesGapFit other = Unit {0}

-- the verdict is of a variant that is kept, and holds no list
abbrev pub HoldsNoList : Verdict → Type 0
HoldsNoList Yes = Unit {0}
HoldsNoList (YesWeak weak) = Unit {0}
HoldsNoList (NoReaction reaction) = Unit {0}
HoldsNoList (NoNumber number) = Unit {0}
HoldsNoList (NoTerminal class count) = Unit {0}
HoldsNoList (NoClass class number) = Unit {0}
HoldsNoList (NoSum sum) = Unit {0}
HoldsNoList NoDependence = Unit {0}
HoldsNoList No = Unit {0}
HoldsNoList NotApplicable = Unit {0}
HoldsNoList NotRegular = Unit {0}
HoldsNoList OnlyZero = Unit {0}
HoldsNoList other = ⊥

-- the verdict is of a variant that is kept, and its lists are of large numbers and fit
abbrev pub DoesLargeFit : Verdict → Type 0
DoesLargeFit (YesVec vector) = HasFewInts vector
DoesLargeFit (YesSignal turn shelves mu level weights) = HasFewInts shelves × HasFewInts mu
    × HasFewInts weights
DoesLargeFit (NoVec multipliers) = HasFewInts multipliers
DoesLargeFit (NoPair alpha weights) = HasFewInts alpha × HasFewInts weights
DoesLargeFit (Plane first second one two) = HasFewInts one × HasFewInts two
DoesLargeFit other = HoldsNoList other

-- the verdict is of a variant that is kept, and its lists fit
abbrev pub DoesFit : Verdict → Type 0
DoesFit (Classes count label) = HasFewNums label
DoesFit (Strong count terminal label exit) = HasFewNums label × HasFewNums exit
DoesFit (Rank rank base) = HasFewNums base
DoesFit (Deficiency total classes) = HasFewNums classes
DoesFit (NoCycle reaction walk) = HasFewNums walk
DoesFit (Unknown gap) = DoesGapFit gap
DoesFit other = DoesLargeFit other
