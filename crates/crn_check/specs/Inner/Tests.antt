-- For the contracts of private functions alone.
-- The tests of the answers to single questions, over plain lists.
-- Shapes: labels, classes and reactions count from 1, complexes from 0.
use Rattle.std.specs.Prelude.{◌≡◌, ◌≢◌, ◌≤◌, ◌<◌, ◌+◌, ◌⊎◌, ◌↔◌, Bool, IsTrue, ℕ, ℤ, List, [], ◌∷◌, ◌++◌, length, map, slice_index, sum}
use Rattle.std.specs.List.{range_with_len}
use Rattle.crn_vec.specs.Network.{Net}
use Rattle.crn_vec.specs.NetSystems.{reaction_system}
use Rattle.crn_vec.specs.Concordance.{sign, IsDiscordant}
use Rattle.crn_vec.specs.Signals.{Shape, IsShape, IsSignal}
use Rattle.crn_vec.specs.declared.signs.Sign.{Sign}
use Rattle.crn_vec.specs.Deficiency.{AreAtMostOne}
use Rattle.crn_cert.specs.declared.answer.Verdict.{Verdict}
use Rattle.crn_cert.specs.declared.answer.Verdict.TheVariants.{Yes, NoClass, NoSum, NoDependence, NoCycle, YesSignal}
use Rattle.crn_cert.specs.Questions.{Earlier, Q4, Q5, Q6, Q7, IsNo, IsOpen, IsYes, on, rank_of, deficiencies_of}
use Rattle.crn_cert.specs.Says.{IsReactionNumber}
use Rattle.crn_cert.specs.Valid.{IsLeft, AreClassNumbers, HaveOneEach, IsFirstSplit, IsFirstLarge, WithDeficiencies, linkage, linkage_count, IsWithinTerminal, IsNormal, IsApartAt}
use Rattle.std.specs.Option.{IsSome}
use Rattle.crn_cert.specs.Ranges.{AreFree, IsNarrow}
use Rattle.crn_cert.specs.Tests.{Test, test}
use Rattle.crn_cert.specs.ClassTests.{AreNumbered, AreEven, AreLinkTrees, AreFromTrees, AreToTrees, DoLevelsFall, AreAllExits, GoesOut, of_class, zeros_in, IsWayRound}
use Rattle.crn_cert.specs.ConfluenceTests.{least_from, others_than, tie_tests}
use Rattle.crn_cert.specs.Faults.{BadEvidence, BadVector, WrongClasses, WrongNumber, WrongVerdict, WrongWalk}

-- the tests of linkage classes
abbrev pub link_tests : Net → ℕ → List ℕ → List ℕ → List ℕ → List Test
link_tests net count labels up depth =
    test 1 WrongClasses (AreNumbered labels count × AreEven net labels)
    ∷ test 3 WrongClasses (AreLinkTrees net labels up depth) ∷ []

-- the tests of the labels and the trees of strong classes
abbrev pub strong_trees : Net → ℕ → List ℕ → List ℕ → List ℕ → List ℕ → List ℕ → List Test
strong_trees net count labels from from_depth to to_depth =
    test 1 WrongClasses (AreNumbered labels count)
    ∷ test 3 WrongClasses (AreFromTrees net labels from from_depth)
    ∷ test 5 WrongClasses (AreToTrees net labels to to_depth) ∷ []

-- the tests of the levels and the exits of strong classes
abbrev pub exit_tests : Net → ℕ → List ℕ → List ℕ → List ℕ → List Test
exit_tests net terminal labels level exit =
    test 6 WrongClasses (DoLevelsFall net labels level)
    ∷ test 7 WrongClasses (AreAllExits net labels exit)
    ∷ test 7 WrongNumber (zeros_in exit ≡ terminal) ∷ []

-- a step between two classes goes to a class of a smaller level
abbrev pub Falls : List ℕ → List ℕ → ℕ → ℕ → Type 0
Falls labels level y z = (slice_index labels y ≡ slice_index labels z)
    ⊎ (of_class labels level z < of_class labels level y)

-- no reaction leaves a class whose exit is 0
abbrev pub DoFinalsHold : Net → List ℕ → List ℕ → Type 0
DoFinalsHold net labels exits = (k r : ℕ) → k < length exits → slice_index exits k ≡ 0
    → GoesOut net labels (k + 1) r → ⊥

-- each exit that is not 0 leaves its class
abbrev pub DoExitsLeave : Net → List ℕ → List ℕ → Type 0
DoExitsLeave net labels exits = (k : ℕ) → k < length exits → slice_index exits k ≢ 0
    → GoesOut net labels (k + 1) (slice_index exits k)

-- reaction r goes to another label
abbrev pub LeavesLabels : Net → List ℕ → ℕ → Type 0
LeavesLabels net labels r = (y : ℕ) × (z : ℕ) × IsReactionNumber net r y z
    × (slice_index labels y ≢ slice_index labels z)

-- the tests of the numbers of a head on deficiencies
abbrev pub number_tests : Net → Earlier → ℕ → List ℕ → List Test
number_tests net earlier total classes =
    test 0 WrongVerdict (IsSome (rank_of (on earlier Q5)))
    ∷ test 0 WrongNumber (IsLeft net earlier total (rank_of (on earlier Q5))
    × AreClassNumbers net earlier 1 classes) ∷ []

-- the tests of a yes on the Deficiency Zero Theorem
abbrev pub case_tests : Net → Earlier → Bool → List Test
case_tests net earlier weak =
    test 0 WrongVerdict (IsSome (rank_of (on earlier Q5)))
    ∷ test 0 WrongVerdict (IsLeft net earlier 0 (rank_of (on earlier Q5))
    × (IsTrue weak ↔ IsYes (on earlier Q4))) ∷ []

-- the tests of a no on it
abbrev pub total_tests : Net → Earlier → ℕ → List Test
total_tests net earlier total =
    test 0 WrongVerdict (IsSome (rank_of (on earlier Q5)))
    ∷ test 0 WrongNumber (IsLeft net earlier total (rank_of (on earlier Q5))) ∷ []

-- the deficiencies of the first classes are at most 1
abbrev pub AreSmallTo : List ℕ → ℕ → Type 0
AreSmallTo classes last = (j : ℕ) → j < last → slice_index classes j ≤ 1

-- the class that a verdict names counts from 1
abbrev pub NamesClass : Verdict → Type 0
NamesClass (NoClass class d) = 1 ≤ class
NamesClass other = Unit {0}

-- the deficiencies are as the verdict on the Deficiency One Theorem says
abbrev pub OfDeficiencies : Verdict → ℕ → List ℕ → Type 0
OfDeficiencies Yes total classes = AreAtMostOne classes × (sum classes ≡ total)
OfDeficiencies (NoClass k d) total classes = IsFirstLarge k d classes
OfDeficiencies (NoSum x) total classes = AreAtMostOne classes × (sum classes ≡ x) × (x ≢ total)
OfDeficiencies other total classes = ⊥

-- the test of a head that speaks of deficiencies
abbrev pub known_tests : Earlier → Verdict → List Test
known_tests earlier verdict =
    test 0 WrongVerdict
    (HaveOneEach earlier
    × WithDeficiencies (OfDeficiencies verdict) (deficiencies_of (on earlier Q6))) ∷ []

-- the test of a head that names a class with several terminal classes
abbrev pub split_tests : Earlier → ℕ → ℕ → List Test
split_tests earlier k count = test 0 WrongVerdict (IsFirstSplit earlier k count) ∷ []

-- what a head on regularity needs of positive dependence, and of the reaction that it names
abbrev pub IsAllowed : Net → Earlier → Verdict → Type 0
IsAllowed net earlier Yes = IsYes (on earlier Q7)
IsAllowed net earlier NoDependence = IsNo (on earlier Q7)
IsAllowed net earlier (NoCycle r walk) = (IsYes (on earlier Q7) ⊎ IsOpen (on earlier Q7))
    × IsWithinTerminal net earlier r
IsAllowed net earlier other = ⊥

-- the test of a head on regularity that needs one terminal class in each linkage class
abbrev pub allowed_tests : Net → Earlier → Verdict → List Test
allowed_tests net earlier verdict =
    test 0 WrongVerdict (HaveOneEach earlier × IsAllowed net earlier verdict) ∷ []

-- the test of the walk round a linked pair
abbrev pub walk_tests : Net → ℕ → List ℕ → List Test
walk_tests net r walk = test 1 WrongWalk (IsWayRound net r walk) ∷ []

-- the tests of a confluence vector and of its ties
abbrev pub vector_tests : Net → Earlier → List ℤ → List (List ℤ) → List Test
vector_tests net earlier g ties =
    test 1 BadVector (IsNormal net earlier g)
    ∷ tie_tests net (linkage earlier) (linkage_count earlier) (λ d. d ≡ least_from 0 g) 2
    (others_than net (least_from 0 g)) ties

-- the tests of the ties of all complexes
abbrev pub zero_tests : Net → Earlier → List (List ℤ) → List Test
zero_tests net earlier ties =
    tie_tests net (linkage earlier) (linkage_count earlier) (λ d. ⊥) 1
    (range_with_len 0 (length net.complexes)) ties

-- the test of one of the two vectors of a plane
abbrev pub apart_tests : Net → Earlier → ℕ → ℕ → ℕ → List ℤ → List Test
apart_tests net earlier part own other g = test part BadVector (IsApartAt net earlier own other g) ∷ []

-- the tests of the two vectors of a plane
abbrev pub plane_tests : Net → Earlier → ℕ → ℕ → List ℤ → List ℤ → List Test
plane_tests net earlier first second one two =
    apart_tests net earlier 1 first second one ++ apart_tests net earlier 2 second first two

-- the test of two lists that show a table discordant
abbrev pub pair_tests : Net → List (List Sign) → List ℤ → List ℤ → List Test
pair_tests net table alpha weights =
    test 2 BadEvidence (IsDiscordant (reaction_system net) table alpha weights) ∷ []

-- the verdict is a signal, and its lists have the lengths and ranges of one over the shape
abbrev pub DoListsFit : Net → Shape → Verdict → Type 0
DoListsFit net shape (YesSignal turn shelves mu level weights) = IsShape net shape
    × (length shelves.list ≡ shape.count) × AreFree (length net.names) mu.list × IsNarrow level
    × AreFree (length net.reactions) weights.list
DoListsFit net shape other = ⊥

-- the test of the lists of a signal, over a shape
abbrev pub shape_tests : Net → Shape → Verdict → List Test
shape_tests net shape (YesSignal turn shelves mu level weights) =
    test 4 BadEvidence (IsSignal shape (reaction_system net) (map sign shelves.list) mu.list level
    weights.list) ∷ []
shape_tests net shape other = []
