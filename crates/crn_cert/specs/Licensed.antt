-- When an answer may be open.
-- Source: this project's own.
-- Shapes: an index and a basis count from 1, and so do linkage classes.
use Rattle.std.specs.Prelude.{◌≡◌, ◌⊎◌, ℕ, ℤ, Option, Some, None, List, [], ◌∷◌, ◌++◌}
use Rattle.std.specs.Option.{IsSome, IsSomeAnd}
use Rattle.crn_vec.specs.Network.{Net}
use Rattle.crn_vec.specs.Vectors.{Mat}
use Rattle.crn_vec.specs.Elementary.{NamesWide}
use Rattle.crn_vec.specs.Systems.{HasOneRowCut}
use Rattle.crn_vec.specs.Linkage.{IsLabelCount}
use Rattle.crn_vec.specs.CutPairs.{IsTerminalPair, IsCutPair}
use Rattle.crn_vec.specs.Deficiency.{IsLabelled, HasOneTerminalEach}
use Rattle.crn_vec.specs.NetSystems.{species_system, reaction_system, class_system, confluence_system, positive_kinds}
use Rattle.crn_vec.specs.Strong.{IsWeaklyReversible}
use Rattle.crn_vec.specs.Confluence.{negative}
use Rattle.crn_vec.specs.Visits.{PassesBudget}
use Rattle.crn_vec.specs.Concordance.{concordance}
use Rattle.crn_vec.specs.Signals.{Shape, shelf_matrix, signals}
use Rattle.crn_vec.specs.Influence.{plain_table, strong_table}
use Rattle.crn_vec.specs.NetSignals.{IsShapeOf, HasNoSignal}
use Rattle.crn_cert.specs.declared.answer.Gap.{Gap}
use Rattle.crn_cert.specs.declared.answer.Gap.TheVariants.{Wide, Budget, Rests}
use Rattle.crn_cert.specs.declared.answer.Verdict.{Verdict}
use Rattle.crn_cert.specs.declared.answer.Verdict.TheVariants.{Unknown}
use Rattle.crn_cert.specs.Questions.{Earlier, Question, Q5, Q6, Q7, Q8, Q10, Q11, Q12, Q13, Q14, Q15, number, rests_on, on, rank_of, vector_given, IsOpen, IsYes}
use Rattle.crn_cert.specs.Verdicts.{tight}
use Rattle.crn_cert.specs.Says.{IsTrueOf}
use Rattle.crn_cert.specs.Formed.{IsWideGap}

-- the system of linkage class k is wide
pub record IsClassWide (net : Net) (class : ℕ) (basis : List ℕ) (index : ℕ) : Type 0 where
  pub labels : List ℕ
  pub labelled : IsLabelled net labels
  pub wide : NamesWide (class_system net labels class) index basis

-- the confluence system is wide
pub record IsConfluenceWide (net : Net) (basis : List ℕ) (index : ℕ) : Type 0 where
  pub labels : List ℕ
  pub count : ℕ
  pub labelled : IsLabelled net labels
  pub count_is : IsLabelCount labels count
  pub wide : NamesWide (confluence_system net labels count) index basis

-- no single row rules positive solutions out
abbrev pub HasNoOneRow : Mat → Type 0
HasNoOneRow a = HasOneRowCut a (positive_kinds a) → ⊥

-- system 2 is wide, or system 5 of a shape of the network for g
abbrev pub IsSignalWide : Net → List ℤ → ℕ → List ℕ → ℕ → Type 0
IsSignalWide net g system basis index = ((system ≡ 2) × NamesWide (reaction_system net) index basis)
    ⊎ ((system ≡ 5) × ((s : Shape) × IsShapeOf net g s × NamesWide (shelf_matrix s) index basis))

-- the system of the question is wide at this basis and index, and the question it rests on is
-- decided
abbrev pub IsLicensedWide : Net → Earlier → Question → ℕ → ℕ → List ℕ → ℕ → Type 0
IsLicensedWide net earlier Q5 system class basis index = NamesWide (species_system net) index basis
IsLicensedWide net earlier Q6 system class basis index = IsSome (rank_of (on earlier Q5))
    × IsClassWide net class basis index
IsLicensedWide net earlier Q7 system class basis index = HasNoOneRow (reaction_system net)
    × NamesWide (reaction_system net) index basis
IsLicensedWide net earlier Q8 system class basis index = HasNoOneRow (species_system net)
    × NamesWide (species_system net) index basis
IsLicensedWide net earlier Q12 system class basis index = IsYes (on earlier Q11)
    × IsConfluenceWide net basis index
IsLicensedWide net earlier Q13 system class basis index =
    IsSomeAnd (vector_given (on earlier Q12)) (λ g. IsSignalWide net g system basis index)
IsLicensedWide net earlier Q14 system class basis index =
    NamesWide (reaction_system net) index basis
IsLicensedWide net earlier Q15 system class basis index =
    NamesWide (reaction_system net) index basis
IsLicensedWide net earlier q system class basis index = ⊥

-- more prefixes are visited for g than the budget allows
abbrev pub PassForSignals : Net → List ℤ → ℕ → Type 0
PassForSignals net g budget = (s : Shape) × IsShapeOf net g s
    × PassesBudget (signals s (reaction_system net)) budget

-- more prefixes are visited than the budget allows: of a signal those for g, or, if the network is
-- weakly reversible and g has no signal, those for the negative of g
abbrev pub IsLicensedBudget : Net → Earlier → Question → ℕ → Type 0
IsLicensedBudget net earlier Q13 budget =
    IsSomeAnd (vector_given (on earlier Q12))
    (λ g. PassForSignals net g budget
    ⊎ (IsWeaklyReversible net.reactions × HasNoSignal net g
    × PassForSignals net (negative g) budget))
IsLicensedBudget net earlier Q14 budget =
    PassesBudget (concordance (reaction_system net) (plain_table net)) budget
IsLicensedBudget net earlier Q15 budget =
    PassesBudget (concordance (reaction_system net) (strong_table net)) budget
IsLicensedBudget net earlier q budget = ⊥

-- every linked pair of a terminal class is a cut pair
abbrev pub AreAllCutPairs : Net → Type 0
AreAllCutPairs net = (y z : ℕ) → IsTerminalPair net.reactions y z → IsCutPair net.reactions y z

-- what else has to hold if a question is open because of the one that it rests on
abbrev pub IsLeftOpen : Net → Question → Type 0
IsLeftOpen net Q10 = HasOneTerminalEach net
IsLeftOpen net Q11 = HasOneTerminalEach net × AreAllCutPairs net
IsLeftOpen net q = Unit {0}

-- there is a question, and its verdict is open
abbrev pub IsOpenOn : Earlier → Option Question → Type 0
IsOpenOn earlier None = ⊥
IsOpenOn earlier (Some q) = IsOpen (on earlier q)

-- there is a question, and it has this number
abbrev pub IsNumberOfQuestion : Option Question → ℕ → Type 0
IsNumberOfQuestion None j = ⊥
IsNumberOfQuestion (Some q) j = number q ≡ j

-- the question on which an open one may rest
abbrev pub MayRestOn : Question → ℕ → Type 0
MayRestOn q j = IsNumberOfQuestion (rests_on q) j

-- the question that this one rests on is open, and so this one is open too
abbrev pub IsLicensedRest : Net → Earlier → Question → ℕ → Type 0
IsLicensedRest net earlier q j = MayRestOn q j × IsOpenOn earlier (rests_on q) × IsLeftOpen net q

-- a gap is licensed: it is of a form that the question admits, and has its cause
abbrev pub IsLicensed : Net → ℕ → Earlier → Question → Gap → Type 0
IsLicensed net budget earlier q (Wide system class index basis) =
    IsWideGap net earlier q system class index basis.list
    × IsLicensedWide net earlier q system class basis.list index
IsLicensed net budget earlier q (Budget nodes) = (nodes ≡ budget)
    × IsLicensedBudget net earlier q budget
IsLicensed net budget earlier q (Rests question) = IsLicensedRest net earlier q question

-- a verdict is true, or open and licensed
abbrev pub IsTrueOrLicensed : Net → ℕ → Earlier → Question → Verdict → Type 0
IsTrueOrLicensed net budget earlier q (Unknown gap) = IsLicensed net budget earlier q gap
IsTrueOrLicensed net budget earlier q verdict = IsTrueOf net q verdict

-- all verdicts on these questions are true, or open and licensed, each after the ones before, whose
-- lists count without their spares
abbrev pub AllTrueOrLicensed : Net → ℕ → Earlier → List Question → List Verdict → Type 0
AllTrueOrLicensed net budget earlier [] [] = Unit {0}
AllTrueOrLicensed net budget earlier (q ∷ qs) (v ∷ vs) = IsTrueOrLicensed net budget earlier q v
    × AllTrueOrLicensed net budget (earlier ++ (q, tight v) ∷ []) qs vs
AllTrueOrLicensed net budget earlier qs vs = ⊥
