-- Answers on persistence: when one is formed, valid and true, and when it may be open.
-- Source: this project's own; Angeli, De Leenheer and Sontag (2007) for the siphons.
-- Shapes: marks of a set are 1 for a member and 0 for the others; systems, coordinates and bases count
-- from 1.
use Rattle.std.specs.Prelude.{◌≡◌, ◌≤◌, ◌⊎◌, ℕ, ℤ, List, [], length}
use Rattle.crn_vec.specs.Network.{Net, IsNetwork}
use Rattle.crn_vec.specs.Elementary.{NamesWide}
use Rattle.crn_vec.specs.Deficiency.{IsConservationLaw, IsConservative}
use Rattle.crn_vec.specs.NetSystems.{species_system, reaction_system}
use Rattle.crn_vec.specs.declared.limits.TheConstants.{MAX_BUDGET}
use Rattle.crn_cert.specs.Ranges.{AreFree, AreBits}
use Rattle.crn_cert.specs.Data.{IsBasisOf}
use Rattle.crn_cert.specs.Says.{RuleOutConservation}
use Rattle.crn_siphon_check.specs.Siphons.{IsSiphon, Covers, IsPersistent, set_of}
use Rattle.crn_siphon_check.specs.Trees.{Plan, IsValidTree, IsFormedTree, node_count}
use Rattle.crn_siphon_check.specs.SiphonVisits.{PassesBudget}
use Rattle.crn_siphon_check.specs.declared.answer.Persist.{Persist}
use Rattle.crn_siphon_check.specs.declared.answer.Persist.TheVariants as given

-- ---- what an answer says

-- what an answer says, without what holds its parts
pub data Said : Type 0 where
  -- a law with positive weights, and a tree
  Yes : (law : List ℤ) → Plan → Said
  -- numbers that exclude every law with positive weights
  NoLaw : (cut : List ℤ) → Said
  -- a siphon by marks, and numbers that increase each member
  NoSiphon : (marks cover : List ℤ) → Said
  -- a system is wide at this coordinate and basis
  Wide : (system index : ℕ) → (basis : List ℕ) → Said
  -- the visits exceed this budget
  Spent : (nodes : ℕ) → Said

-- what an answer says
abbrev pub said_of : Persist → Said
said_of (given.Yes law tree) = Yes law.list tree
said_of (given.NoLaw cut) = NoLaw cut.list
said_of (given.NoSiphon marks cover) = NoSiphon marks.list cover.list
said_of (given.Wide system index basis) = Wide system index basis.list
said_of (given.Spent nodes) = Spent nodes

-- ---- when it is formed, valid and true

-- the set that the marks say is a siphon, and the numbers increase each of its members
abbrev pub IsCovered : Net → (marks numbers : List ℤ) → Type 0
IsCovered net marks numbers = IsSiphon net (set_of marks) × Covers net (set_of marks) numbers

-- system 1 or system 2 is wide at this coordinate and basis
abbrev pub IsSystemWide : Net → ℕ → ℕ → List ℕ → Type 0
IsSystemWide net system index basis =
    ((system ≡ 1) × NamesWide (species_system net) index basis)
    ⊎ ((system ≡ 2) × NamesWide (reaction_system net) index basis)

-- a coordinate and a basis of system 1 or of system 2
abbrev pub IsSystemBasis : Net → ℕ → ℕ → List ℕ → Type 0
IsSystemBasis net system index basis =
    ((system ≡ 1) × IsBasisOf (length net.names) (length net.reactions) index basis)
    ⊎ ((system ≡ 2) × IsBasisOf (length net.reactions) (length net.names) index basis)

-- the numbers of the answer are those that its lines may have
abbrev pub IsFormed : Net → Said → Type 0
IsFormed net (Yes law tree) = AreFree (length net.names) law × IsFormedTree net 0 tree
IsFormed net (NoLaw cut) = AreFree (length net.reactions) cut
IsFormed net (NoSiphon marks cover) = AreBits (length net.names) marks
    × AreFree (length net.reactions) cover
IsFormed net (Wide system index basis) = IsSystemBasis net system index basis
IsFormed net (Spent nodes) = (1 ≤ nodes) × (nodes ≤ MAX_BUDGET)

-- its tests hold; an open answer has none
abbrev pub IsValid : Net → Said → Type 0
IsValid net (Yes law tree) = IsConservationLaw net law × IsValidTree net [] tree
IsValid net (NoLaw cut) = RuleOutConservation net cut
IsValid net (NoSiphon marks cover) = IsCovered net marks cover
IsValid net (Wide system index basis) = Unit {0}
IsValid net (Spent nodes) = Unit {0}

-- a decided answer says the truth
abbrev pub IsTrueOf : Net → Said → Type 0
IsTrueOf net (Yes law tree) = IsPersistent net
IsTrueOf net (NoLaw cut) = IsPersistent net → ⊥
IsTrueOf net (NoSiphon marks cover) = IsPersistent net → ⊥
IsTrueOf net (Wide system index basis) = Unit {0}
IsTrueOf net (Spent nodes) = Unit {0}

-- formed answers whose tests hold say the truth
abbrev pub ValidAnswersAreTrue : Type 0
ValidAnswersAreTrue = (net : Net) (answer : Said) → IsNetwork net → IsFormed net answer
    → IsValid net answer → IsTrueOf net answer

-- An open answer has its cause: its system is wide there, or the network is conservative and its visits
-- exceed the budget. A decided one has what its document does not show: the visits of a conservative
-- network do not exceed the budget.
abbrev pub IsLicensed : Net → (budget : ℕ) → Said → Type 0
IsLicensed net budget (Wide system index basis) = IsSystemWide net system index basis
IsLicensed net budget (Spent nodes) = (nodes ≡ budget) × IsConservative net
    × PassesBudget net budget
IsLicensed net budget (Yes law tree) = (PassesBudget net budget → ⊥) × (node_count tree ≤ budget)
IsLicensed net budget (NoLaw cut) = Unit {0}
IsLicensed net budget (NoSiphon marks cover) = (PassesBudget net budget → ⊥)
    × IsConservative net

-- an answer that a solver may give with this budget
pub record IsAnswer (net : Net) (budget : ℕ) (answer : Said) : Type 0 where
  pub formed : IsFormed net answer
  pub valid : IsValid net answer
  pub true_of : IsTrueOf net answer
  pub licensed : IsLicensed net budget answer
