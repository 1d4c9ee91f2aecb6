-- For the contracts of private functions alone.
-- What visits have shown: laws, and numbers that increase species.
-- Shapes: species count from 0.
use Rattle.std.specs.Prelude.{◌≡◌, ◌≢◌, ◌<◌, ◌++◌, ℕ, ℤ, pos, ◌≤ℤ◌, List, length, slice_index_or}
use Rattle.std.specs.List.{AllByRecursion}
use Rattle.crn_vec.specs.Kept.{KeptInts}
use Rattle.crn_vec.specs.Network.{Net}
use Rattle.crn_vec.specs.Vectors.{entry}
use Rattle.crn_vec.specs.Elementary.{NamesWide}
use Rattle.crn_vec.specs.Rank.{combination_at}
use Rattle.crn_vec.specs.Deficiency.{vectors}
use Rattle.crn_vec.specs.NetSystems.{reaction_system}
use Rattle.crn_cert.specs.Ranges.{AreFree}
use Rattle.crn_farkas.specs.declared.fault.Stop.{Stop}
use Rattle.crn_farkas.specs.declared.fault.Stop.TheVariants.{Wide, NoMemory}
use Rattle.crn_siphon_check.specs.Siphons.{IsSemiLaw}
use Rattle.crn_siphon.specs.declared.sets.SpeciesSet.{SpeciesSet}
use Rattle.crn_siphon.specs.declared.known.Fact.{Fact}
use Rattle.crn_siphon.specs.declared.known.Finding.{Finding}
use Rattle.crn_siphon.specs.declared.known.Finding.TheVariants.{Law, Cover}
use Rattle.crn_siphon.specs.declared.known.Known.{Known}
use Rattle.crn_siphon.specs.Inner.Sets.{Has}
use Rattle.crn_siphon.specs.Inner.Changes.{AreChanges}

-- the reactions with these numbers increase each member of the set
abbrev pub AreIncreased : Net → SpeciesSet → (numbers : List ℤ) → Type 0
AreIncreased net set numbers = (s : ℕ) → s < length net.names → Has set s
    → pos 1 ≤ℤ combination_at numbers (vectors net) s

-- a law whose species are all in the set, with numbers of a certificate
pub record IsLawIn (net : Net) (set : SpeciesSet) (weights : List ℤ) : Type 0 where
  pub free : AreFree (length net.names) weights
  pub law : IsSemiLaw net weights
  pub within : (s : ℕ) → entry weights s ≢ pos 0 → Has set s

-- numbers of a certificate that increase each member of the set
pub record IsCoverIn (net : Net) (set : SpeciesSet) (numbers : List ℤ) : Type 0 where
  pub free : AreFree (length net.reactions) numbers
  pub increased : AreIncreased net set numbers

-- each is a law, with its species
abbrev pub AreLaws : Net → List Fact → Type 0
AreLaws net laws = AllByRecursion (λ law. IsLawIn net law.species law.numbers.list) laws

-- each has numbers that increase its species
abbrev pub AreCovers : Net → List Fact → Type 0
AreCovers net covers = AllByRecursion (λ cover. IsCoverIn net cover.species cover.numbers.list) covers

-- numbers that increase species, those that are tried first among them, and laws
pub record IsKnown (net : Net) (known : Known) : Type 0 where
  pub covers : AreCovers net known.covers.items
  pub first : known.first < length known.covers.items
  pub laws : AreLaws net known.laws.items
  pub changes : AreChanges net (length net.reactions) known.changes.items

-- these numbers and species
abbrev pub fact : KeptInts → SpeciesSet → Fact
fact numbers species = record { numbers = numbers; species = species }

-- the fact at this place has these numbers
pub record IsFactAt (facts : List Fact) (k : ℕ) (list : List ℤ) : Type 0 where
  pub inside : k < length facts
  pub is : (none : Fact) → (slice_index_or facts k none).numbers.list ≡ list

-- the law at this place is within the set
abbrev pub IsLawWithin : Net → SpeciesSet → List Fact → (k : ℕ) → Type 0
IsLawWithin net set laws k = (weights : List ℤ) × IsFactAt laws k weights × IsLawIn net set weights

-- the numbers at this place increase each member of the set
abbrev pub IsCoverOf : Net → SpeciesSet → List Fact → (k : ℕ) → Type 0
IsCoverOf net set covers k = (numbers : List ℤ) × IsFactAt covers k numbers × IsCoverIn net set numbers

-- what is found of a set
abbrev pub IsFinding : Net → SpeciesSet → Known → Finding → Type 0
IsFinding net set known (Law k) = IsLawWithin net set known.laws.items k
IsFinding net set known (Cover k) = IsCoverOf net set known.covers.items k

-- a list with some more at its end
abbrev pub HasMore : {A : Type 0} → List A → List A → Type 0
HasMore {A} list longer = (more : List A) × (longer ≡ list ++ more)

-- system 2 is wide there, or memory ran out
abbrev pub IsSearchStop : Net → Stop → Type 0
IsSearchStop net (Wide index basis) = NamesWide (reaction_system net) index basis.list
IsSearchStop net NoMemory = Unit {0}
