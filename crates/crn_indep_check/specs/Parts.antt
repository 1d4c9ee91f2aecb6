-- What an answer on the finest independent decomposition has to be.
-- Source: this project's own.
use Rattle.std.specs.Prelude.{length}
use Rattle.crn_vec.specs.Network.{Net}
use Rattle.crn_vec.specs.Elementary.{NamesWide}
use Rattle.crn_vec.specs.NetSystems.{species_system}
use Rattle.crn_cert.specs.Data.{IsBasisOf}
use Rattle.crn_indep_check.specs.declared.parts.Parts.{Parts}
use Rattle.crn_indep_check.specs.declared.parts.Parts.TheVariants.{Split, Wide}
use Rattle.crn_indep_check.specs.Finest.{IsFinestDecomposition}
use Rattle.crn_indep_check.specs.Shown.{IsShownForm, IsShown, part_ranks, greatest}

-- the lists have their lengths and ranges
abbrev pub IsFormedParts : Net → Parts → Type 0
IsFormedParts net (Split rank label up depth) =
    IsShownForm net (length rank.base.list) rank label.list up.list depth.list
IsFormedParts net (Wide index basis) =
    IsBasisOf (length net.names) (length net.reactions) index basis.list

-- it is shown to be the finest; an open answer has no tests
abbrev pub AreValidParts : Net → Parts → Type 0
AreValidParts net (Split rank label up depth) =
    IsShown net rank label.list up.list depth.list
AreValidParts net (Wide index basis) = Unit {0}

-- an open answer names a wide vector of the matrix of the reaction vectors
abbrev pub AreLicensedParts : Net → Parts → Type 0
AreLicensedParts net (Split rank label up depth) = Unit {0}
AreLicensedParts net (Wide index basis) = NamesWide (species_system net) index basis.list

-- the labels are those of the finest independent decomposition, and these are the ranks of its parts;
-- an open answer says nothing
abbrev pub AreTrueParts : Net → Parts → Type 0
AreTrueParts net (Split rank label up depth) =
    IsFinestDecomposition net label.list (part_ranks rank label.list (greatest label.list))
AreTrueParts net (Wide index basis) = Unit {0}

-- an answer that a solver may give
pub record IsPartsAnswer (net : Net) (answer : Parts) : Type 0 where
  pub formed : IsFormedParts net answer
  pub valid : AreValidParts net answer
  pub true_of : AreTrueParts net answer
  pub licensed : AreLicensedParts net answer
